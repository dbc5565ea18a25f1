-- The identities of rules as lists.
use Rattle.std.specs.Prelude.{ℕ, Bool, ◌==◌, List}
use Rattle.std.specs.List.{list_any}

-- the identity is one of these
abbrev pub has_id : List ℕ → ℕ → Bool
has_id rules wanted = list_any (λ id. id == wanted) rules
