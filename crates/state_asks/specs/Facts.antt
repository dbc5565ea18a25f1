-- What a publication tells the states: the identities of its rules.
use Rattle.std.specs.Prelude.{ℕ, Bool, true, false, nat_lt, ◌==◌, ◌&&◌, List, [], ◌∷◌}

-- each identity is above the one before, and the first is above the least
abbrev pub rises_from : ℕ → List ℕ → Bool
rises_from least [] = true
rises_from least (id ∷ rest) = nat_lt least id && rises_from id rest

-- identities ascend strictly and begin with 0, that of rule 65535
abbrev pub is_rule_list : List ℕ → Bool
is_rule_list [] = false
is_rule_list (id ∷ rest) = id == 0 && rises_from 0 rest
