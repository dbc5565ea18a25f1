-- Uses one after the other.
use Rattle.std.proofs.Common.{◌≡◌, Ok, Err, Option, Some, None, List, [], ◌∷◌, ◌++◌, refl}
use Rattle.std.specs.List.{filter_map}
use Rattle.lookup_tables.specs.Tables.{NamedTables}
use Rattle.rule_edits.specs.Answers.{◌>>=◌}
use Rattle.rule_edits.specs.Lookups.{with_use, with_uses}
use Rattle.rule_edits.specs.Uses.{Use}

-- the uses of two lists are made one list after the other
pub uses_append : (tables : NamedTables) (us vs : List Use) → with_uses tables (us ++ vs) ≡ with_uses tables us >>= λ made. with_uses made vs
uses_append tables [] vs = refl
uses_append tables (u ∷ us) vs =
    elim (with_use tables u) as (λ a. (a >>= λ made. with_uses made (us ++ vs)) ≡ ((a >>= λ made. with_uses made us) >>= λ made. with_uses made vs)) [
      | Ok made ↦ uses_append made us vs
      | Err fault ↦ refl
    ]

-- where some use is of a table, and where none is
pub use_some : {X : Type 0} (use_of : X → Option Use) (x : X) (xs : List X) (u : Use) → use_of x ≡ Some u → filter_map use_of (x ∷ xs) ≡ u ∷ filter_map use_of xs
use_some use_of x xs u is = rw is refl

-- an element without a use adds none
pub use_none : {X : Type 0} (use_of : X → Option Use) (x : X) (xs : List X) → use_of x ≡ None → filter_map use_of (x ∷ xs) ≡ filter_map use_of xs
use_none use_of x xs is = rw is refl
