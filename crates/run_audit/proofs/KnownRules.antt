-- A rule that has a place among others is one of them.
use Rattle.std.proofs.Common.{◌≡◌, ℕ, ◌<◌, true, Some, List, [], ◌∷◌, length, refl, inl, inr, arith, nat_lt}
use Rattle.std.specs.List.{position_or_len}
use Rattle.std.proofs.lemmas.Bool.{cases_Bool, ltb-true}
use Rattle.std.proofs.lemmas.Option.{cond_some}
use Rattle.fw_rule.specs.declared.rule.Rule.{Rule}
use Rattle.generation_store.specs.Published.{is_identity, has_identity, place_of_rule}

-- where the first rule of this identity stands, or how many there are
abbrev first_place : ℕ → List Rule → ℕ
first_place id rules = position_or_len (is_identity id) rules

some_has : (id : ℕ) (rules : List Rule) → first_place id rules < length rules → has_identity rules id ≡ true
some_has id [] less = absurd (omega (arith, less))
some_has id (rule ∷ rules) less = elim (cases_Bool (is_identity id rule)) [
  | inl same ↦ rw same refl
  | inr other ↦
      let more = rw other at less in
      let inner : first_place id rules < length rules = omega (arith, more) in
      rw other (some_has id rules inner)
]

-- a rule that has a place is there
pub placed_has : (id place : ℕ) (rules : List Rule) → place_of_rule id rules ≡ Some place → has_identity rules id ≡ true
placed_has id place rules is =
    let (within, same) = cond_some (nat_lt (first_place id rules) (length rules)) (first_place id rules) place is in
    some_has id rules (ltb-true _ _ within)
