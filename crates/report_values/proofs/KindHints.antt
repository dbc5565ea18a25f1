-- Kinds of entries that differ, and the map that tells their places.
use Rattle.std.proofs.Common.{◌≡◌, ℕ, true, cond, None, Some, List, [], ◌∷◌, ◌++◌, length, get_or, sym, ap, ◌∙◌, arith, inl, inr, rules}
use Rattle.std.specs.HashMap.{HashMap, Updates, get}
use Rattle.std.proofs.lemmas.Bool.{cases_Bool, cases_lt}
use Rattle.std.proofs.lemmas.List.{get_or_append_left, get_or_push, length_push}
use Rattle.eval_engine.specs.contracts.docket_entry.DocketEntryPartialEq.TheImpl.{eq-value}
use Rattle.eval_engine.specs.declared.docket_entry.DocketEntry.{DocketEntry}
use Rattle.eval_engine.specs.declared.docket_entry.DocketEntry.TheVariants.{Other}
use Rattle.report_values.specs.Records.{AreDistinct, AreHinted, IsNew}

-- entries that are found equal are one
same_entry : (a b : DocketEntry) → eq-value.it a b ≡ true → a ≡ b
same_entry a b is = search (rules)

-- and an entry is found equal to itself
itself : (a : DocketEntry) → eq-value.it a a ≡ true
itself a = search (rules)

module _ {S : Type 0} (kinds : List DocketEntry) (entry : DocketEntry) where
  -- the places of the others stay where a new entry's is told
  pub hints_insert : (old new : HashMap DocketEntry ℕ S) (number : ℕ) → AreHinted kinds old → IsNew kinds entry
      → Updates eq-value.it old new entry (Some number) → AreHinted kinds new
  hints_insert old new number before isn't updates place less = elim (cases_Bool (eq-value.it entry (get_or kinds place Other))) [
    | inl same ↦ absurd (isn't place less (sym (same_entry entry (get_or kinds place Other) same)))
    | inr apart ↦
        updates.0 (get_or kinds place Other)
        ∙ ap (λ b. cond b (Some number) (get eq-value.it old (get_or kinds place Other))) apart ∙ before place less
  ]

  -- and with the entry behind the others its place is told too
  pub hints_more : (old new : HashMap DocketEntry ℕ S) (number : ℕ) → AreHinted kinds old → IsNew kinds entry
      → Updates eq-value.it old new entry (Some number) → number ≡ length kinds → AreHinted (kinds ++ entry ∷ []) new
  hints_more old new number before isn't updates at place less = elim (cases_lt place (length kinds)) [
    | inl within ↦
        ap (get eq-value.it new) (get_or_append_left kinds (entry ∷ []) Other place within)
        ∙ hints_insert old new number before isn't updates place within
    | inr above ↦
        let here : length kinds ≡ place = omega (arith, less, above, length_push kinds entry) in
        ap (get eq-value.it new) (get_or_push kinds entry Other place here)
        ∙ updates.0 entry ∙ ap (λ b. cond b (Some number) (get eq-value.it old entry)) (itself entry)
        ∙ ap Some (at ∙ here)
  ]

some_same : (a b : ℕ) → Some a ≡ Some b → a ≡ b
some_same a b is = ap (λ o. elim o [ None ↦ a | Some n ↦ n ]) is

-- entries whose places a map tells are distinct
pub hinted_distinct : {S : Type 0} (kinds : List DocketEntry) (hints : HashMap DocketEntry ℕ S) → AreHinted kinds hints → AreDistinct kinds
hinted_distinct kinds hints told first second one two same =
    some_same first second (sym (told first one) ∙ ap (get eq-value.it hints) same ∙ told second two)
