-- Texts and the map that tells their numbers, with one text more.
use Rattle.std.proofs.Common.{◌≡◌, ℕ, true, false, cond, ◌||◌, Option, None, Some, List, [], ◌∷◌, ◌++◌, length, refl, sym, ap, ◌∙◌, subst, arith, inl, inr, nat_eq}
use Rattle.std.specs.Cmp.Lexicographic.{pointwise}
use Rattle.std.specs.HashMap.{HashMap, Updates}
use Rattle.std.specs.List.{IsDistinct, list_any}
use Rattle.std.specs.Map.{KeepsOthers}
use Rattle.std.specs.Prelude.{Vec}
use Rattle.std.proofs.lemmas.Bool.{cases_Bool}
use Rattle.std.proofs.lemmas.Cmp.{nat_list_eq_equiv}
use Rattle.std.proofs.lemmas.List.{get_or_append_left, get_or_push, length_push}
use Rattle.std.proofs.lemmas.List.Folds.{list_any-append}
use Rattle.std.proofs.lemmas.Map.Keys.{IsDistinct-push}
use Rattle.std.proofs.lemmas.Slice.Eq.{bytes_eq-Decides}
use Rattle.report_values.specs.TextNumbers.{AreNumbered, IsNumberOf, number_in}

-- the number of each other text is what it was
updates_text : {A S : Type 0} (text : List ℕ) (old new : HashMap (Vec ℕ A) ℕ S) (key : Vec ℕ A) (told : Option ℕ) → key.items ≡ text
    → Updates (λ x y. pointwise nat_eq x.items y.items) old new key told
    → (other : List ℕ) → number_in new other ≡ cond (pointwise nat_eq text other) told (number_in old other)
unfolding KeepsOthers
updates_text text old new key told is updates other = elim (cases_Bool (pointwise nat_eq text other)) [
  | inl same ↦
      let equal : text ≡ other = (bytes_eq-Decides text other).0 same in
      rw same (subst (λ bs. number_in new bs ≡ told) (is ∙ equal) updates.1)
  | inr apart ↦
      rw apart (updates.3 (λ k. pointwise nat_eq other k.items) (λ x y. nat_list_eq_equiv.congr other x.items y.items)
      (λ k found. nat_list_eq_equiv.symm other k.items ∙ sym (nat_list_eq_equiv.congr text k.items other (subst (λ bs. pointwise nat_eq bs k.items ≡ true) is found)) ∙ apart))
]

-- no text has a number at first
pub none_numbered : {A S : Type 0} (numbers : HashMap (Vec ℕ A) ℕ S) → numbers.entries ≡ [] → AreNumbered [] numbers
unfolding IsDistinct
none_numbered numbers none = record { distinct = tt; found = λ text. rw none refl }

module _ (texts : List (List ℕ)) (text : List ℕ) where
  -- the numbers of other texts stay with one text more
  number_stays : (other : List ℕ) (found : Option ℕ) → pointwise nat_eq text other ≡ false → IsNumberOf texts other found
      → IsNumberOf (texts ++ text ∷ []) other found
  number_stays other None apart none =
      list_any-append (pointwise nat_eq other) texts (text ∷ []) ∙ ap (λ b. b || (pointwise nat_eq other text || false)) none
      ∙ ap (λ b. b || false) (nat_list_eq_equiv.symm other text ∙ apart)
  number_stays other (Some number) apart found = record {
    within = omega (arith, found.within, length_push texts text);
    is = get_or_append_left texts (text ∷ []) [] number found.within ∙ found.is;
  }

  -- one text more has its number
  pub numbered_more : {A S : Type 0} (old new : HashMap (Vec ℕ A) ℕ S) (key : Vec ℕ A) (number : ℕ) → AreNumbered texts old
      → list_any (pointwise nat_eq text) texts ≡ false → key.items ≡ text → number ≡ length texts
      → Updates (λ x y. pointwise nat_eq x.items y.items) old new key (Some number) → AreNumbered (texts ++ text ∷ []) new
  numbered_more old new key number before apart is at updates = record {
    distinct = IsDistinct-push nat_list_eq_equiv texts text before.distinct apart;
    found = λ other. subst (IsNumberOf (texts ++ text ∷ []) other) (sym (updates_text text old new key (Some number) is updates other))
        (elim (cases_Bool (pointwise nat_eq text other)) [
          | inl same ↦ rw same (record {
            within = omega (arith, at, length_push texts text);
            is = get_or_push texts text [] number (sym at) ∙ (bytes_eq-Decides text other).0 same;
          })
          | inr other_text ↦ rw other_text (number_stays other (number_in old other) other_text (before.found other))
        ]);
  }
