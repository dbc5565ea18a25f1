-- One element more at the end of a list: how often something is in it then, where first and where last.
use Rattle.std.proofs.Common.{◌≡◌, ℕ, ◌+◌, ◌<◌, ◌≤◌, Bool, true, false, not, cond, List, [], ◌∷◌, ◌++◌, Option, None, Some, length, refl, sym, ap, ◌∙◌, subst, arith, inl, inr, nat_eq, unwrap_or, get_or, take}
use Rattle.std.specs.Prelude.{IfSome, count_by}
use Rattle.std.specs.Option.{option_map}
use Rattle.std.specs.Cmp.{IsEquivalence}
use Rattle.std.specs.HashMap.{HashMap, Updates, PutsEntry, get}
use Rattle.std.specs.List.{list_any, position_or_len, prefix_len, suffix_len, zip}
use Rattle.std.proofs.lemmas.Bool.{cases_Bool, eqb-true, eq-eqb, and_parts}
use Rattle.std.proofs.lemmas.Cmp.{nat_eq_equiv, on_equiv, and_equiv}
use Rattle.std.proofs.lemmas.List.{reverse-append, length_push, length-take-le, take_all, take_more}
use Rattle.std.proofs.lemmas.List.Folds.{list_any-append, position_or_len_push}
use Rattle.std.proofs.lemmas.List.Sums.{sum_by_push, sum_by-cons, count_by-le-length}
use Rattle.std.proofs.lemmas.Map.Entries.{sum_by_puts_entry}
use Rattle.std.proofs.lemmas.Slice.Zip.{get_or-zip, length-zip}
use Rattle.report_moves.specs.Spans.{pair_eq, first_number, last_number, span_of, one_more, CountsRecord}
use Rattle.report_moves.specs.declared.spans.Span.{Span}

abbrev some_span : ℕ → ℕ → ℕ → Option Span
some_span records first last = Some (record { records = records; first = first; last = last })

module _ {X : Type 0} (test : X → Bool) where
  -- where no element passes, none is first and none counts
  none_passes : (xs : List X) → list_any test xs ≡ false → (position_or_len test xs ≡ length xs) × (count_by test xs ≡ 0)
  none_passes [] none = (refl, refl)
  none_passes (x ∷ xs) none = elim (cases_Bool (test x)) [
    | inl is ↦ let no : true ≡ false = rw is at none in absurd (cc)
    | inr isn't ↦
        let (at, count) = none_passes xs (rw isn't at none) in
        (rw isn't (omega (arith, at)), sum_by-cons (λ x. cond (test x) 1 0) x xs ∙ rw (isn't, count) refl)
  ]

  -- where one passes, the first stands in the list
  some_passes : (xs : List X) → list_any test xs ≡ true → position_or_len test xs < length xs
  some_passes [] some = let no : false ≡ true = some in absurd (cc)
  some_passes (x ∷ xs) some = elim (cases_Bool (test x)) [
    | inl is ↦ rw is (omega arith)
    | inr isn't ↦ let rest = some_passes xs (rw isn't at some) in rw isn't (omega arith)
  ]

  pub count_yes : (xs : List X) (x : X) → test x ≡ true → count_by test (xs ++ x ∷ []) ≡ count_by test xs + 1
  count_yes xs x is = sum_by_push (λ x. cond (test x) 1 0) xs x ∙ rw is refl

  pub count_no : (xs : List X) (x : X) → test x ≡ false → count_by test (xs ++ x ∷ []) ≡ count_by test xs
  count_no xs x isn't = sum_by_push (λ x. cond (test x) 1 0) xs x ∙ rw isn't (omega arith)

  unequal : (a b : ℕ) → a < b → nat_eq a b ≡ false
  unequal a b less = elim (cases_Bool (nat_eq a b)) [
    | inl is ↦ let same = eqb-true a b is in absurd (omega arith)
    | inr isn't ↦ isn't
  ]

  first_stays : (xs : List X) (x : X) → list_any test xs ≡ true → first_number test (xs ++ x ∷ []) ≡ first_number test xs
  first_stays xs x some =
      let there = unequal (position_or_len test xs) (length xs) (some_passes xs some) in
      ap (λ n. n + 1) (position_or_len_push test xs x ∙ rw there refl)

  first_is : (xs : List X) (x : X) → list_any test xs ≡ false → test x ≡ true → first_number test (xs ++ x ∷ []) ≡ length xs + 1
  first_is xs x none is =
      let there = eq-eqb _ _ (none_passes xs none).0 in
      let at : position_or_len test (xs ++ x ∷ []) ≡ length xs + 0 = position_or_len_push test xs x ∙ rw (there, is) refl in
      omega (arith, at)

  last_is : (xs : List X) (x : X) → test x ≡ true → last_number test (xs ++ x ∷ []) ≡ length xs + 1
  last_is xs x is =
      let turned : suffix_len (λ x. not (test x)) (xs ++ x ∷ []) ≡ 0 =
      ap (prefix_len (λ x. not (test x))) (reverse-append xs (x ∷ [])) ∙ rw is refl
      in
      omega (arith, turned, length_push xs x)

  last_stays : (xs : List X) (x : X) → test x ≡ false → last_number test (xs ++ x ∷ []) ≡ last_number test xs
  last_stays xs x isn't =
      let behind : suffix_len (λ x. not (test x)) (xs ++ x ∷ []) ≡ 1 + suffix_len (λ x. not (test x)) xs =
      ap (prefix_len (λ x. not (test x))) (reverse-append xs (x ∷ [])) ∙ rw isn't refl
      in
      omega (arith, behind, length_push xs x)

  same_span : (a b c d e f : ℕ) → a ≡ d → b ≡ e → c ≡ f → some_span a b c ≡ some_span d e f
  same_span a b c d e f p q r = ap (λ n. some_span n b c) p ∙ ap (λ n. some_span d n c) q ∙ ap (λ n. some_span d e n) r

  -- an element that passes, at the end
  pub span_yes : (xs : List X) (x : X) → test x ≡ true → span_of test (xs ++ x ∷ []) ≡ Some (one_more (span_of test xs) (length xs + 1))
  unfolding span_of
  span_yes xs x is = elim (cases_Bool (list_any test xs)) [
    | inl some ↦
        rw (list_any-append test xs (x ∷ []), some)
        (same_span _ _ _ _ _ _ (count_yes xs x is) (first_stays xs x some) (last_is xs x is))
    | inr none ↦
        let one : count_by test (xs ++ x ∷ []) ≡ 1 = count_yes xs x is ∙ rw (none_passes xs none).1 refl in
        rw (list_any-append test xs (x ∷ []), none, is) (same_span _ _ _ _ _ _ one (first_is xs x none is) (last_is xs x is))
  ]

  -- one that doesn't
  pub span_no : (xs : List X) (x : X) → test x ≡ false → span_of test (xs ++ x ∷ []) ≡ span_of test xs
  unfolding span_of
  span_no xs x isn't = elim (cases_Bool (list_any test xs)) [
    | inl some ↦
        rw (list_any-append test xs (x ∷ []), some)
        (same_span _ _ _ _ _ _ (count_no xs x isn't) (first_stays xs x some) (last_stays xs x isn't))
    | inr none ↦ rw (list_any-append test xs (x ∷ []), none, isn't) refl
  ]

  -- no more pass than there are
  pub few_pass : (xs : List X) → IfSome (span_of test xs) (λ span. span.records < length xs + 1)
  unfolding span_of
  few_pass xs = elim (cases_Bool (list_any test xs)) [
    | inl some ↦ rw some (omega (arith, count_by-le-length test xs))
    | inr none ↦ rw none tt
  ]

-- what a record more counts
pub records_more : (span : Option Span) (number : ℕ) → (one_more span number).records ≡ unwrap_or (option_map (λ span. span.records) span) 0 + 1
records_more None number = refl
records_more (Some span) number = refl

-- the map has one record more under the pair
pub counts_record : {S : Type 0} (old new : HashMap (ℕ × ℕ) Span S) (pair : ℕ × ℕ) (number : ℕ) (was value : Option Span) (span : Span)
    → was ≡ get pair_eq old pair → span ≡ one_more was number → Updates pair_eq old new pair (Some span)
    → value ≡ get pair_eq old pair → PutsEntry pair_eq old new pair span value → CountsRecord old new pair number
counts_record old new pair number was value span had is updates valued puts = record {
  spans = λ other.
      updates.0 other
      ∙ ap (λ s. cond (pair_eq pair other) (Some s) (get pair_eq old other)) (is ∙ ap (λ o. one_more o number) had);
  one =
      let whole = sum_by_puts_entry (λ (span : Span). span.records) pair_eq old new pair span value valued puts in
      let taken : unwrap_or (option_map (λ (span : Span). span.records) value) 0 ≡ unwrap_or (option_map (λ (span : Span). span.records) was) 0 =
      ap (λ o. unwrap_or (option_map (λ (span : Span). span.records) o) 0) (valued ∙ sym had)
      in
      let given : span.records ≡ unwrap_or (option_map (λ (span : Span). span.records) was) 0 + 1 =
      ap (λ (s : Span). s.records) is ∙ records_more was number
      in
      omega (arith, whole, taken, given);
}

-- the pairs so far are as many as were counted
pub length_before : (old new : List ℕ) (at : ℕ) → at ≤ length old → length old ≡ length new → length (take at (zip old new)) ≡ at
length_before old new at within same = length-take-le at (zip old new) (omega (arith, length-zip old new))

-- the next pair
pub pairs_more : (old new : List ℕ) (at : ℕ) → at < length old → length old ≡ length new
    → take (at + 1) (zip old new) ≡ take at (zip old new) ++ (get_or old at 0, get_or new at 0) ∷ []
pairs_more old new at within same =
    take_more (zip old new) at (0, 0) (omega (arith, length-zip old new))
    ∙ ap (λ pair. take at (zip old new) ++ pair ∷ []) (get_or-zip old new at (0, 0) within (omega arith))

-- behind the last one they are all
pub pairs_all : (old new : List ℕ) (at : ℕ) → length old ≤ at → take at (zip old new) ≡ zip old new
pairs_all old new at past = take_all at (zip old new) (omega (arith, length-zip old new))

-- no more were counted under a pair than there were
pub few_counted : {S : Type 0} (spans : HashMap (ℕ × ℕ) Span S) (pairs : List (ℕ × ℕ)) (pair : ℕ × ℕ) (at : ℕ)
    → length pairs ≡ at → get pair_eq spans pair ≡ span_of (pair_eq pair) pairs
    → IfSome (get pair_eq spans pair) (λ span. span.records < at + 1)
few_counted spans pairs pair at is had =
    let P : Option Span → Type 0 = λ o. IfSome o (λ span. span.records < at + 1) in
    let Q : ℕ → Type 0 = λ n. IfSome (span_of (pair_eq pair) pairs) (λ span. span.records < n + 1) in
    subst P (sym had) (subst Q is (few_pass (pair_eq pair) pairs))

pair_equiv : IsEquivalence pair_eq
pair_equiv = and_equiv (on_equiv (λ (pair : ℕ × ℕ). pair.0) nat_eq_equiv) (on_equiv (λ (pair : ℕ × ℕ). pair.1) nat_eq_equiv)

same_pair : (pair other : ℕ × ℕ) → pair_eq pair other ≡ true → pair ≡ other
same_pair pair other is =
    let (one, two) = and_parts (nat_eq pair.0 other.0) (nat_eq pair.1 other.1) is in
    let first = eqb-true _ _ one in let second = eqb-true _ _ two in
    ap (λ n. (n, pair.1)) first ∙ ap (λ n. (other.0, n)) second

-- the pairs with one more behind them, where the map had the spans of those before
pub counted : {S : Type 0} (old new : HashMap (ℕ × ℕ) Span S) (pairs : List (ℕ × ℕ)) (here : ℕ × ℕ) (number : ℕ)
    → number ≡ length pairs + 1 → ((pair : ℕ × ℕ) → get pair_eq old pair ≡ span_of (pair_eq pair) pairs) → CountsRecord old new here number
    → (pair : ℕ × ℕ) → get pair_eq new pair ≡ span_of (pair_eq pair) (pairs ++ here ∷ [])
counted old new pairs here number next had counts pair = elim (cases_Bool (pair_eq here pair)) [
  | inl is ↦
      let same : here ≡ pair = same_pair here pair is in
      let itself : pair_eq here here ≡ true = pair_equiv.refl here in
      let P : ℕ × ℕ → Type 0 = λ q. Some (one_more (get pair_eq old here) number) ≡ span_of (pair_eq q) (pairs ++ here ∷ []) in
      let at_here : P here = ap (λ o. Some (one_more o number)) (had here) ∙ rw next (sym (span_yes (pair_eq here) pairs here itself)) in
      counts.spans pair ∙ rw is (subst P same at_here)
  | inr isn't ↦
      let apart : pair_eq pair here ≡ false = pair_equiv.symm pair here ∙ isn't in
      counts.spans pair ∙ rw isn't (had pair ∙ sym (span_no (pair_eq pair) pairs here apart))
]
