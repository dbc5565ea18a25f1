-- The moves of captures, from their spans.
use Rattle.std.proofs.Common.{◌≡◌, ◌≢◌, ℕ, ◌+◌, ◌-◌, ◌<◌, Bool, true, false, not, List, [], ◌∷◌, ◌++◌, Some, length, refl, sym, ap, ◌∙◌, subst, arith, map, filter, get_or, take, nat_eq, inl, inr}
use Rattle.std.specs.Prelude.{All, sum_by}
use Rattle.std.specs.HashMap.{HashMap, get, values}
use Rattle.std.specs.List.{zip}
use Rattle.std.specs.List.Sorted.{IsPermutation}
use Rattle.std.proofs.lemmas.Bool.{cases_Bool, eqb-true, eq-eqb}
use Rattle.std.proofs.lemmas.List.Elements.{All-append, All-map, All-nil, All-weaker, All-filter, All-cons}
use Rattle.std.proofs.lemmas.List.Sorted.{All-permutation, sum_by-IsPermutation}
use Rattle.std.proofs.lemmas.List.Sums.{sum_by-append, sum_by-cons, sum_by_more}
use Rattle.report_moves.specs.Moves.{IsTold, IsToldOf, IsSplit, move_of, records_of, records_in, is_stayed, is_moved}
use Rattle.report_moves.specs.Spans.{pair_eq, span_of}
use Rattle.report_moves.specs.declared.moves.Move.{Move}
use Rattle.report_moves.specs.declared.spans.Span.{Span}

-- the moves of entries have as many records as the entries
entries_sum : (capture : ℕ) (entries : List ((ℕ × ℕ) × Span))
    → records_of (map (move_of capture) entries) ≡ sum_by (λ (span : Span). span.records) (map (λ (entry : (ℕ × ℕ) × Span). entry.1) entries)
entries_sum capture [] = refl
entries_sum capture (entry ∷ entries) =
    sum_by-cons (λ (m : Move). m.span.records) (move_of capture entry) (map (move_of capture) entries)
    ∙ ap (λ n. entry.1.records + n) (entries_sum capture entries)
    ∙ sym (sum_by-cons (λ (span : Span). span.records) entry.1 (map (λ (e : (ℕ × ℕ) × Span). e.1) entries))

module _ {S : Type 0} (capture : ℕ) (old new : List ℕ) (spans : HashMap (ℕ × ℕ) Span S) (moves : List Move) (entries : moves ≡ map (move_of capture) spans.entries) where
  -- the moves of a capture have all its records
  pub capture_sum : sum_by (λ (span : Span). span.records) (values spans) ≡ length old → records_of moves ≡ length old
  capture_sum all = ap records_of entries ∙ entries_sum capture spans.entries ∙ all

  -- each is told as it is
  pub capture_told : ((pair : ℕ × ℕ) → get pair_eq spans pair ≡ span_of (pair_eq pair) (zip old new))
      → All (λ (entry : (ℕ × ℕ) × Span). get pair_eq spans entry.0 ≡ Some entry.1) spans.entries → All (IsTold capture old new) moves
  capture_told are found =
      let told : All (λ (entry : (ℕ × ℕ) × Span). IsTold capture old new (move_of capture entry)) spans.entries =
      All-weaker (λ (entry : (ℕ × ℕ) × Span). get pair_eq spans entry.0 ≡ Some entry.1) (λ (entry : (ℕ × ℕ) × Span). IsTold capture old new (move_of capture entry))
      (λ entry is. record { capture_is = refl; told = sym (are entry.0) ∙ is }) spans.entries found
      in
      subst (All (IsTold capture old new)) (sym entries) (All-map (IsTold capture old new) (move_of capture) spans.entries told)

-- the moves of one capture more
pub told_more : (old new : List (List ℕ)) (at : ℕ) (moves more : List Move) → at < length old → All (IsToldOf old new) moves
    → All (IsTold (at + 1) (get_or old at []) (get_or new at [])) more → All (IsToldOf old new) (moves ++ more)
told_more old new at moves more within before told =
    All-append (IsToldOf old new) moves more before
    (All-weaker (IsTold (at + 1) (get_or old at []) (get_or new at [])) (IsToldOf old new) (λ move is. told_of move is) more told)
  where
    back : at + 1 - 1 ≡ at
    back = omega arith

    told_of : (move : Move) → IsTold (at + 1) (get_or old at []) (get_or new at []) move → IsToldOf old new move
    told_of move is =
        let place : move.capture - 1 ≡ at = ap (λ n. n - 1) is.capture_is ∙ back in
        record {
          first = omega (arith, is.capture_is);
          last = omega (arith, is.capture_is);
          told = subst (λ (k : ℕ). span_of (pair_eq (move.was, move.is)) (zip (get_or old k []) (get_or new k [])) ≡ Some move.span) (sym place) is.told;
        }

-- the moves of one capture more have its records too
pub sum_more : (old : List (List ℕ)) (at : ℕ) (moves more : List Move) → at < length old → records_of moves ≡ records_in (take at old)
    → records_of more ≡ length (get_or old at []) → records_of (moves ++ more) ≡ records_in (take (at + 1) old)
sum_more old at moves more within before here =
    omega (arith, sum_by-append (λ (m : Move). m.span.records) moves more, sum_by_more length old at [] within, before, here)

-- one more that passes a filter
filter_yes : (p : Move → Bool) (ms : List Move) (m : Move) → p m ≡ true → filter p (ms ++ m ∷ []) ≡ filter p ms ++ m ∷ []
filter_yes p [] m is = rw is refl
filter_yes p (x ∷ ms) m is = elim (cases_Bool (p x)) [
  | inl is_in ↦ rw is_in (ap (λ ns. x ∷ ns) (filter_yes p ms m is))
  | inr isn't_in ↦ rw isn't_in (filter_yes p ms m is)
]

-- one more that doesn't
filter_no : (p : Move → Bool) (ms : List Move) (m : Move) → p m ≡ false → filter p (ms ++ m ∷ []) ≡ filter p ms
filter_no p [] m isn't = rw isn't refl
filter_no p (x ∷ ms) m isn't = elim (cases_Bool (p x)) [
  | inl is_in ↦ rw is_in (ap (λ ns. x ∷ ns) (filter_no p ms m isn't))
  | inr isn't_in ↦ rw isn't_in (filter_no p ms m isn't)
]

module _ (moves moved stayed : List Move) (move : Move) (split : IsSplit moves moved stayed) where
  -- one more that stayed
  pub split_stayed : nat_eq move.was move.is ≡ true → IsSplit (moves ++ move ∷ []) moved (stayed ++ move ∷ [])
  split_stayed is = record {
    moved_is = split.moved_is ∙ sym (filter_no is_moved moves move (ap not is));
    stayed_is = ap (λ ms. ms ++ move ∷ []) split.stayed_is ∙ sym (filter_yes is_stayed moves move is);
  }

  -- one more that moved
  pub split_moved : nat_eq move.was move.is ≡ false → IsSplit (moves ++ move ∷ []) (moved ++ move ∷ []) stayed
  split_moved isn't = record {
    moved_is = ap (λ ms. ms ++ move ∷ []) split.moved_is ∙ sym (filter_yes is_moved moves move (ap not isn't));
    stayed_is = split.stayed_is ∙ sym (filter_no is_stayed moves move isn't);
  }

-- equal numbers are found equal
pub equal_numbers : (a b : ℕ) → a ≡ b → nat_eq a b ≡ true
equal_numbers a b is = eq-eqb a b is

-- others aren't
pub unequal_numbers : (a b : ℕ) → a ≢ b → nat_eq a b ≡ false
unequal_numbers a b apart = elim (cases_Bool (nat_eq a b)) [
  | inl is ↦ absurd (apart (eqb-true a b is))
  | inr isn't ↦ isn't
]

-- of what moved each came to another outcome
pub all_moved : (moves : List Move) → All (λ move. move.was ≢ move.is) (filter is_moved moves)
all_moved [] = All-nil (λ move. move.was ≢ move.is)
all_moved (move ∷ moves) = elim (cases_Bool (nat_eq move.was move.is)) [
  | inl is ↦ rw is (all_moved moves)
  | inr isn't ↦
      let apart : move.was ≢ move.is = λ same. let no : false ≡ true = sym isn't ∙ eq-eqb move.was move.is same in (cc) in
      rw isn't (All-cons (λ (m : Move). m.was ≢ m.is) move (filter is_moved moves) apart (all_moved moves))
]

-- of what stayed each came to the same one
pub all_stayed : (moves : List Move) → All (λ move. move.was ≡ move.is) (filter is_stayed moves)
all_stayed [] = All-nil (λ move. move.was ≡ move.is)
all_stayed (move ∷ moves) = elim (cases_Bool (nat_eq move.was move.is)) [
  | inl is ↦ rw is (All-cons (λ (m : Move). m.was ≡ m.is) move (filter is_stayed moves) (eqb-true move.was move.is is) (all_stayed moves))
  | inr isn't ↦ rw isn't (all_stayed moves)
]

-- each record is in one of them
split_sums : (moves : List Move) → records_of (filter is_moved moves) + records_of (filter is_stayed moves) ≡ records_of moves
split_sums [] = refl
split_sums (move ∷ moves) = elim (cases_Bool (nat_eq move.was move.is)) [
  | inl is ↦
      rw is (omega (
        arith,
        split_sums moves,
        sum_by-cons (λ (m : Move). m.span.records) move (filter is_stayed moves),
        sum_by-cons (λ (m : Move). m.span.records) move moves,
      ))
  | inr isn't ↦
      rw isn't (omega (
        arith,
        split_sums moves,
        sum_by-cons (λ (m : Move). m.span.records) move (filter is_moved moves),
        sum_by-cons (λ (m : Move). m.span.records) move moves,
      ))
]

module _ (old new : List (List ℕ)) (found sorted moved stayed : List Move) (order : IsPermutation found sorted) (split : IsSplit sorted moved stayed) where
  pub moved_are_told : All (IsToldOf old new) found → All (IsToldOf old new) moved
  moved_are_told told =
      subst (All (IsToldOf old new)) (sym split.moved_is)
      (All-filter is_moved (IsToldOf old new) sorted (All-permutation (IsToldOf old new) found sorted order told))

  pub stayed_are_told : All (IsToldOf old new) found → All (IsToldOf old new) stayed
  stayed_are_told told =
      subst (All (IsToldOf old new)) (sym split.stayed_is)
      (All-filter is_stayed (IsToldOf old new) sorted (All-permutation (IsToldOf old new) found sorted order told))

  pub moved_are_others : All (λ (move : Move). move.was ≢ move.is) moved
  moved_are_others = subst (All (λ (move : Move). move.was ≢ move.is)) (sym split.moved_is) (all_moved sorted)

  pub stayed_are_same : All (λ (move : Move). move.was ≡ move.is) stayed
  stayed_are_same = subst (All (λ (move : Move). move.was ≡ move.is)) (sym split.stayed_is) (all_stayed sorted)

  pub sums_are_all : records_of found ≡ records_in old → records_of moved + records_of stayed ≡ records_in old
  sums_are_all all =
      omega (
        arith,
        split_sums sorted,
        ap records_of split.moved_is,
        ap records_of split.stayed_is,
        sum_by-IsPermutation (λ (m : Move). m.span.records) found sorted order,
        all,
      )
