-- That no move is told twice.
use Rattle.std.proofs.Common.{◌≡◌, ℕ, length, get_or, take, ◌+◌, ◌<◌, ◌≤◌, Bool, false, List, [], ◌∷◌, ◌++◌, refl, sym, ◌∙◌, subst, arith, map, filter, inl, inr}
use Rattle.std.specs.Prelude.{All}
use Rattle.std.specs.Cmp.{IsEquivalence}
use Rattle.std.specs.HashMap.{HashMap, IsUnique}
use Rattle.std.specs.List.{AllByRecursion, IsDistinct}
use Rattle.std.specs.List.Sorted.{IsPermutation}
use Rattle.std.proofs.lemmas.Bool.{cases_Bool, eq-eqb}
use Rattle.std.proofs.lemmas.Cmp.{nat_eq_equiv, on_equiv, and_equiv}
use Rattle.std.proofs.lemmas.List.Elements.{All-append, All-nil, All-weaker, All-head, All-tail}
use Rattle.std.proofs.lemmas.Map.Keys.{IsDistinct-IsPermutation}
use Rattle.report_moves.proofs.Rows.{told_more, sum_more, unequal_numbers}
use Rattle.report_moves.specs.Moves.{IsTold, IsToldOf, IsSplit, move_of, records_of, records_in, is_same_move, AreToldOnce, is_stayed, is_moved}
use Rattle.report_moves.specs.Spans.{pair_eq}
use Rattle.report_moves.specs.declared.moves.Move.{Move}
use Rattle.report_moves.specs.declared.spans.Span.{Span}

same_move_equiv : IsEquivalence is_same_move
same_move_equiv =
    and_equiv (on_equiv (λ (m : Move). m.capture) nat_eq_equiv)
    (and_equiv (on_equiv (λ (m : Move). m.was) nat_eq_equiv) (on_equiv (λ (m : Move). m.is) nat_eq_equiv))

module _ (capture : ℕ) where
  -- two entries' moves are the same where their pairs are equal
  same_of_entries : (one other : (ℕ × ℕ) × Span) → is_same_move (move_of capture one) (move_of capture other) ≡ pair_eq one.0 other.0
  same_of_entries one other = rw (eq-eqb capture capture refl) refl

  apart_mapped : (entry : (ℕ × ℕ) × Span) (entries : List ((ℕ × ℕ) × Span))
      → AllByRecursion (λ pair. pair_eq entry.0 pair ≡ false) (map (λ (e : (ℕ × ℕ) × Span). e.0) entries)
      → AllByRecursion (λ move. is_same_move (move_of capture entry) move ≡ false) (map (move_of capture) entries)
  apart_mapped entry [] apart = tt
  apart_mapped entry (next ∷ entries) (here, rest) = (same_of_entries entry next ∙ here, apart_mapped entry entries rest)

  entries_once : (entries : List ((ℕ × ℕ) × Span)) → IsDistinct pair_eq (map (λ (e : (ℕ × ℕ) × Span). e.0) entries) → AreToldOnce (map (move_of capture) entries)
  unfolding IsDistinct
  entries_once [] once = tt
  entries_once (entry ∷ entries) (apart, once) = (apart_mapped entry entries apart, entries_once entries once)

-- the moves of a map's entries
pub entries_told_once : {S : Type 0} (capture : ℕ) (spans : HashMap (ℕ × ℕ) Span S) (moves : List Move)
    → moves ≡ map (move_of capture) spans.entries → IsUnique pair_eq spans → AreToldOnce moves
entries_told_once capture spans moves are once = subst AreToldOnce (sym are) (entries_once capture spans.entries once)

-- none of another capture is the same
apart_of_others : (move : Move) (at : ℕ) (more : List Move) → move.capture ≤ at → All (λ (m : Move). m.capture ≡ at + 1) more
    → AllByRecursion (λ other. is_same_move move other ≡ false) more
apart_of_others move at [] below here = tt
apart_of_others move at (next ∷ more) below here =
    let next_is : next.capture ≡ at + 1 = All-head (λ (m : Move). m.capture ≡ at + 1) next more here in
    let apart = unequal_numbers move.capture next.capture (λ same. absurd (omega (arith, same, next_is, below))) in
    (rw apart refl, apart_of_others move at more below (All-tail (λ (m : Move). m.capture ≡ at + 1) next more here))

apart_appended : (P : Move → Type 0) (moves more : List Move) → AllByRecursion P moves → AllByRecursion P more → AllByRecursion P (moves ++ more)
apart_appended P [] more before here = here
apart_appended P (move ∷ moves) more (first, before) here = (first, apart_appended P moves more before here)

appended_once : (at : ℕ) (moves more : List Move) → AreToldOnce moves → All (λ (m : Move). m.capture ≤ at) moves
    → AreToldOnce more → All (λ (m : Move). m.capture ≡ at + 1) more → AreToldOnce (moves ++ more)
unfolding IsDistinct
appended_once at [] more before below once here = once
appended_once at (move ∷ moves) more (apart, before) below once here =
    let P : Move → Type 0 = λ other. is_same_move move other ≡ false in
    let others = apart_of_others move at more (All-head (λ (m : Move). m.capture ≤ at) move moves below) here in (
      apart_appended P moves more apart others,
      appended_once at moves more before (All-tail (λ (m : Move). m.capture ≤ at) move moves below) once here,
    )

-- the moves of so many captures
pub record SoFar (old new : List (List ℕ)) (at : ℕ) (moves : List Move) : Type 0 where
  pub told : All (IsToldOf old new) moves
  pub below : All (λ (m : Move). m.capture ≤ at) moves
  pub once : AreToldOnce moves
  pub all : records_of moves ≡ records_in (take at old)

-- those of none
pub none_so_far : (old new : List (List ℕ)) (moves : List Move) → moves ≡ [] → SoFar old new 0 moves
unfolding IsDistinct
none_so_far old new moves none =
    subst (SoFar old new 0) (sym none) (record {
      told = All-nil (IsToldOf old new);
      below = All-nil (λ (m : Move). m.capture ≤ 0);
      once = tt;
      all = refl;
    })

-- the moves of one capture more
pub more_so_far : (old new : List (List ℕ)) (at : ℕ) (moves more whole : List Move) → at < length old → whole ≡ moves ++ more → SoFar old new at moves
    → All (IsTold (at + 1) (get_or old at []) (get_or new at [])) more → AreToldOnce more → records_of more ≡ length (get_or old at [])
    → SoFar old new (at + 1) whole
more_so_far old new at moves more whole within are before told once here =
    let Here : Move → Type 0 = IsTold (at + 1) (get_or old at []) (get_or new at []) in
    let captures = All-weaker Here (λ (m : Move). m.capture ≡ at + 1) (λ m is. is.capture_is) more told in
    let old_below = All-weaker (λ (m : Move). m.capture ≤ at) (λ (m : Move). m.capture ≤ at + 1) (λ m is. omega (arith, is)) moves before.below in
    let new_below = All-weaker (λ (m : Move). m.capture ≡ at + 1) (λ (m : Move). m.capture ≤ at + 1) (λ m is. omega (arith, is)) more captures in
    subst (SoFar old new (at + 1)) (sym are) (record {
      told = told_more old new at moves more within before.told told;
      below = All-append (λ (m : Move). m.capture ≤ at + 1) moves more old_below new_below;
      once = appended_once at moves more before.once before.below once captures;
      all = sum_more old at moves more within before.all here;
    })

module _ (p : Move → Bool) where
  apart_filtered : (P : Move → Type 0) (moves : List Move) → AllByRecursion P moves → AllByRecursion P (filter p moves)
  apart_filtered P [] apart = tt
  apart_filtered P (move ∷ moves) (first, apart) = elim (cases_Bool (p move)) [
    | inl is ↦ rw is (first, apart_filtered P moves apart)
    | inr isn't ↦ rw isn't (apart_filtered P moves apart)
  ]

  once_filtered : (moves : List Move) → AreToldOnce moves → AreToldOnce (filter p moves)
  unfolding IsDistinct
  once_filtered [] once = tt
  once_filtered (move ∷ moves) (apart, once) = elim (cases_Bool (p move)) [
    | inl is ↦ rw is (apart_filtered (λ other. is_same_move move other ≡ false) moves apart, once_filtered moves once)
    | inr isn't ↦ rw isn't (once_filtered moves once)
  ]

module _ (found sorted moved stayed : List Move) (order : IsPermutation found sorted) (split : IsSplit sorted moved stayed) (once : AreToldOnce found) where
  sorted_once : AreToldOnce sorted
  sorted_once = IsDistinct-IsPermutation is_same_move (λ x y. same_move_equiv.symm x y) found sorted order once

  -- what moved is told once
  pub moved_told_once : AreToldOnce moved
  moved_told_once = subst AreToldOnce (sym split.moved_is) (once_filtered is_moved sorted sorted_once)

  -- what stayed is told once
  pub stayed_told_once : AreToldOnce stayed
  stayed_told_once = subst AreToldOnce (sym split.stayed_is) (once_filtered is_stayed sorted sorted_once)
