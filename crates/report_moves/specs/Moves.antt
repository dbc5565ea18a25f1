-- What moved between two lists of outcomes: the pairs of an outcome then and another one now.
use Rattle.std.specs.Prelude.{◌≡◌, ◌≢◌, ℕ, ◌-◌, ◌≤◌, ◌<◌, ◌&&◌, None, Some, List, [], length, slice_index_or, sum_by, filter, not, nat_eq, Bool}
use Rattle.std.specs.List.{zip, IsDistinct}
use Rattle.std.specs.List.Sorted.{IsSorted}
use Rattle.std.specs.Ordering.{nat_cmp, ordering_then}
use Rattle.std.specs.declared.cmp.Ordering.{Ordering}
use Rattle.report_moves.specs.Spans.{pair_eq, span_of}
use Rattle.report_moves.specs.declared.moves.Move.{Move}
use Rattle.report_moves.specs.declared.spans.Span.{Span}

-- beside itself a list has no pair of two different outcomes
abbrev pub NothingMovesOfItself : Type 0
NothingMovesOfItself = (was is_now : ℕ) (outcomes : List ℕ) → was ≢ is_now → span_of (pair_eq (was, is_now)) (zip outcomes outcomes) ≡ None

-- turned round, a pair is met as often, first and last where it was
abbrev pub MovesTurnRound : Type 0
MovesTurnRound = (was is_now : ℕ) (old new : List ℕ) → span_of (pair_eq (was, is_now)) (zip old new) ≡ span_of (pair_eq (is_now, was)) (zip new old)

-- so many captures, each with as many records
pub record HaveSameLengths (old new : List (List ℕ)) : Type 0 where
  pub captures : length old ≡ length new
  pub records : (at : ℕ) → at < length old → length (slice_index_or old at []) ≡ length (slice_index_or new at [])

-- the move of an entry
abbrev pub move_of : ℕ → (ℕ × ℕ) × Span → Move
move_of capture entry = record { capture = capture; was = entry.0.0; is = entry.0.1; span = entry.1 }

-- a move is told as it is, among these pairs of this capture
pub record IsTold (capture : ℕ) (old new : List ℕ) (move : Move) : Type 0 where
  pub capture_is : move.capture ≡ capture
  pub told : span_of (pair_eq (move.was, move.is)) (zip old new) ≡ Some move.span

-- a move is told as it is, among the pairs of its capture
pub record IsToldOf (old new : List (List ℕ)) (move : Move) : Type 0 where
  pub first : 1 ≤ move.capture
  pub last : move.capture ≤ length old
  pub told : span_of (pair_eq (move.was, move.is)) (zip (slice_index_or old (move.capture - 1) []) (slice_index_or new (move.capture - 1) [])) ≡ Some move.span

-- of one capture, from one outcome then to one now
abbrev pub is_same_move : Move → Move → Bool
is_same_move move other = nat_eq move.capture other.capture && (nat_eq move.was other.was && nat_eq move.is other.is)

-- no move is told twice: no two of them are the same
abbrev pub AreToldOnce : List Move → Type 0
AreToldOnce moves = IsDistinct is_same_move moves

-- how many records some moves have
abbrev pub records_of : List Move → ℕ
records_of moves = sum_by (λ move. move.span.records) moves

-- how many records captures have
abbrev pub records_in : List (List ℕ) → ℕ
records_in captures = sum_by length captures

-- the most records first, and of as many the first capture and the first record
abbrev pub move_cmp : Move → Move → Ordering
move_cmp move other = ordering_then (ordering_then (nat_cmp other.span.records move.span.records) (nat_cmp move.capture other.capture)) (nat_cmp move.span.first other.span.first)

-- moves stand in that order
abbrev pub AreInOrder : List Move → Type 0
AreInOrder moves = IsSorted move_cmp moves

-- the outcome stayed the same
abbrev pub is_stayed : Move → Bool
is_stayed move = nat_eq move.was move.is

-- the outcome is another one now
abbrev pub is_moved : Move → Bool
is_moved move = not (is_stayed move)

-- what moved and what stayed, in the order in which they stood
pub record IsSplit (moves moved stayed : List Move) : Type 0 where
  pub moved_is : moved ≡ filter is_moved moves
  pub stayed_is : stayed ≡ filter is_stayed moves
