-- How often each flow is met among the records of a move.
use Rattle.std.specs.Prelude.{◌≡◌, ◌≢◌, ℕ, ◌+◌, ◌-◌, ◌<◌, ◌&&◌, Bool, true, false, nat_eq, if◌then◌else◌, Option, None, Some, IfSome, List, [], All, length, map, slice_index_or, sum_by, count_by}
use Rattle.std.specs.List.{zip, IsDistinct}
use Rattle.std.specs.List.Sorted.{IsSorted}
use Rattle.std.specs.Map.{lookup}
use Rattle.std.specs.Ordering.{nat_cmp, ordering_then}
use Rattle.std.specs.declared.cmp.Ordering.{Ordering}
use Rattle.report_moves.specs.Spans.{pair_eq, span_of, one_more}
use Rattle.report_moves.specs.declared.moves.Move.{Move}
use Rattle.report_moves.specs.declared.spans.Span.{Span}
use Rattle.report_flows.specs.Flows.{same_flow}
use Rattle.report_flows.specs.declared.flow.AnyFlow.{AnyFlow}
use Rattle.report_flows.specs.declared.flow_counts.FlowSpan.{FlowSpan}

-- what is known of a record: what it came to then and now, and its flow, if it has one
abbrev pub Row : Type 0
Row = (ℕ × ℕ) × Option AnyFlow

-- the records of a capture, by what they came to and by their flows
abbrev pub rows_of : List ℕ → List ℕ → List (Option AnyFlow) → List Row
rows_of old new flows = zip (zip old new) flows

-- a record came to these two outcomes
abbrev pub is_of : ℕ × ℕ → Row → Bool
is_of pair row = pair_eq pair row.0

-- a record came to these two outcomes and has this flow, or none where it is none
abbrev pub is_in : ℕ × ℕ → Option AnyFlow → Row → Bool
is_in pair flow row = is_of pair row && same_flow flow row.1

-- what was counted of each flow
abbrev pub Entries : Type 0
Entries = List (Option AnyFlow × Span)

-- how many records were counted
abbrev pub records_in : Entries → ℕ
records_in entries = sum_by (λ span. span.records) (map (λ entry. entry.1) entries)

-- one more record is counted, of this number and with this flow
pub record CountsFlow (old new : Entries) (flow : Option AnyFlow) (number : ℕ) : Type 0 where
  pub spans : (other : Option AnyFlow) → lookup (same_flow other) new ≡ (if same_flow flow other then Some (one_more (lookup (same_flow flow) old) number) else lookup (same_flow other) old)
  pub one : records_in new ≡ records_in old + 1

-- each flow's records among those that came to two outcomes are counted
pub record IsCounted (pair : ℕ × ℕ) (rows : List Row) (entries : Entries) : Type 0 where
  pub spans : (flow : Option AnyFlow) → lookup (same_flow flow) entries ≡ span_of (is_in pair flow) rows
  pub all : records_in entries ≡ count_by (is_of pair) rows

-- what was counted for the move at a place
abbrev pub entries_at : List Entries → ℕ → Entries
entries_at counts place = slice_index_or counts place []

-- one more record is counted for the move at this place, or for none
abbrev pub CountsAt : List Entries → List Entries → Option ℕ → Option AnyFlow → ℕ → Type 0
CountsAt old new None flow number = new ≡ old
CountsAt old new (Some place) flow number =
    (length new ≡ length old) × CountsFlow (entries_at old place) (entries_at new place) flow number
    × ((other : ℕ) → other ≢ place → entries_at new other ≡ entries_at old other)

-- no move, which stands past the end of a list of moves: captures are counted from 1
abbrev pub no_move : Move
no_move = record { capture = 0; was = 0; is = 0; span = record { records = 0; first = 0; last = 0 } }

-- the move at a place
abbrev pub move_at : List Move → ℕ → Move
move_at moves place = slice_index_or moves place no_move

-- the two outcomes of a move
abbrev pub pair_of : Move → ℕ × ℕ
pair_of move = (move.was, move.is)

-- a move is of this capture and has these two outcomes
abbrev pub is_move_of : ℕ → ℕ × ℕ → Move → Bool
is_move_of capture pair move = nat_eq move.capture capture && pair_eq (pair_of move) pair

-- where the move of a capture with these two outcomes stands, or that there is none
abbrev pub IsPlaceOf : List Move → ℕ → ℕ × ℕ → Option ℕ → Type 0
IsPlaceOf moves capture pair None = (place : ℕ) → place < length moves → is_move_of capture pair (move_at moves place) ≡ false
IsPlaceOf moves capture pair (Some place) = (place < length moves) × (is_move_of capture pair (move_at moves place) ≡ true)

-- the flows of a capture's records are counted for each of its moves, and those of other captures stay
pub record AreCounted (moves : List Move) (capture : ℕ) (rows : List Row) (old new : List Entries) : Type 0 where
  pub count : length new ≡ length old
  pub here : (place : ℕ) → place < length moves → (move_at moves place).capture ≡ capture → IsCounted (pair_of (move_at moves place)) rows (entries_at new place)
  pub others : (place : ℕ) → (move_at moves place).capture ≢ capture → entries_at new place ≡ entries_at old place

-- the most records first, and of as many the first record
abbrev pub flow_cmp : FlowSpan → FlowSpan → Ordering
flow_cmp flow other = ordering_then (nat_cmp other.span.records flow.span.records) (nat_cmp flow.span.first other.span.first)

-- flows stand in that order
abbrev pub AreFlowsInOrder : List FlowSpan → Type 0
AreFlowsInOrder flows = IsSorted flow_cmp flows

-- The flows of the records of a move, each told once, by how many records have it, the first and the last of them.
-- Together they have all records of the move, and the most records come first.
pub record AreFlowsOf (move : Move) (rows : List Row) (flows : List FlowSpan) : Type 0 where
  pub told : All (λ told. span_of (is_in (pair_of move) told.flow) rows ≡ Some told.span) flows
  pub once : IsDistinct same_flow (map (λ told. told.flow) flows)
  pub all : sum_by (λ told. told.span.records) flows ≡ move.span.records
  pub order : AreFlowsInOrder flows

-- the records of a move's capture, by what they came to and by their flows
abbrev pub rows_at : List (List ℕ) → List (List ℕ) → List (List (Option AnyFlow)) → ℕ → List Row
rows_at old new flows capture =
    rows_of (slice_index_or old (capture - 1) []) (slice_index_or new (capture - 1) []) (slice_index_or flows (capture - 1) [])

-- what is told of an entry
abbrev pub flow_span : Option AnyFlow × Span → FlowSpan
flow_span entry = record { flow = entry.0; span = entry.1 }

-- what was counted of each flow is told, each flow once
pub record AreTold (entries : Entries) (told : List FlowSpan) : Type 0 where
  pub found : All (λ flow. lookup (same_flow flow.flow) entries ≡ Some flow.span) told
  pub once : IsDistinct same_flow (map (λ flow. flow.flow) told)
  pub all : sum_by (λ flow. flow.span.records) told ≡ records_in entries
  pub order : AreFlowsInOrder told

-- so far fewer records than this have the flow
abbrev pub IsBelow : Option AnyFlow → ℕ → Entries → Type 0
IsBelow flow number entries = IfSome (lookup (same_flow flow) entries) (λ span. span.records < number)

-- nothing is counted, for so many moves
pub record IsNoneCounted (moves : ℕ) (counts : List Entries) : Type 0 where
  pub count : length counts ≡ moves
  pub none : (place : ℕ) → entries_at counts place ≡ []

-- what was counted for each move is told
pub record AreAllTold (counts : List Entries) (told : List (List FlowSpan)) : Type 0 where
  pub count : length told ≡ length counts
  pub each : (place : ℕ) → place < length counts → AreTold (entries_at counts place) (slice_index_or told place [])
