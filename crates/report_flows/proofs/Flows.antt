-- What is told of the flows of moves, from what was counted.
use Rattle.std.proofs.Common.{◌≡◌, ℕ, ◌-◌, ◌<◌, Bool, List, [], Option, Some, length, get_or, refl, sym, ap, ◌∙◌, arith, inl, inr, unwrap_or}
use Rattle.std.specs.Prelude.{All, count_by}
use Rattle.std.specs.Option.{option_map}
use Rattle.std.specs.List.{list_any, zip}
use Rattle.std.proofs.lemmas.Bool.{cases_Bool}
use Rattle.std.proofs.lemmas.List.{get_or-map, length-map}
use Rattle.std.proofs.lemmas.List.Elements.{All-weaker}
use Rattle.std.proofs.lemmas.Slice.Zip.{firsts-zip, length-zip}
use Rattle.report_moves.proofs.SpanLaws.{count_map}
use Rattle.report_moves.specs.Moves.{HaveSameLengths, IsToldOf}
use Rattle.report_moves.specs.Spans.{pair_eq, span_of}
use Rattle.report_moves.specs.declared.moves.Move.{Move}
use Rattle.report_moves.specs.declared.spans.Span.{Span}
use Rattle.report_flows.specs.Captures.{AreAllCounted, AreToldFlows}
use Rattle.report_flows.specs.Counting.{AreAllTold, AreFlowsOf, AreTold, Entries, Row, entries_at, is_in, is_of, move_at, no_move, pair_of, rows_at, rows_of}
use Rattle.report_flows.specs.Flows.{same_flow}
use Rattle.std.specs.Map.{lookup}
use Rattle.report_flows.specs.declared.flow.AnyFlow.{AnyFlow}
use Rattle.report_flows.specs.declared.flow_counts.FlowSpan.{FlowSpan}

-- a span has as many records as pass
span_count : {X : Type 0} (test : X → Bool) (xs : List X) (span : Span) → span_of test xs ≡ Some span → count_by test xs ≡ span.records
unfolding span_of
span_count test xs span is = elim (cases_Bool (list_any test xs)) [
  | inl some ↦
      let found = rw some at is in
      ap (λ (o : Option Span). unwrap_or (option_map (λ (s : Span). s.records) o) 0) found
  | inr none ↦ let found = rw none at is in absurd (cc)
]

-- as many records are of a pair as pairs are, where each has its flow or none
rows_of_pair : (pair : ℕ × ℕ) (old new : List ℕ) (flows : List (Option AnyFlow)) → length old ≡ length new → length flows ≡ length old
    → count_by (is_of pair) (rows_of old new flows) ≡ count_by (pair_eq pair) (zip old new)
rows_of_pair pair old new flows same count =
    count_map (λ (row : Row). row.0) (is_of pair) (pair_eq pair) (λ row. refl) (rows_of old new flows)
    ∙ ap (count_by (pair_eq pair)) (firsts-zip (zip old new) flows (omega (arith, length-zip old new, same, count)))

module _ {S : Type 0} (left : S → Option (List ℕ)) (faults : S → ℕ) (captures : List S) (old new : List (List ℕ)) (moves : List Move) (counts : List Entries)
    (told : List (List FlowSpan)) (lengths : HaveSameLengths old new) (moves_told : All (IsToldOf old new) moves)
    (counted : AreAllCounted left faults captures old new moves counts) (all : AreAllTold counts told) where
  flows_of_move : (place : ℕ) → place < length moves
      → AreFlowsOf (move_at moves place) (rows_at old new counted.flows (move_at moves place).capture) (get_or told place [])
  flows_of_move place within =
      let move = move_at moves place in
      let is : IsToldOf old new move = moves_told place no_move within in
      let at = move.capture - 1 in
      let here : at < length old = omega (arith, is.first, is.last) in
      let entries = entries_at counts place in
      let told_here : AreTold entries (get_or told place []) = all.each place (omega (arith, within, counted.count)) in
      let counted_here = counted.each place within is.first is.last in
      let sizes : length counted.flows ≡ length old = sym (length-map counted.flows length) ∙ ap length counted.lengths ∙ length-map old length in
      let count : length (get_or counted.flows at []) ≡ length (get_or old at []) =
      sym (get_or-map length counted.flows at [] 0 (omega (arith, here, sizes))) ∙ ap (λ ns. get_or ns at 0) counted.lengths ∙ get_or-map length old at [] 0 here
      in
      let rows = rows_at old new counted.flows move.capture in
      record {
        told = All-weaker (λ (f : FlowSpan). lookup (same_flow f.flow) entries ≡ Some f.span) (λ (f : FlowSpan). span_of (is_in (pair_of move) f.flow) rows ≡ Some f.span)
            (λ f found. sym (counted_here.spans f.flow) ∙ found) (get_or told place []) told_here.found;
        once = told_here.once;
        order = told_here.order;
        all =
            told_here.all ∙ counted_here.all
            ∙ rows_of_pair (pair_of move) (get_or old at []) (get_or new at []) (get_or counted.flows at []) (lengths.records at here) count
            ∙ span_count (pair_eq (pair_of move)) (zip (get_or old at []) (get_or new at [])) move.span is.told;
      }

  -- each move's flows are told
  pub flows_told : AreToldFlows left faults captures old new moves told
  flows_told = record {
    flows = counted.flows;
    read = counted.read;
    lengths = counted.lengths;
    count = all.count ∙ counted.count;
    each = flows_of_move;
  }
