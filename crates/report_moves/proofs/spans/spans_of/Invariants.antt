-- The map has the spans of the pairs so far, and as many records.
use Rattle.std.proofs.Common.{◌≡◌, ℕ, take}
use Rattle.std.specs.Prelude.{sum_by}
use Rattle.std.specs.HashMap.{get, values}
use Rattle.std.specs.List.{zip}
use Rattle.report_moves.specs.Spans.{pair_eq, span_of}
use Rattle.report_moves.proofs.spans.spans_of.Given as goal

abbrev pub invariant-loop-at : goal.invariant-loop-at
invariant-loop-at l = record {
  spans : (pair : ℕ × ℕ) → get pair_eq l.spans pair ≡ span_of (pair_eq pair) (take l.at (zip l.old l.new));
  all : sum_by (λ span. span.records) (values l.spans) ≡ l.at;
}
