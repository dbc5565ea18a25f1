-- The records so far are counted.
use Rattle.std.proofs.Common.{◌≡◌, ◌-◌, ℕ}
use Rattle.std.specs.HashMap.{get}
use Rattle.pcap_read.specs.Capture.{given_of, limit_of}
use Rattle.report_moves.specs.Spans.{pair_eq}
use Rattle.report_flows.specs.Captures.{most_records}
use Rattle.report_flows.specs.Counting.{IsPlaceOf}
use Rattle.report_flows.proofs.CaptureSteps.{ReadSoFar}
use Rattle.report_flows.proofs.capture_counts.count_capture.Given as goal

abbrev pub invariant-loop-places : goal.invariant-loop-places
invariant-loop-places g l = record {
  places : (pair : ℕ × ℕ) → IsPlaceOf l.moves l.told.capture pair (get pair_eq l.places pair);
  read : ReadSoFar g.S.Source.left g.S.Source.faults l.fn.source l.moves l.told.capture l.told.old.now l.told.new.now l.fn.counts l.capture l.counts l.at;
  limit : limit_of l.capture ≡ most_records;
  given : given_of l.capture ≡ l.at;
}

abbrev pub decreases-loop-places : goal.decreases-loop-places
decreases-loop-places g l = limit_of l.capture - given_of l.capture
