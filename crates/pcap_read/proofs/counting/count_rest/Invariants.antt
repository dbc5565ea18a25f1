use Rattle.std.proofs.Common.{◌≡◌, ◌≤◌, ◌-◌}
use Rattle.pcap_read.specs.Capture.{limit_of, given_of}
use Rattle.pcap_read.proofs.Runs.{GoesOn}
use Rattle.pcap_read.proofs.counting.count_rest.Given as goal

abbrev pub invariant-loop-count : goal.invariant-loop-count
invariant-loop-count g l = record {
  goes : GoesOn g.S.Source.left g.S.Source.faults l.fn.capture l.capture l.count;
  limit : limit_of l.capture ≡ limit_of l.fn.capture;
  few : l.count ≤ given_of l.capture;
}

abbrev pub decreases-loop-count : goal.decreases-loop-count
decreases-loop-count g l = limit_of l.fn.capture - given_of l.capture
