use Rattle.std.proofs.Common.{◌≡◌, ◌-◌, length}
use Rattle.pcap_read.specs.Window.{Grows}
use Rattle.pcap_read.proofs.filling.fill.Given as goal

abbrev pub invariant-loop-window : goal.invariant-loop-window
invariant-loop-window g l = record {
  grown : Grows (g.S.Source.left l.fn.source) (g.S.Source.left l.source) l.fn.window l.window;
  steady : g.S.Source.faults l.source ≡ g.S.Source.faults l.fn.source;
}

abbrev pub decreases-loop-window : goal.decreases-loop-window
decreases-loop-window g l = l.wanted - length l.window
