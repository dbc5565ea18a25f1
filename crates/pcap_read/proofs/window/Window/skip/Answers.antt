use Rattle.std.proofs.Common.{◌+◌, ◌≤◌, drop, length, ap, ◌∙◌, arith}
use Rattle.pcap_read.proofs.Ranges.{slice_range-later, length-slice_range}
use Rattle.pcap_read.proofs.window.Window.skip.Goals as goal

pub returns : goal.returns
returns c =
    let w = c.self.inside in
    let size = length-slice_range w.buffer.items w.start w.end (omega (arith, c.self.invariant.within, w.buffer.ok.0)) in
    let within : w.start + c.args.count ≤ w.end = omega (arith, size, ap length c.self.view_is) in
    slice_range-later w.buffer.items w.start w.end c.args.count within ∙ ap (drop c.args.count) c.self.view_is
