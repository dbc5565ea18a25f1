use Rattle.std.proofs.Common.{◌≡◌, ◌+◌, ◌-◌, ◌++◌, length, slice_range, ap, ◌∙◌, arith, length-append}
use Rattle.pcap_read.proofs.Ranges.{slice_range-longer, slice_range-same, length-slice_range}
use Rattle.pcap_read.proofs.window.Window.refill.Goals as goal

pub returns-clause-refills : goal.returns-clause-refills
returns-clause-refills g c =
    let items = c.read_behind.new.buffer.items in
    let start = c.make_room-start.result.0 in
    let end = c.make_room-start.result.1 in
    let count = c.in_ok-count.count in
    let read = c.in_ok-count.ensures in
    let got = slice_range items end (end + count) in
    let size : length got ≡ count = length-slice_range items end (end + count) (omega (arith, read.bound, c.read_behind.new.buffer.ok.0)) ∙ (let e : end + count - end ≡ count = omega arith in e) in
    let held = slice_range-same items c.make_room-start.new.buffer.items start end c.make_room-start.ensures.ordered read.kept
    ∙ c.make_room-start.ensures.kept ∙ c.self.view_is in
    let grown = slice_range-longer items start end count c.make_room-start.ensures.ordered ∙ ap (λ l. l ++ got) held in
    ((got, grown, read.bytes), ap length grown ∙ length-append c.args.self.now got ∙ ap (λ n. length c.args.self.now + n) size, read.last)
