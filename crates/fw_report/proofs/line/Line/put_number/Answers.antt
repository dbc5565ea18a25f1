use Rattle.std.proofs.Common.{arith, ◌≤◌, length, ap, ℕ, length-drop, length-append}
use Rattle.std.specs.Fmt.{decimal}
use Rattle.std.proofs.lemmas.Fmt.{length-decimal-le}
use Rattle.fw_report.proofs.line.Line.put_number.Goals as goal

pub write_digits-self-inside-requires : goal.write_digits-self-inside-requires
write_digits-self-inside-requires c =
    let short : length (decimal c.args.n) ≤ 20 = length-decimal-le 20 c.args.n (omega arith) (omega arith) c.ranges.n.fits in
    let h = c.self in
    (omega (arith, ap length c.self.view_is, length-drop {A = ℕ}), omega arith)

pub returns-clause-room : goal.returns-clause-room
returns-clause-room c =
    let short : length (decimal c.args.n) ≤ 20 = length-decimal-le 20 c.args.n (omega arith) (omega arith) c.ranges.n.fits in
    rw c.write_digits-self-inside.ensures.written (rw (length-append) (omega (arith, ap length c.self.view_is)))
