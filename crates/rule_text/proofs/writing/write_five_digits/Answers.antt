use Rattle.std.proofs.Common.{arith}
use Rattle.std.specs.Fmt.{decimal}
use Rattle.fw_base.proofs.Texts.{starts}
use Rattle.rule_text.proofs.DigitSteps.{five_fit, five_split, rest_written}
use Rattle.rule_text.proofs.WriteSteps.{goes, breaks_off, finishes}
use Rattle.rule_text.proofs.writing.write_five_digits.Goals as goal

pub slice_bounds-write_text-count : goal.slice_bounds-write_text-count
slice_bounds-write_text-count g c =
    let digits = c.put_digits-start.ensures in
    five_fit c.put_digits-start.new.buffer _ c.args.n (omega arith) digits.within c.put_digits-start.array_long (rw c.from.ensures at digits.digits)

pub returns-in_err-write_text : goal.returns-in_err-write_text
returns-in_err-write_text g c =
    let digits = c.put_digits-start.ensures in
    let split = five_split c.put_digits-start.new.buffer _ c.args.n (omega arith) digits.within c.put_digits-start.array_long (rw c.from.ensures at digits.digits) in
    breaks_off _ _ (decimal c.args.n) (starts _ _) split c.in_err-write_text.was c.write_text.ensures c.from_residual.ensures.1

pub returns : goal.returns
returns g c =
    let digits = c.put_digits-start.ensures in
    let split = five_split c.put_digits-start.new.buffer _ c.args.n (omega arith) digits.within c.put_digits-start.array_long (rw c.from.ensures at digits.digits) in
    let rest = rest_written c.put_digits-start.new.buffer _ c.args.n c.put_digits-start.array_long (rw c.from.ensures at digits.digits) in
    finishes _ (goes (decimal c.args.n) (starts _ _) split c.in_ok-write_text.was c.write_text.ensures) rest c.write_text-2.ensures
