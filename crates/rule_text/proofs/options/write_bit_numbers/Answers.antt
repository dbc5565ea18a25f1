use Rattle.std.proofs.Common.{◌++◌, refl, ap, arith}
use Rattle.fw_base.proofs.Texts.{starts, ends}
use Rattle.fw_rule.specs.Bits.{has_bit}
use Rattle.rule_text.specs.Canonical.{numbers_where}
use Rattle.rule_text.proofs.Lists.{parted-nil, number_written, number_skipped, parted_numbers-end, same_rest}
use Rattle.rule_text.proofs.WriteSteps.{goes, breaks_off}
use Rattle.rule_text.proofs.options.write_bit_numbers.Goals as goal
use Rattle.rule_text.proofs.options.write_bit_numbers.Goals.{then-has_bit+in_ok-write_pieces, else-has_bit}

pub returns-in_err-write_text : goal.returns-in_err-write_text
returns-in_err-write_text g c = breaks_off _ _ _ (starts _ _) refl c.in_err-write_text.was c.write_text.ensures c.from_residual.ensures.1

pub loop-bit-init : goal.loop-bit-init
loop-bit-init g c = goes _ (starts _ _) (ap (λ rest. c.args.word.now ++ rest) (parted-nil (numbers_where (has_bit c.args.mask) 32 0))) c.in_ok-write_text.was c.write_text.ensures

pub returns-in_err-write_pieces : goal.returns-in_err-write_pieces
returns-in_err-write_pieces g c =
    breaks_off _ _ _ c.loop-bit.invariant (number_written (has_bit c.args.mask) 32 _ _ _ c.loop-bit-test.true c.has_bit.ensures c.if-has_bit.true) c.in_err-write_pieces.was c.write_pieces.ensures c.from_residual-in_err-write_pieces.ensures.1

pub loop-bit-preserved : goal.loop-bit-preserved
loop-bit-preserved g c =
    elim c.if-has_bit.branch [
      | then-has_bit+in_ok-write_pieces w ↦
          rw (w.out-is, w.before-is) (goes _ c.loop-bit.invariant (number_written (has_bit c.args.mask) 32 _ _ _ c.loop-bit-test.true c.has_bit.ensures w.if-has_bit.true) w.in_ok-write_pieces.was w.write_pieces.ensures)
      | else-has_bit w ↦ rw (w.out-is, w.before-is) (same_rest (number_skipped (has_bit c.args.mask) 32 _ _ _ c.loop-bit-test.true c.has_bit.ensures w.if-has_bit.false) c.loop-bit.invariant)
    ]

pub returns : goal.returns
returns g c = ends _ _ _ _ _ c.loop-bit.invariant (parted_numbers-end (has_bit c.args.mask) 32 _ _ (omega arith))
