use Rattle.std.proofs.Common.{◌++◌, refl, ap, arith}
use Rattle.fw_base.proofs.Texts.{starts, ends}
use Rattle.rule_text.specs.Canonical.{numbers_where}
use Rattle.fw_rule.specs.TypeSet.{has_type}
use Rattle.rule_text.proofs.Lists.{parted-nil, number_written, number_skipped, parted_numbers-end, same_rest}
use Rattle.rule_text.proofs.WriteSteps.{goes, breaks_off}
use Rattle.rule_text.proofs.options.write_type_numbers.Goals as goal
use Rattle.rule_text.proofs.options.write_type_numbers.Goals.{then-contains+in_ok-write_pieces, else-contains}

pub returns-in_err-write_text : goal.returns-in_err-write_text
returns-in_err-write_text g c = breaks_off _ _ _ (starts _ _) refl c.in_err-write_text.was c.write_text.ensures c.from_residual.ensures.1

pub loop-number-init : goal.loop-number-init
loop-number-init g c = goes _ (starts _ _) (ap (λ rest. c.args.word.now ++ rest) (parted-nil (numbers_where (has_type c.args.types.now) 256 0))) c.in_ok-write_text.was c.write_text.ensures

pub returns-in_err-write_pieces : goal.returns-in_err-write_pieces
returns-in_err-write_pieces g c =
    breaks_off _ _ _ c.loop-number.invariant (number_written (has_type c.args.types.now) 256 _ _ _ c.loop-number-test.true c.contains.ensures c.if-contains.true) c.in_err-write_pieces.was c.write_pieces.ensures c.from_residual-in_err-write_pieces.ensures.1

pub loop-number-preserved : goal.loop-number-preserved
loop-number-preserved g c =
    elim c.if-contains.branch [
      | then-contains+in_ok-write_pieces w ↦
          rw (w.out-is, w.before-is) (goes _ c.loop-number.invariant (number_written (has_type c.args.types.now) 256 _ _ _ c.loop-number-test.true c.contains.ensures w.if-contains.true) w.in_ok-write_pieces.was w.write_pieces.ensures)
      | else-contains w ↦ rw (w.out-is, w.before-is) (same_rest (number_skipped (has_type c.args.types.now) 256 _ _ _ c.loop-number-test.true c.contains.ensures w.if-contains.false) c.loop-number.invariant)
    ]

pub returns : goal.returns
returns g c = ends _ _ _ _ _ c.loop-number.invariant (parted_numbers-end (has_type c.args.types.now) 256 _ _ (omega arith))
