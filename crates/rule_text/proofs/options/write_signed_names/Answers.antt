use Rattle.std.proofs.Common.{[], ◌++◌, refl, ap, map, Some, None}
use Rattle.fw_base.proofs.Texts.{starts, ends}
use Rattle.rule_text.specs.Canonical.{signed_names}
use Rattle.rule_text.proofs.Lists.{IsSign, parted-nil, name_written, name_skipped, parted-end, same_rest}
use Rattle.rule_text.proofs.WriteSteps.{goes, breaks_off}
use Rattle.rule_text.proofs.options.write_signed_names.Goals as goal
use Rattle.rule_text.proofs.options.write_signed_names.Goals.{in-Some+in_ok-write_pieces, in_default}

pub returns-in_err-write_text : goal.returns-in_err-write_text
returns-in_err-write_text g c = breaks_off _ _ _ (starts _ _) refl c.in_err-write_text.was c.write_text.ensures c.from_residual.ensures.1

pub loop-bit-init : goal.loop-bit-init
loop-bit-init g c = goes _ (starts _ _) (ap (λ rest. c.args.word.now ++ rest) (parted-nil (signed_names (map (λ name. name.now) c.args.names.now) 0 c.args.set c.args.clear))) c.in_ok-write_text.was c.write_text.ensures

pub returns-in_err-write_pieces : goal.returns-in_err-write_pieces
returns-in_err-write_pieces g c =
    let sign : IsSign c.args.set c.args.clear c.loop-bit.bit (Some c.in-Some.sign.now) = record {
      set_byte = c.from.result;
      clear_byte = c.from-in-loop-bit.result;
      is_set = c.has_bit-is_set.result;
      is_clear = c.has_bit-is_clear.result;
      set_same = c.from.ensures;
      clear_same = c.from-in-loop-bit.ensures;
      set_told = c.has_bit-is_set.ensures;
      clear_told = c.has_bit-is_clear.ensures;
      found = c.in-Some.ensures;
    } in
    breaks_off _ _ _ c.loop-bit.invariant (name_written _ _ _ _ _ _ _ c.loop-bit-test.true sign) c.in_err-write_pieces.was c.write_pieces.ensures c.from_residual-in_err-write_pieces.ensures.1

pub loop-bit-preserved : goal.loop-bit-preserved
loop-bit-preserved g c =
    elim c.match-sign_of.branch [
      | in-Some+in_ok-write_pieces w ↦
          let sign : IsSign c.args.set c.args.clear c.loop-bit.bit (Some w.in-Some.sign.now) = record {
            set_byte = c.from.result;
            clear_byte = c.from-in-loop-bit.result;
            is_set = c.has_bit-is_set.result;
            is_clear = c.has_bit-is_clear.result;
            set_same = c.from.ensures;
            clear_same = c.from-in-loop-bit.ensures;
            set_told = c.has_bit-is_set.ensures;
            clear_told = c.has_bit-is_clear.ensures;
            found = w.in-Some.ensures;
          } in
          rw (w.out-is, w.before-is) (goes _ c.loop-bit.invariant (name_written _ _ _ _ _ _ _ c.loop-bit-test.true sign) w.in_ok-write_pieces.was w.write_pieces.ensures)
      | in_default w ↦
          let sign : IsSign c.args.set c.args.clear c.loop-bit.bit None = record {
            set_byte = c.from.result;
            clear_byte = c.from-in-loop-bit.result;
            is_set = c.has_bit-is_set.result;
            is_clear = c.has_bit-is_clear.result;
            set_same = c.from.ensures;
            clear_same = c.from-in-loop-bit.ensures;
            set_told = c.has_bit-is_set.ensures;
            clear_told = c.has_bit-is_clear.ensures;
            found = w.in_default.ensures;
          } in
          rw (w.out-is, w.before-is) (same_rest (name_skipped _ _ _ (record { ref_ptr = (0, 0); now = [] }) _ _ c.loop-bit-test.true sign) c.loop-bit.invariant)
    ]

pub returns : goal.returns
returns g c = ends _ _ _ _ _ c.loop-bit.invariant (parted-end _ _ _ _ _ c.loop-bit-test.false)
