use Rattle.std.proofs.Common.{arith}
use Rattle.std.proofs.lemmas.Result.{err_from_is_err_and}
use Rattle.fw_base.proofs.Texts.{goes_on_with, breaks_in, ends_with}
use Rattle.eval_engine.specs.declared.docket_entry.DocketEntry.TheVariants.{Other}
use Rattle.report_texts.proofs.Sections.{next_line, last_line}
use Rattle.fw_report.proofs.docket_lines.write_capture.Goals as goal

pub returns-in_err-write_record : goal.returns-in_err-write_record
returns-in_err-write_record g c =
    let (error, is, same) = err_from_is_err_and c.from_residual.result c.from_residual.ensures.1 in
    let next = next_line c.args.capture c.loop-entry.at c.loop-entry.entry-index c.args.entries.now c.args.end Other c.loop-entry-test.true in
    rw is (breaks_in _ _ _ _ _ _ _ error (rw next at c.loop-entry.invariant.written) c.in_err-write_record.ensures)

pub loop-entry-preserved : goal.loop-entry-preserved
loop-entry-preserved g c =
    let next = next_line c.args.capture c.loop-entry.at c.loop-entry.entry-index c.args.entries.now c.args.end Other c.loop-entry-test.true in
    record {
      number = omega (arith, c.loop-entry.invariant.number);
      written = goes_on_with _ _ _ _ _ _ _ (rw next at c.loop-entry.invariant.written) c.in_ok-write_record.ensures;
    }

pub returns : goal.returns
returns g c =
    let last = last_line c.args.capture c.loop-entry.at c.loop-entry.entry-index c.args.entries.now c.args.end c.loop-entry-test.false in
    ends_with _ _ _ _ _ _ (rw last at c.loop-entry.invariant.written) c.write_end.ensures
