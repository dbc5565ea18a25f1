use Rattle.std.proofs.Common.{◌∙◌, sym}
use Rattle.audit_driver.specs.Concluding.{rebuilt_text}
use Rattle.run_audit.proofs.SameTexts.{same_text}
use Rattle.audit_driver.proofs.SameText.{other_line}
use Rattle.audit_driver.proofs.concluding.compare.Goals as goal

pub returns-in-Some : goal.returns-in-Some
returns-in-Some c =
    let wrote = rw (c.deref.ensures.value, c.deref-2.ensures.value, c.deref-3.ensures.value, c.deref-4.ensures.value) at c.write_report-written.ensures in
    sym (other_line c.new-sink.result c.write_report-written.new.out c.args.rebuilt.report.items (rebuilt_text c.args.rebuilt c.args.ends.now) _ c.new-sink.ensures (sym c.is_err.ensures.value ∙ c.if-is_err.false) wrote) ∙ sym c.differs.ensures ∙ c.in-Some.is

pub returns : goal.returns
returns c =
    let wrote = rw (c.deref.ensures.value, c.deref-2.ensures.value, c.deref-3.ensures.value, c.deref-4.ensures.value) at c.write_report-written.ensures in
    sym (same_text 1 (rebuilt_text c.args.rebuilt c.args.ends.now) c.args.rebuilt.report.items
    (sym (other_line c.new-sink.result c.write_report-written.new.out c.args.rebuilt.report.items (rebuilt_text c.args.rebuilt c.args.ends.now) _ c.new-sink.ensures (sym c.is_err.ensures.value ∙ c.if-is_err.false) wrote) ∙ sym c.differs.ensures ∙ c.in-None.is))
