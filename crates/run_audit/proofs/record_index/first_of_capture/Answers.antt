use Rattle.std.proofs.Common.{sym, ◌∙◌, eq-eqb}
use Rattle.run_audit.specs.Indexes.{is_of_capture}
use Rattle.run_audit.proofs.Steps.{found_now}
use Rattle.run_audit.proofs.record_index.first_of_capture.Goals as goal

pub returns-then-record-capture : goal.returns-then-record-capture
returns-then-record-capture c =
    sym (found_now (is_of_capture c.args.capture) c.args.records.now c.args.places.now c.loop-one.one-index _ c.in-Some.record c.loop-one-test.true
    (sym c.record_at.ensures ∙ c.in-Some.is) (eq-eqb _ _ c.if-record-capture.true))
    ∙ c.loop-one.invariant
