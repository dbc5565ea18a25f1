use Rattle.std.proofs.Common.{List, sym, subst}
use Rattle.capture_tracks.specs.Commands.{lines_outcome}
use Rattle.generation_store.specs.Published.{Published}
use Rattle.run_audit.specs.Audit.{AreEditionsOf}
use Rattle.run_audit.specs.Replaying.{AreNumbered}
use Rattle.run_audit.proofs.Opened.{fails_at}
use Rattle.run_audit.proofs.Publishing.{are_numbered}
use Rattle.run_audit.proofs.opening.opened_report.Goals as goal

pub told_report-requires-clause-numbered : goal.told_report-requires-clause-numbered
told_report-requires-clause-numbered c =
    subst (λ (all : List Published). AreNumbered all) (sym c.into_parts-editions.ensures.editions)
    (are_numbered c.args.config (lines_outcome c.args.config c.args.steps.now).accepted c.in_ok-of_steps.field-0.editions c.in_ok-of_steps.ensures.accepted)

pub returns-in-Err-clause-wrong : goal.returns-in-Err-clause-wrong
returns-in-Err-clause-wrong c =
    let made =
    subst (λ (all : List Published). AreEditionsOf c.args.config c.args.steps.now all) (sym c.into_parts-editions.ensures.editions) c.in_ok-of_steps.ensures.accepted in
    fails_at c.args.config c.args.steps.now c.args.report.now _ c.with_form.result made (c.with_form.ensures _ c.in-Err.ensures.wrong)
