use Rattle.std.proofs.Common.{List, map, ◌∙◌}
use Rattle.eval_engine.specs.Dockets.{DocketValue}
use Rattle.eval_engine.specs.declared.docket_entry.DocketEntry.{DocketEntry}
use Rattle.run_audit.proofs.BehindSteps.{none_over}
use Rattle.run_audit.proofs.left_over.find_left_over.Goals as goal

pub returns-in-None : goal.returns-in-None
returns-in-None c =
    let dockets : List (List DocketEntry) = map (λ (docket : DocketValue). docket.entries) c.args.dockets.now in
    none_over c.args.told.now dockets c.loop-line.number c.loop-line.rest.now c.in-None.ensures.lines ∙ c.loop-line.invariant.same
