use Rattle.std.proofs.lemmas.Result.{on_ok_weaker}
use Rattle.run_audit.proofs.Publishing.{step_ran, step_waited}
use Rattle.run_audit.proofs.publisher.Publisher.run_step.Goals as goal

pub returns-in-Run : goal.returns-in-Run
returns-in-Run c = on_ok_weaker _ (λ ran. step_ran c.args.step.now c.in-Run.line c.args.self.now _ c.in-Run.is ran) c.run_line.ensures

pub returns-in-After : goal.returns-in-After
returns-in-After c = λ first standing stands. step_waited c.args.step.now _ c.args.self.now c.in-After.is first standing stands
