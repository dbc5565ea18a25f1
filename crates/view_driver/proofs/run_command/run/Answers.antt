use Rattle.view_driver.proofs.ShownFound.{found_shown, sink_failed}
use Rattle.view_driver.proofs.run_command.run.Goals as goal

pub returns-clause-shown : goal.returns-clause-shown
returns-clause-shown g c = found_shown _ _ _ _ _ _ _ _ (rw c.in-Err.ensures.silent at c.show.ensures) c.in-Err.ensures.cause

pub returns-in-Ok-show_asked-clause-status_5_cause : goal.returns-in-Ok-show_asked-clause-status_5_cause
returns-in-Ok-show_asked-clause-status_5_cause g c = sink_failed _ _ _ _ _ _ _ c.in-Ok-show_asked.ensures.shown
