use Rattle.view_driver.proofs.ShownFound.{one_text_shown}
use Rattle.view_driver.proofs.script_view.show_reviewed.Goals as goal

pub returns-clause-shown : goal.returns-clause-shown
returns-clause-shown g c = one_text_shown _ _ _ _ _ c.show.ensures tt
