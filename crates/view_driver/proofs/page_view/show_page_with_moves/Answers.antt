use Rattle.view_driver.proofs.TroubleCauses.{text_comes}
use Rattle.view_driver.proofs.page_view.show_page_with_moves.Goals as goal

pub returns-clause-cause : goal.returns-clause-cause
returns-clause-cause g c = text_comes _ _ _ _ _ _ _ c.in_ok-old_text.ensures.text c.show_report.result (rw c.deref-3.ensures.value at c.show_report.ensures.cause)
