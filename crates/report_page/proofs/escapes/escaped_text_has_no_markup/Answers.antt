use Rattle.report_page.proofs.EscapeLaws.{has_none}
use Rattle.report_page.proofs.escapes.escaped_text_has_no_markup.Goals as goal

pub returns : goal.returns
returns c = has_none
