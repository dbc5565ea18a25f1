use Rattle.report_page.specs.PlainWords.{fault_rows, fault_words}
use Rattle.report_page.proofs.plain_words.fault_words.Goals as goal

pub returns : goal.returns
unfolding fault_words fault_rows
returns c = c.words_for.ensures
