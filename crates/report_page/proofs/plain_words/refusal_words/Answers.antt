use Rattle.report_page.specs.PlainWords.{refusal_rows, refusal_words}
use Rattle.report_page.proofs.plain_words.refusal_words.Goals as goal

pub returns : goal.returns
unfolding refusal_words refusal_rows
returns c = c.words_for.ensures
