use Rattle.std.proofs.Common.{◌∙◌, sym}
use Rattle.report_page.specs.PlainWords.{words_for}
use Rattle.report_page.proofs.WordLaws.{found_row, other_row, no_row}
use Rattle.report_page.proofs.plain_words.words_for.Goals as goal

pub returns-then-ends_with_word : goal.returns-then-ends_with_word
returns-then-ends_with_word c =
    sym (c.loop-word.invariant ∙ found_row (λ row. (row.0.now, row.1.now)) c.args.words.now c.loop-word.word-index _ c.args.told.now c.loop-word-test.true (sym c.ends_with_word.ensures ∙ c.if-ends_with_word.true))

pub loop-word-preserved : goal.loop-word-preserved
loop-word-preserved c =
    c.loop-word.invariant ∙ other_row (λ row. (row.0.now, row.1.now)) c.args.words.now c.loop-word.word-index _ c.args.told.now c.loop-word-test.true (sym c.ends_with_word.ensures ∙ c.if-ends_with_word.false)

pub returns : goal.returns
unfolding words_for
returns c = sym (c.loop-word.invariant ∙ no_row (λ row. (row.0.now, row.1.now)) c.args.words.now c.loop-word.word-index c.args.told.now c.loop-word-test.false)
