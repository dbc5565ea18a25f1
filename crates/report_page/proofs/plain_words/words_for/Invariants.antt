-- No row so far has the text's last word.
use Rattle.std.proofs.Common.{◌≡◌, map, drop}
use Rattle.report_page.specs.PlainWords.{words_for}
use Rattle.report_page.proofs.plain_words.words_for.Given as goal

abbrev pub invariant-loop-word : goal.invariant-loop-word
invariant-loop-word l =
    words_for (map (λ row. (row.0.now, row.1.now)) l.words) l.told
    ≡ words_for (map (λ row. (row.0.now, row.1.now)) (drop l.word-index l.words)) l.told
