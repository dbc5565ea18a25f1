use Rattle.std.proofs.Common.{◌≡◌, drop, map}
use Rattle.std.specs.Arc.{arc_value}
use Rattle.report_texts.specs.AnswerText as text
use Rattle.fw_report.proofs.answer_lines.edition_of.Given as goal

abbrev pub invariant-loop-edition : goal.invariant-loop-edition
invariant-loop-edition l = text.edition_of (map arc_value l.editions) l.number ≡ text.edition_of (map arc_value (drop l.edition-index l.editions)) l.number
