use Rattle.std.proofs.Common.{ap, ◌∙◌}
use Rattle.report_reading.proofs.WordSteps.{is_spent, spent_rest, whole_word}
use Rattle.report_reading.proofs.parts.is_word.Goals as goal

pub returns-in-Some : goal.returns-in-Some
returns-in-Some c =
    c.is_empty.ensures ∙ spent_rest c.in-Some.rest.now ∙ ap is_spent c.in-Some.ensures ∙ whole_word c.args.word.now c.args.text.now

pub returns-in-None : goal.returns-in-None
returns-in-None c = ap is_spent c.in-None.ensures ∙ whole_word c.args.word.now c.args.text.now
