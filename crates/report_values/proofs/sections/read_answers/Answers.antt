use Rattle.std.proofs.Common.{rules}
use Rattle.report_values.proofs.AnswerSteps.{answer_lacks, answer_more, answers_end, answers_spent}
use Rattle.report_values.proofs.sections.read_answers.Goals as goal

pub returns-in_err-read_answer : goal.returns-in_err-read_answer
returns-in_err-read_answer c =
    let lacks =
    answer_lacks c.loop.counter _ c.loop.lines.rest.now c.read_answer.new.lines.rest.now _ (Unit {0})
    c.read_answer.new.lines.rest.now c.in_err-read_answer.field-0.0 c.loop-test.true c.loop.invariant c.in_err-read_answer.ensures in
    search (rules, lacks)

pub returns-then-not-branch : goal.returns-then-not-branch
returns-then-not-branch c =
    let none = rw c.if-not-branch.true at c.in_ok-read_answer.ensures in
    answers_end c.loop.counter _ c.loop.lines.rest.now c.read_answer.new.lines.rest.now _ c.loop-test.true c.loop.invariant none

pub loop-preserved : goal.loop-preserved
loop-preserved c =
    let one = rw c.if-not-branch.false at c.in_ok-read_answer.ensures in
    answer_more c.loop.counter _ c.loop.lines.rest.now c.read_answer.new.lines.rest.now _ c.loop-test.true c.loop.invariant one

pub returns : goal.returns
returns c = answers_spent c.loop.counter _ c.loop.lines.rest.now c.loop.lines.rest.now _ c.loop-test.false c.loop.invariant
