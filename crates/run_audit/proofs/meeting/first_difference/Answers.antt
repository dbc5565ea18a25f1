use Rattle.std.proofs.Common.{Bool, Some, ◌+◌, subst, ap, ◌∙◌}
use Rattle.run_audit.specs.Meeting.{IsMet}
use Rattle.run_audit.proofs.Meetings.{told_other, told_left, told_whole}
use Rattle.run_audit.proofs.meeting.first_difference.Goals as goal

pub returns-then-other : goal.returns-then-other
returns-then-other c = λ written was.
    ap (λ n. Some (1 + n)) c.line_ends.ensures.value
    ∙ told_other c.args.text.now written c.args.met (subst (λ (o : Bool). IsMet c.args.text.now written c.args.met o) c.if-other.true was)

pub returns-then-met-text : goal.returns-then-met-text
returns-then-met-text c = λ written was.
    ap (λ n. Some (1 + n)) c.line_ends-then-met-text.ensures.value
    ∙ told_left c.args.text.now written c.args.met c.if-met-text.true (subst (λ (o : Bool). IsMet c.args.text.now written c.args.met o) c.if-other.false was)

pub returns : goal.returns
returns c = λ written was.
    told_whole c.args.text.now written c.args.met c.if-met-text.false (subst (λ (o : Bool). IsMet c.args.text.now written c.args.met o) c.if-other.false was)
