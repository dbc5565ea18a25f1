use Rattle.std.proofs.Common.{Bool, subst, arith}
use Rattle.std.proofs.lemmas.List.{take_rest}
use Rattle.run_audit.specs.Meeting.{IsMet}
use Rattle.run_audit.proofs.Meetings.{met_other, met_difference, met_further}
use Rattle.run_audit.proofs.meeting.met_behind.Goals as goal

pub returns-then-other : goal.returns-then-other
returns-then-other c = λ written was.
    met_other c.args.text.now written c.args.bytes.now c.args.met (subst (λ (o : Bool). IsMet c.args.text.now written c.args.met o) c.if-other.true was)

pub returns-then-shared-bytes : goal.returns-then-shared-bytes
returns-then-shared-bytes c = λ written was.
    let rest = take_rest c.args.text.now c.args.met in
    let is = rw rest at c.shared_length-shared.ensures.value in
    let low = rw (rest, is) at c.shared_length-shared.ensures.within_second in
    let less = rw is at c.if-shared-bytes.true in
    rw is (met_difference c.args.text.now written c.args.bytes.now c.args.met low less
    (subst (λ (o : Bool). IsMet c.args.text.now written c.args.met o) c.if-other.false was))

pub returns-else-shared-bytes : goal.returns-else-shared-bytes
returns-else-shared-bytes c = λ written was.
    let rest = take_rest c.args.text.now c.args.met in
    let is = rw rest at c.shared_length-shared.ensures.value in
    let low = rw (rest, is) at c.shared_length-shared.ensures.within_second in
    let more = rw is at c.if-shared-bytes.false in
    let few = rw is at c.shared_length-shared.ensures.within in
    rw is (met_further c.args.text.now written c.args.bytes.now c.args.met low (omega (arith, more, few))
    (subst (λ (o : Bool). IsMet c.args.text.now written c.args.met o) c.if-other.false was))
