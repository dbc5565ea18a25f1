use Rattle.std.proofs.Common.{Some, None, sym, ap, ◌∙◌, arith}
use Rattle.std.proofs.lemmas.List.{append-nil, take_all}
use Rattle.run_audit.specs.AskStands.{asked_by_each}
use Rattle.run_audit.proofs.Steps.{asked_step}
use Rattle.run_audit.proofs.ask_stands.asked_by_each.Goals as goal
use Rattle.run_audit.proofs.ask_stands.asked_by_each.Goals.{in-Some+in_ok-push, in_default}

pub loop-stand-preserved : goal.loop-stand-preserved
loop-stand-preserved c = elim c.match-asked_at.branch [
  | in-Some+in_ok-push w ↦
      asked_step c.args.entries.now c.args.stands.now c.loop-stand.stand-index _ c.loop-stand.asked.items c.match-asked_at.asked.items (Some w.in-Some.ask) c.loop-stand-test.true c.loop-stand.invariant
      (sym w.in-Some.is ∙ c.asked_at.ensures) (ap (λ v. v.items) w.asked-is ∙ w.in_ok-push.ensures.items)
  | in_default w ↦
      asked_step c.args.entries.now c.args.stands.now c.loop-stand.stand-index _ c.loop-stand.asked.items c.match-asked_at.asked.items None c.loop-stand-test.true c.loop-stand.invariant
      (sym w.in_default.is ∙ c.asked_at.ensures) (ap (λ v. v.items) w.asked-is ∙ sym (append-nil _))
]

pub returns : goal.returns
returns c = c.loop-stand.invariant ∙ ap (asked_by_each c.args.entries.now) (take_all c.loop-stand.stand-index c.args.stands.now (omega arith))
