use Rattle.eval_engine.proofs.Leading.{leads_counted}
use Rattle.eval_engine.proofs.walking.act.Goals as goal

pub returns : goal.returns
returns c = λ searched.
    leads_counted c.args.question.now searched _ c.follow.result c.follow.new.at c.args.rule.now.counter c.args.tally.now c.hit.new.self (rw (← c.question.view_is, ← c.total.ensures) c.hit.ensures) (c.follow.ensures searched)
