use Rattle.eval_engine.specs.declared.judgement.Cause.TheVariants.{Limit, Full}
use Rattle.eval_engine.proofs.Leading.{comes_at_once, refused_there}
use Rattle.eval_engine.proofs.resuming.answered.Goals as goal

pub returns-in-LimitReached : goal.returns-in-LimitReached
returns-in-LimitReached c =
    let q = c.args.question.now in
    rw c.in-LimitReached.is (comes_at_once q _ _ _ c.args.tally.now (refused_there q c.args.searched.now c.args.at.now (Limit c.in-LimitReached.count)))

pub returns-in-TableFull : goal.returns-in-TableFull
returns-in-TableFull c =
    let q = c.args.question.now in
    rw c.in-TableFull.is (comes_at_once q _ _ _ c.args.tally.now (refused_there q c.args.searched.now c.args.at.now (Full c.in-TableFull.count)))
