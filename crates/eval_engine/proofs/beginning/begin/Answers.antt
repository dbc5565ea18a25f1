use Rattle.eval_engine.proofs.Progressing.{stands_begun}
use Rattle.eval_engine.proofs.beginning.begin.Goals as goal

pub returns : goal.returns
returns c =
    stands_begun c.args.question.now c.none-paused.result c.restart.new.self c.walk.result _ c.args.tally.now c.walk.new.tally c.none-paused.ensures
    c.restart.ensures.calls c.restart.ensures.place c.walk.ensures
