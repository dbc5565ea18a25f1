use Rattle.eval_engine.specs.Standing.{callers_of}
use Rattle.eval_engine.specs.Walk.{deeper_walk, calls_left, way_back}
use Rattle.eval_engine.proofs.Walks.{onward_next}
use Rattle.eval_engine.proofs.walking.onward.Goals as goal

pub returns : goal.returns
returns c = λ seen.
    let q = c.args.question.now in
    let callers = callers_of c.args.at.now.callers in
    let there = c.requires.there in
    rw c.target-at.ensures
    (onward_next q seen (deeper_walk (calls_left callers) q seen) c.args.at.now.place c.args.rule.now callers (way_back (calls_left callers) q seen callers) c.args.rule.now.action c.requires.onward there.ordered there.within)
