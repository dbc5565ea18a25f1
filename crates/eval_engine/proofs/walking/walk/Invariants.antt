use Rattle.eval_engine.specs.Standing.{seen_by}
use Rattle.eval_engine.specs.Steps.{walk_at, Remains}
use Rattle.eval_engine.specs.Trace.{length_of}
use Rattle.eval_engine.proofs.walking.walk.Given as goal

abbrev pub invariant-loop-verdict : goal.invariant-loop-verdict
invariant-loop-verdict l =
    Remains l.question (walk_at l.question (seen_by l.searched) l.initial.at) (walk_at l.question (seen_by l.searched) l.at) l.initial.tally l.tally

abbrev pub decreases-loop-verdict : goal.decreases-loop-verdict
decreases-loop-verdict l = length_of (walk_at l.question (seen_by l.searched) l.at)
