use Rattle.std.proofs.Common.{◌≡◌, None, arith, rules}
use Rattle.eval_engine.proofs.Progressing.{stands-length}
use Rattle.engine_tests.proofs.traces.in_steps.Goals as goal

pub resume-judgement-requires-clause-fitted : goal.resume-judgement-requires-clause-fitted
resume-judgement-requires-clause-fitted c =
    rw c.new-question.ensures (omega (arith, stands-length _ _ _ _ _ _ _ c.loop-turn.invariant.2, c.requires))

pub loop-turn-preserved : goal.loop-turn-preserved
loop-turn-preserved c =
    let waits : c.loop-turn.judgement ≡ None = search rules in
    let next = c.resume-judgement.ensures _ _ _ (rw waits at c.loop-turn.invariant.2) in
    (_, _, next)
