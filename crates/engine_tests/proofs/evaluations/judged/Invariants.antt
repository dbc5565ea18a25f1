use Rattle.std.proofs.Common.{List}
use Rattle.state_asks.specs.declared.op.Op.{Op}
use Rattle.state_asks.specs.declared.reply.Reply.{Reply}
use Rattle.eval_engine.specs.Standing.{StandsAt}
use Rattle.engine_tests.proofs.evaluations.judged.Given as goal

abbrev pub invariant-loop-turn : goal.invariant-loop-turn
invariant-loop-turn l =
    (asks : List Op) × (replies : List Reply)
    × StandsAt l.question asks replies l.fn.tally l.judgement l.paused l.tally
