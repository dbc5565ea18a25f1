-- What an evaluation comes to, given the replies to its asks.
use Rattle.std.specs.Prelude.{ℕ, List}
use Rattle.state_asks.specs.declared.op.Op.{Op}
use Rattle.eval_engine.specs.declared.judgement.Judgement.{Judgement}

-- An evaluation ended and used every reply; it is open at an ask with no reply left; or a reply wasn't one
-- to its ask, or was one too many.
pub data Outcome : Type 0 where
  Whole : Judgement → Outcome
  OpenAt : Op → Outcome
  Neither : Outcome

-- the asks of an evaluation in order, the counter numbers of its hits in order, and how it ended
pub record Evaluated : Type 0 where
  pub asks : List Op
  pub hits : List ℕ
  pub outcome : Outcome
