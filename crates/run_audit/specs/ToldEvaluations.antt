-- An evaluation beside the asks that are told of it.
use Rattle.std.specs.Prelude.{◌≡◌, List, map}
use Rattle.state_asks.specs.declared.op.Op.{Op}
use Rattle.state_asks.specs.declared.reply.Reply.{Reply}
use Rattle.eval_engine.specs.Evaluated.{Whole}
use Rattle.eval_engine.specs.Evaluation.{evaluate}
use Rattle.eval_engine.specs.Question.{Question}
use Rattle.eval_engine.specs.declared.judgement.Judgement.{Judgement}

-- the asks that are told
abbrev pub ops_told : List (Op × Reply) → List Op
ops_told told = map (λ ask. ask.0) told

-- the replies that are told
abbrev pub replies_told : List (Op × Reply) → List Reply
replies_told told = map (λ ask. ask.1) told

-- With the replies that are told the evaluation is whole, made exactly the asks that are told, and came to this
-- judgement.
pub record ComesTo (q : Question) (told : List (Op × Reply)) (judgement : Judgement) : Type 0 where
  pub outcome : (evaluate q (replies_told told)).outcome ≡ Whole judgement
  pub asked : (evaluate q (replies_told told)).asks ≡ ops_told told
