-- The entries of a docket beside the inputs of its lane.
use Rattle.std.specs.Prelude.{◌≡◌, ℕ, ◌+◌, ⊤, IsSome, IfSome, IsSomeAnd, List, [], ◌∷◌}
use Rattle.fw_base.specs.declared.port.Port.{Port}
use Rattle.ip6_headers.specs.declared.any_ip.AnyIp.{AnyIp}
use Rattle.generation_store.specs.Published.{Published}
use Rattle.eval_engine.specs.Dockets.{judgement_in}
use Rattle.eval_engine.specs.Evaluated.{Evaluated, Whole}
use Rattle.eval_engine.specs.Evaluation.{evaluate}
use Rattle.eval_engine.specs.Question.{question_under}
use Rattle.eval_engine.specs.declared.docket_entry.DocketEntry.{DocketEntry}
use Rattle.eval_engine.specs.declared.docket_entry.DocketEntry.TheVariants as entry
use Rattle.eval_engine.specs.declared.judgement.Judgement.{Judgement}
use Rattle.fw_world.specs.Asks.{LaneAsk, asks_of_record, ops_of, replies_of}
use Rattle.fw_world.specs.Editions.{edition_numbered}
use Rattle.fw_world.specs.Inputs.{Input, Other, Malformed, Packet}

-- A fact of each record, of its input and of its entry, from this record number on; there are as many
-- entries as inputs.
abbrev pub EachRecord : (ℕ → Input → DocketEntry → Type 0) → ℕ → List Input → List DocketEntry → Type 0
EachRecord P at [] [] = ⊤
EachRecord P at [] (entry ∷ entries) = ⊥
EachRecord P at (input ∷ inputs) [] = ⊥
EachRecord P at (input ∷ inputs) (entry ∷ entries) = P at input entry × EachRecord P (at + 1) inputs entries

-- the entry is other or malformed as the input is, and a judgement for a packet
abbrev pub IsEntryFor : ℕ → Input → DocketEntry → Type 0
IsEntryFor at Other entered = entered ≡ entry.Other
IsEntryFor at (Malformed kind) entered = entered ≡ entry.Malformed kind
IsEntryFor at (Packet packet port second) entered = IsSome (judgement_in entered)

-- the evaluation of a packet under an edition, with the replies to these asks
abbrev pub evaluation_under : Published → AnyIp → Port → ℕ → List LaneAsk → Evaluated
evaluation_under edition packet port second asks =
    evaluate (question_under edition packet port second) (replies_of asks)

-- With the replies to the record's asks the evaluation is whole, made exactly these asks, and came to this
-- judgement.
pub record IsEvaluation (edition : Published) (packet : AnyIp) (port : Port) (second : ℕ) (asks : List LaneAsk) (judgement : Judgement) : Type 0 where
  pub outcome : (evaluation_under edition packet port second asks).outcome ≡ Whole judgement
  pub asked : (evaluation_under edition packet port second asks).asks ≡ ops_of asks

-- the packet was evaluated to this judgement, under the edition that it names
abbrev pub IsEvaluatedTo : List Published → AnyIp → Port → ℕ → List LaneAsk → Judgement → Type 0
IsEvaluatedTo editions packet port second asks judgement =
    IsSomeAnd (edition_numbered editions judgement.edition) (λ edition. IsEvaluation edition packet port second asks judgement)

-- a judged packet was evaluated under the edition that its entry names
abbrev pub IsEvaluated : List Published → List LaneAsk → ℕ → Input → DocketEntry → Type 0
IsEvaluated editions asks at (Packet packet port second) entered =
    IfSome (judgement_in entered) (IsEvaluatedTo editions packet port second (asks_of_record at asks))
IsEvaluated editions asks at Other entered = ⊤
IsEvaluated editions asks at (Malformed kind) entered = ⊤
