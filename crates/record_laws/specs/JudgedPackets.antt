-- The judged packets of a record, each with its edition and with the replies that the journal has for it.
use Rattle.std.specs.Prelude.{ℕ, ◌+◌, ◌*◌, ◌==◌, Option, Some, None, List, [], ◌∷◌, ◌++◌, count_by}
use Rattle.fw_base.specs.declared.port.Port.{Port}
use Rattle.ip6_headers.specs.Either.{total_of}
use Rattle.ip6_headers.specs.declared.any_ip.AnyIp.{AnyIp}
use Rattle.state_asks.specs.declared.reply.Reply.{Reply}
use Rattle.generation_store.specs.Published.{Published}
use Rattle.eval_engine.specs.Dockets.{DocketValue, judgements}
use Rattle.eval_engine.specs.Evaluated.{Evaluated}
use Rattle.eval_engine.specs.Evaluation.{evaluate}
use Rattle.eval_engine.specs.Question.{question_under}
use Rattle.eval_engine.specs.declared.docket_entry.DocketEntry.{DocketEntry}
use Rattle.eval_engine.specs.declared.judgement.Judgement.{Judgement}
use Rattle.fw_world.specs.Asks.{LaneAsk, asks_of_record, replies_of, lane_asks}
use Rattle.fw_world.specs.Editions.{judging_edition}
use Rattle.fw_world.specs.Inputs.{Input, Other, Malformed, Packet}
use Rattle.fw_world.specs.RecordValue.{RecordValue}

-- a packet, where and when it was captured, the edition that judged it, and the replies to its asks
pub record JudgedPacket : Type 0 where
  pub edition : Published
  pub packet : AnyIp
  pub port : Port
  pub second : ℕ
  pub replies : List Reply

-- its evaluation
abbrev pub evaluation_of : JudgedPacket → Evaluated
evaluation_of p = evaluate (question_under p.edition p.packet p.port p.second) p.replies

-- how often its evaluation hit this counter number (ipfw(8), "DESCRIPTION": each rule counts the packets
-- and the bytes that it matched)
abbrev pub hits_on : ℕ → JudgedPacket → ℕ
hits_on counter p = count_by (λ hit. hit == counter) (evaluation_of p).hits

-- each hit counts the packet's total length
abbrev pub bytes_on : ℕ → JudgedPacket → ℕ
bytes_on counter p = hits_on counter p * total_of p.packet

-- a packet under the edition of a number, if there is one
abbrev pub judged_under : Option Published → AnyIp → Port → ℕ → List LaneAsk → List JudgedPacket
judged_under None packet port second asks = []
judged_under (Some edition) packet port second asks = record { edition = edition; packet = packet; port = port; second = second; replies = replies_of asks } ∷ []

-- the packet of a record, where its entry is a judgement
abbrev pub judged_record : List Published → List LaneAsk → ℕ → Input → DocketEntry → List JudgedPacket
judged_record editions asks at (Packet packet port second) entered = judged_under (judging_edition editions entered) packet port second (asks_of_record at asks)
judged_record editions asks at Other entered = []
judged_record editions asks at (Malformed kind) entered = []

-- the judged packets of a lane, from this record on
abbrev pub judged_records : List Published → List LaneAsk → ℕ → List Input → List DocketEntry → List JudgedPacket
judged_records editions asks at [] entries = []
judged_records editions asks at (input ∷ inputs) [] = []
judged_records editions asks at (input ∷ inputs) (entered ∷ entries) = judged_record editions asks at input entered ++ judged_records editions asks (at + 1) inputs entries

-- the judged packets of all lanes, from this lane on
abbrev pub judged_lanes : RecordValue → ℕ → List (List Input) → List DocketValue → List JudgedPacket
judged_lanes r lane [] dockets = []
judged_lanes r lane (inputs ∷ others) [] = []
judged_lanes r lane (inputs ∷ others) (docket ∷ dockets) =
    judged_records r.editions (lane_asks lane r.journal.entries) 1 inputs docket.entries ++ judged_lanes r (lane + 1) others dockets

-- the judged packets of a run that these inputs had and that left this record
abbrev pub judged_packets : List (List Input) → RecordValue → List JudgedPacket
judged_packets inputs r = judged_lanes r 1 inputs r.dockets

-- the judgements of all dockets, in order
abbrev pub all_judgements : List DocketValue → List Judgement
all_judgements [] = []
all_judgements (docket ∷ dockets) = judgements docket.entries ++ all_judgements dockets
