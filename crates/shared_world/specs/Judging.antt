-- What judging a packet in a section does.
use Rattle.std.specs.Prelude.{◌≡◌, ℕ, ◌+◌, ◌≤◌, true, false, Result, is_ok, IfOk, OnOk, OnErr, Some, List, [], ◌∷◌, ◌++◌, length}
use Rattle.state_asks.specs.declared.op.Op.{Op}
use Rattle.state_asks.specs.declared.reply.Reply.{Reply}
use Rattle.eval_engine.specs.Dockets.{judged_entry}
use Rattle.eval_engine.specs.Evaluated.{Whole}
use Rattle.eval_engine.specs.Evaluation.{evaluate}
use Rattle.eval_engine.specs.Question.{question_under}
use Rattle.eval_engine.specs.declared.judgement.Judgement.{Judgement}
use Rattle.fw_base.specs.declared.failure.OutOfMemory.{OutOfMemory}
use Rattle.fw_base.specs.declared.port.Port.{Port}
use Rattle.fw_world.specs.Asks.{record_asks}
use Rattle.fw_world.specs.AskRuns.{RisesBy, IsFrontOf}
use Rattle.fw_world.specs.Caches.{capacity_of, IsPortFor}
use Rattle.fw_world.specs.Inputs.{Input, Packet}
use Rattle.generation_store.specs.Published.{Published}
use Rattle.ip6_headers.specs.Either.{total_of}
use Rattle.ip6_headers.specs.declared.any_ip.AnyIp.{AnyIp}
use Rattle.shared_world.specs.SharedLane.{SharedLane, SharedInside, with_entry}
use Rattle.shared_world.specs.Standing.{LaneStandsFor}

-- A packet was judged under this edition: with these replies its evaluation is whole, its asks were entered one
-- after the other as the lane's own, the book was taken once for each of them, and its hits were counted.
pub record Judges (edition : Published) (before after : SharedLane) (packet : AnyIp) (port : Port) (second : ℕ) (judgement : Judgement) : Type 0 where
  pub numbered : judgement.edition ≡ edition.number
  pub replies : List Reply
  pub outcome : (evaluate (question_under edition packet port second) replies).outcome ≡ Whole judgement
  pub asked : length (evaluate (question_under edition packet port second) replies).asks ≡ length replies
  pub asks : after.asks ≡ before.asks ++ record_asks edition.number (length before.docket.entries + 1) (evaluate (question_under edition packet port second) replies).asks replies
  pub taken : after.book_taken ≡ before.book_taken + length replies
  pub counted : RisesBy (total_of packet) (evaluate (question_under edition packet port second) replies).hits before.tally after.tally

-- Judging a packet under this edition began: the asks that were entered are a beginning of those that the
-- evaluation makes with their replies, and the book was taken once for each of them, and where the evaluation
-- makes more at most as often as it asks, for one that wanted memory.
pub record BeginsJudging (edition : Published) (before after : SharedLane) (packet : AnyIp) (port : Port) (second : ℕ) : Type 0 where
  pub ops : List Op
  pub replies : List Reply
  pub asked : length ops ≡ length replies
  pub begins : IsFrontOf ops (evaluate (question_under edition packet port second) replies).asks
  pub asks : after.asks ≡ before.asks ++ record_asks edition.number (length before.docket.entries + 1) ops replies
  pub least : before.book_taken + length ops ≤ after.book_taken
  pub most : after.book_taken ≤ before.book_taken + (length ops + 1)
  pub asking : after.book_taken ≤ before.book_taken + length (evaluate (question_under edition packet port second) replies).asks

-- The next record of a lane was judged in its section, or memory was wanted.
pub record JudgesNext (before after : SharedInside) (packet : AnyIp) (port : Port) (second : ℕ) (result : Result Judgement OutOfMemory) : Type 0 where
  -- the packet is judged under the edition that the section reads
  pub edition : Published
  pub reads : before.edition ≡ Some edition
  pub judged : IfOk result (Judges edition before.lane after.lane packet port second)
  -- its entry stands last in the docket; and whatever comes out, nothing else of the lane has changed: it didn't
  -- take the lock behind
  pub entered : IfOk result (λ judgement. after.lane.docket ≡ (with_entry (judged_entry judgement) before.lane).docket)
  pub same : after.lane ≡ record before.lane { docket = after.lane.docket; tally = after.lane.tally; cache = after.lane.cache; asks = after.lane.asks; book_taken = after.lane.book_taken; failed = after.lane.failed }
  -- its cache, where it has one, has as much room, and saw packets of this port alone, if any
  pub room : capacity_of after.lane.cache ≡ capacity_of before.lane.cache
  pub at_port : IsPortFor after.lane.cache port
  -- the lane stands for one packet more
  pub stands : OnOk result ((inputs : List Input) → LaneStandsFor before.lane inputs → LaneStandsFor after.lane (inputs ++ Packet packet port second ∷ []))
  -- a lane that has failed judges nothing, and asks nothing
  pub working : OnOk result ((before.lane.failed ≡ false) × (after.lane.failed ≡ false))
  pub idle : before.lane.failed ≡ true → (after.lane.asks ≡ before.lane.asks) × (after.lane.book_taken ≡ before.lane.book_taken)
  -- where memory is wanted the lane has failed, and enters nothing
  pub failed : OnErr result ((after.lane.failed ≡ true) × (after.lane.docket ≡ before.lane.docket))
  -- the asks that were made stay, a beginning of those that the evaluation makes
  pub begun : BeginsJudging edition before.lane after.lane packet port second
  -- the section goes on under its edition
  pub reading : after.edition ≡ before.edition
  pub section : after.judged ≡ is_ok result
