-- The steps of a lane's work: each is one relation, in whichever world and whichever call makes it.
use Rattle.std.specs.Prelude.{◌≡◌, ℕ, ◌+◌, Bool, true, false, Result, IfOk, OnOk, OnErr, [], ◌∷◌, ◌++◌, length}
use Rattle.eval_engine.specs.Dockets.{judged_entry}
use Rattle.eval_engine.specs.Question.{Question}
use Rattle.eval_engine.specs.declared.docket_entry.DocketEntry.{DocketEntry}
use Rattle.eval_engine.specs.declared.judgement.Judgement.{Judgement}
use Rattle.fw_base.specs.declared.failure.OutOfMemory.{OutOfMemory}
use Rattle.fw_world.specs.AskRuns.{Evaluates, AsksFront}
use Rattle.fw_world.specs.Caches.{IsCacheBehind, IsCacheAfter}
use Rattle.fw_world.specs.Lane.{LaneValue, one_looser}
use Rattle.fw_world.specs.declared.lane_work.LaneWork.{LaneWork}
use Rattle.state_asks.specs.declared.op.Op.{Op}
use Rattle.state_asks.specs.declared.reply.Reply.{Reply}

-- what a lane did with its records
abbrev pub work_of : LaneValue → LaneWork
work_of lane = record { docket = lane.docket; tally = lane.tally; cache = lane.cache; failed = lane.failed; loose = lane.loose }

-- the lane, of which nothing has changed but what it did
abbrev pub with_work : LaneValue → LaneWork → LaneValue
with_work lane work = record lane { docket = work.docket; tally = work.tally; cache = work.cache; failed = work.failed; loose = work.loose }

-- the work, of which one section more was counted as loose where it is one
abbrev pub work_after_section : Bool → LaneWork → LaneWork
work_after_section is_loose work = record work { loose = one_looser is_loose work.loose }

-- the work with one entry more in its docket
abbrev pub with_work_entry : DocketEntry → LaneWork → LaneWork
with_work_entry entry work = record work { docket = record work.docket { entries = work.docket.entries ++ entry ∷ [] } }

-- A record was entered, or memory was wanted.
pub record LaneEnters (before after : LaneWork) (entry : DocketEntry) (result : Result (Unit {0}) OutOfMemory) : Type 0 where
  pub entered : OnOk result (after ≡ with_work_entry entry before)
  -- a lane that has failed enters nothing
  pub working : OnOk result (before.failed ≡ false)
  -- where memory is wanted the lane has failed
  pub failed : OnErr result (after ≡ record before { failed = true })

-- an ask of the lane for its next record was entered with this reply
abbrev pub EntersNext : {B : Type 0} → (B → ℕ → ℕ → Op → Reply → B → Type 0) → ℕ → LaneWork → B → Op → Reply → B → Type 0
EntersNext enters lane work old op reply new = enters old lane (length work.docket.entries + 1) op reply new

-- who is asked: what an ask of a lane for a record means, and what one may leave that wanted memory
module _ {B : Type 0} (enters : B → ℕ → ℕ → Op → Reply → B → Type 0) (misses : B → B → Type 0) where
  -- A packet was evaluated for the lane's next record, or memory was wanted.
  pub record LaneEvaluates (old new : B) (lane : ℕ) (question : Question) (before after : LaneWork) (result : Result Judgement OutOfMemory) : Type 0 where
    -- the evaluation is whole, and its hits were counted
    pub judged : IfOk result (Evaluates (EntersNext enters lane before) old new question before.tally after.tally)
    -- the asks that were made stay, a beginning of those that the evaluation makes
    pub asked : AsksFront (EntersNext enters lane before) misses old new question
    -- its cache, where it has one, was looked into, or memory was wanted before
    pub cache : IsCacheBehind question.edition question.port before.cache after.cache
    -- and saw the packet
    pub seen : OnOk result (IsCacheAfter question before.cache after.cache)

  -- The lane's next record was judged, or memory was wanted.
  pub record LaneJudges (old new : B) (lane : ℕ) (question : Question) (before after : LaneWork) (result : Result Judgement OutOfMemory) : Type 0 where
    pub evaluated : LaneEvaluates old new lane question before after result
    -- its entry stands last in the docket
    pub entered : IfOk result (λ judgement. after ≡ record (with_work_entry (judged_entry judgement) before) { tally = after.tally; cache = after.cache })
    -- a lane that has failed judges nothing, and asks nothing
    pub working : OnOk result (before.failed ≡ false)
    pub idle : before.failed ≡ true → new ≡ old
    -- where memory is wanted the lane has failed, and no entry is made
    pub failed : OnErr result (after ≡ record before { tally = after.tally; cache = after.cache; failed = true })
