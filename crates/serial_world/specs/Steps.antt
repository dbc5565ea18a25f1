-- The steps of a serial world: each is one relation, whichever call makes it.
use Rattle.std.specs.Prelude.{◌≡◌, ◌≢◌, ℕ, ◌+◌, true, false, Result, is_ok, IfOk, OnOk, IfErr, OnErr, List, [], ◌∷◌, ◌++◌, length}
use Rattle.counter_book.specs.declared.tally.Count.{Count}
use Rattle.state_asks.specs.declared.op.Op.{Op}
use Rattle.state_asks.specs.declared.reply.Reply.{Reply}
use Rattle.eval_engine.specs.Dockets.{judged_entry}
use Rattle.eval_engine.specs.Evaluated.{Whole}
use Rattle.eval_engine.specs.Evaluation.{evaluate}
use Rattle.eval_engine.specs.Question.{question_under}
use Rattle.eval_engine.specs.declared.judgement.Judgement.{Judgement}
use Rattle.fw_rule.specs.declared.command.Command.{Command}
use Rattle.generation_store.specs.Published.{Published}
use Rattle.fw_base.specs.declared.failure.OutOfMemory.{OutOfMemory}
use Rattle.fw_base.specs.declared.port.Port.{Port}
use Rattle.ip6_headers.specs.Either.{total_of}
use Rattle.ip6_headers.specs.declared.any_ip.AnyIp.{AnyIp}
use Rattle.state_journal.specs.Items.{asks_of}
use Rattle.state_journal.specs.Journal.{with_publication}
use Rattle.fw_world.specs.AskRuns.{RisesBy, IsFrontOf}
use Rattle.fw_world.specs.Asks.{with_asks}
use Rattle.fw_world.specs.Caches.{capacity_of, IsPortFor}
use Rattle.fw_world.specs.Editions.{IsLastOf, IsNextEdition}
use Rattle.fw_world.specs.CommitFaults.{IsCauseOf}
use Rattle.fw_world.specs.Inputs.{Input, Packet}
use Rattle.fw_world.specs.Lane.{LaneValue, with_docket_entry}
use Rattle.serial_world.specs.SerialLane.{lane_after_admission, lane_after_leave}
use Rattle.fw_world.specs.Skips.{entry_for, skipped_input}
use Rattle.fw_world.specs.World.{WorldValue, published_count, IsLaneOf, LaneStandsFor, DeskStandsFor}
use Rattle.fw_world.specs.declared.commit_fault.CommitFault.{CommitFault}
use Rattle.fw_world.specs.declared.skipped.Skipped.{Skipped}
use Rattle.rule_chain.specs.Configuration.{Configuration}

-- A packet of a lane was judged under the last edition: with these replies its evaluation is whole, its asks
-- were entered at the journal's end one after the other, its hits were counted, and nothing else changed.
pub record Judges (old new : WorldValue) (lane at : ℕ) (packet : AnyIp) (port : Port) (second : ℕ) (counts countsAfter : List Count) (judgement : Judgement) : Type 0 where
  pub edition : Published
  pub last : IsLastOf old.editions edition
  pub numbered : judgement.edition ≡ published_count old
  pub replies : List Reply
  pub outcome : (evaluate (question_under edition packet port second) replies).outcome ≡ Whole judgement
  pub asked : length (evaluate (question_under edition packet port second) replies).asks ≡ length replies
  pub entered : new.journal ≡ with_asks old.journal lane at (evaluate (question_under edition packet port second) replies).asks replies
  pub counted : RisesBy (total_of packet) (evaluate (question_under edition packet port second) replies).hits counts countsAfter
  pub editions : new.editions ≡ old.editions

-- Judging a packet of a lane under the last edition began: the asks that were entered at the journal's end
-- are a beginning of those that the evaluation makes with their replies, and nothing else changed.
pub record BeginsJudging (old new : WorldValue) (lane at : ℕ) (packet : AnyIp) (port : Port) (second : ℕ) : Type 0 where
  pub edition : Published
  pub last : IsLastOf old.editions edition
  pub ops : List Op
  pub replies : List Reply
  pub asked : length ops ≡ length replies
  pub begins : IsFrontOf ops (evaluate (question_under edition packet port second) replies).asks
  pub entered : new.journal ≡ with_asks old.journal lane at ops replies
  pub editions : new.editions ≡ old.editions

-- nothing of the world changed but the asks of this lane
pub record ChangesAsksOf (lane : ℕ) (old new : WorldValue) : Type 0 where
  pub editions : new.editions ≡ old.editions
  pub lanes : new.journal.lanes ≡ old.journal.lanes
  pub others : (k : ℕ) → k ≢ lane → asks_of k 0 new.journal.entries ≡ asks_of k 0 old.journal.entries

-- An edition was published: it is what the command makes of the last one, and stands last.
pub record Publishes (old new : WorldValue) (command : Command) : Type 0 where
  pub edition : Published
  pub next : IsNextEdition old.editions command edition
  pub editions : new.editions ≡ old.editions ++ edition ∷ []
  pub journal : new.journal ≡ with_publication old.journal edition.facts

-- The next record of a lane was judged in its section, or memory was wanted.
pub record JudgesNext (old new : WorldValue) (before after : LaneValue) (packet : AnyIp) (port : Port) (second : ℕ) (result : Result Judgement OutOfMemory) : Type 0 where
  -- the packet is judged under the last edition
  pub judged : IfOk result (λ judgement. Judges old new before.place (length before.docket.entries + 1) packet port second before.tally after.tally judgement)
  -- its entry stands last in the docket
  pub lane : IfOk result (λ judgement. after ≡ record (with_docket_entry (judged_entry judgement) before) { tally = after.tally; cache = after.cache })
  -- its cache, where it has one, has as much room, and saw packets of this port alone, if any
  pub room : capacity_of after.cache ≡ capacity_of before.cache
  pub at_port : IsPortFor after.cache port
  -- the lane stands for one packet more
  pub stands : OnOk result ((inputs : List Input) → LaneStandsFor old before inputs → LaneStandsFor new after (inputs ++ Packet packet port second ∷ []))
  -- a lane that has failed judges nothing
  pub working : OnOk result (before.failed ≡ false)
  pub idle : before.failed ≡ true → new ≡ old
  -- where memory is wanted the lane has failed
  pub failed : OnErr result (after ≡ record before { tally = after.tally; cache = after.cache; failed = true })
  -- the asks that were made stay, a beginning of those that the evaluation makes
  pub begun : BeginsJudging old new before.place (length before.docket.entries + 1) packet port second
  -- other lanes' asks are as they were
  pub asks : ChangesAsksOf before.place old new

-- The next record of a lane was judged in a section of its own: the lane is admitted, judges and leaves.
abbrev pub JudgesAdmitted : WorldValue → WorldValue → LaneValue → LaneValue → AnyIp → Port → ℕ → Result Judgement OutOfMemory → Type 0
JudgesAdmitted old new before after packet port second result =
    (inside : LaneValue) × JudgesNext old new (lane_after_admission (published_count old) before) inside packet port second result × (after ≡ lane_after_leave (record { lane = inside; judged = is_ok result }))

-- A record of a lane was entered that isn't judged, or memory was wanted.
pub record SkipsNext (world : WorldValue) (before after : LaneValue) (entry : Skipped) (result : Result (Unit {0}) OutOfMemory) : Type 0 where
  pub lane : OnOk result (after ≡ with_docket_entry (entry_for entry) before)
  -- the lane stands for one input more
  pub stands : OnOk result ((inputs : List Input) → LaneStandsFor world before inputs → LaneStandsFor world after (inputs ++ skipped_input entry ∷ []))
  pub working : OnOk result (before.failed ≡ false)
  pub failed : OnErr result (after ≡ record before { failed = true })
  pub of_world : IsLaneOf world before → IsLaneOf world after

-- A command made the next edition and it was published, or it is refused, or memory was wanted: then nothing
-- has changed.
pub record Commits (old new : WorldValue) (shown shownAfter : List Published) (command : Command) (result : Result ℕ CommitFault) : Type 0 where
  pub published : OnOk result (Publishes old new command)
  pub number : IfOk result (λ number. number ≡ published_count new)
  -- the desk shows the world's editions, and stands for one command more
  pub desk : shownAfter ≡ new.editions
  pub accepts : OnOk result ((first : Configuration) (commands : List Command) → DeskStandsFor shown first commands → DeskStandsFor shownAfter first (commands ++ command ∷ []))
  -- each lane of the world is one of it still, and stands for its inputs
  pub lanes : OnOk result ((lane : LaneValue) → IsLaneOf old lane → IsLaneOf new lane)
  pub stands : OnOk result ((lane : LaneValue) (inputs : List Input) → LaneStandsFor old lane inputs → LaneStandsFor new lane inputs)
  pub cause : IfErr result (IsCauseOf old.editions command)
  pub unchanged : OnErr result (new ≡ old)
