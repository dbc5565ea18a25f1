use Rattle.std.proofs.Common.{◌≡◌, ◌+◌, List, [], ◌∷◌, ◌++◌, length, ◌∙◌, sym, ap}
use Rattle.std.proofs.lemmas.Result.{IfOk-weaker, on_err_weaker}
use Rattle.std.specs.Prelude.{Some, true, IfOk, OnOk, OnErr}
use Rattle.eval_engine.specs.Dockets.{judged_entry}
use Rattle.eval_engine.specs.Question.{question_under}
use Rattle.fw_world.specs.Caches.{IsCacheAfter, IsCacheAmong}
use Rattle.fw_world.specs.Columns.{no_columns}
use Rattle.fw_world.specs.Editions.{edition_numbered}
use Rattle.fw_world.specs.Inputs.{Input, Packet}
use Rattle.fw_world.specs.Lane.{LaneValue, with_docket_entry}
use Rattle.fw_world.specs.LaneSteps.{LaneJudges, work_of, with_work}
use Rattle.fw_world.specs.World.{WorldValue, published_count, LaneStandsFor}
use Rattle.fw_world.proofs.Caching.{IsTrueFor-among, IsCacheAmong-behind, IsPortFor-behind, capacity-behind}
use Rattle.fw_world.proofs.Numbering.{last_is_found}
use Rattle.fw_world.proofs.Results.{OnOk-three}
use Rattle.state_journal.specs.Journal.{IsJournal}
use Rattle.serial_world.specs.LastEdition.{last_published}
use Rattle.serial_world.specs.Steps.{Judges, BeginsJudging, ChangesAsksOf}
use Rattle.serial_world.specs.WorldKept.{IsWorld}
use Rattle.serial_world.proofs.LastEdition.{IsLastOf-last_published}
use Rattle.serial_world.proofs.LanesOf.{IsLaneOf-after, IsLane-after}
use Rattle.serial_world.proofs.WorldSteps.{AsksFor, BeginsJudging-run, ChangesAsksOf-begun, Judges-run, LaneStandsFor-judged}
use Rattle.serial_world.proofs.serial_world.SerialWorld.judge_record.Goals as goal
use Rattle.serial_world.proofs.serial_world.SerialWorld.judge_record.Goals.{After-lane-1}

-- the lane behind the call
abbrev after : After-lane-1 → LaneValue
after c = with_work c.args.lane.now c.judge.new.self

-- what judging its next record did to the lane's work
judges : (c : After-lane-1)
    → LaneJudges (λ old lane at. AsksFor lane at old) (λ (old new : WorldValue). new ≡ old) c.args.self.now c.judge.new.book c.args.lane.now.place (question_under (last_published c.args.self.now.editions) c.args.packet.now c.args.port.now c.args.second) (work_of c.args.lane.now) c.judge.new.self c.judge.result
judges c = rw (c.self.view_is, c.place-place.ensures, c.work.ensures.value) at c.judge.ensures

is_world : (c : After-lane-1) → IsWorld c.args.self.now
is_world c = rw c.self.view_is at c.law_of_world.ensures.world

is_journal : (c : After-lane-1) → IsJournal c.args.self.now.journal
is_journal c = rw c.self.view_is at c.law_of_world.ensures.journal

begun : (c : After-lane-1) → BeginsJudging c.args.self.now c.judge.new.book c.args.lane.now.place (length c.args.lane.now.docket.entries + 1) c.args.packet.now c.args.port.now c.args.second
begun c = BeginsJudging-run c.args.self.now c.judge.new.book c.args.lane.now.place (length c.args.lane.now.docket.entries + 1) c.args.packet.now c.args.port.now c.args.second (is_world c) (judges c).evaluated.asked

judged : (c : After-lane-1) → IfOk c.judge.result (Judges c.args.self.now c.judge.new.book c.args.lane.now.place (length c.args.lane.now.docket.entries + 1) c.args.packet.now c.args.port.now c.args.second c.args.lane.now.tally c.judge.new.self.tally)
judged c =
    IfOk-weaker c.judge.result _ _
    (λ judgement ran. Judges-run c.args.self.now c.judge.new.book c.args.lane.now.place (length c.args.lane.now.docket.entries + 1) c.args.packet.now c.args.port.now c.args.second c.args.lane.now.tally c.judge.new.self.tally judgement (is_world c) ran)
    (judges c).evaluated.judged

lane : (c : After-lane-1) → IfOk c.judge.result (λ judgement. after c ≡ record (with_docket_entry (judged_entry judgement) c.args.lane.now) { tally = c.judge.new.self.tally; cache = c.judge.new.self.cache })
lane c = IfOk-weaker c.judge.result _ _ (λ judgement is. ap (with_work c.args.lane.now) is) (judges c).entered

failed : (c : After-lane-1) → OnErr c.judge.result (after c ≡ record c.args.lane.now { tally = c.judge.new.self.tally; cache = c.judge.new.self.cache; failed = true })
failed c = on_err_weaker c.judge.result (λ is. ap (with_work c.args.lane.now) is) (judges c).failed

changes : (c : After-lane-1) → ChangesAsksOf c.args.lane.now.place c.args.self.now c.judge.new.book
changes c = ChangesAsksOf-begun _ _ _ _ _ _ _ (begun c)

pub invariant_of-self : goal.invariant_of-self
invariant_of-self c = c.self.invariant ∙ ap no_columns (ap (λ (w : WorldValue). w.journal.lanes) c.self.view_is ∙ sym (changes c).lanes)

-- and the last edition is found by its number
found : (world : WorldValue) → IsWorld world → edition_numbered world.editions (last_published world.editions).number ≡ Some (last_published world.editions)
found world is = last_is_found world.editions (last_published world.editions) is.numbered (IsLastOf-last_published world.editions is.begun)

pub judge-requires-clause-kept : goal.judge-requires-clause-kept
judge-requires-clause-kept c =
    rw (c.work.ensures.value, c.self.view_is) (IsTrueFor-among c.args.self.now.editions (last_published c.args.self.now.editions) c.args.lane.now.cache (found c.args.self.now (rw c.self.view_is at c.law_of_world.ensures.world)) c.requires.of_world.cached)

stands : (c : After-lane-1) → OnOk c.judge.result ((inputs : List Input) → LaneStandsFor c.args.self.now c.args.lane.now inputs → LaneStandsFor c.judge.new.book (after c) (inputs ++ Packet c.args.packet.now c.args.port.now c.args.second ∷ []))
stands c =
    let before = c.args.lane.now in
    OnOk-three c.judge.result
    (Judges c.args.self.now c.judge.new.book before.place (length before.docket.entries + 1) c.args.packet.now c.args.port.now c.args.second before.tally (after c).tally)
    (λ judgement. after c ≡ record (with_docket_entry (judged_entry judgement) before) { tally = (after c).tally; cache = (after c).cache })
    (IsCacheAfter (question_under (last_published c.args.self.now.editions) c.args.packet.now c.args.port.now c.args.second) before.cache (after c).cache)
    _
    (λ judgement judges lane sees. λ inputs stands.
    LaneStandsFor-judged c.args.self.now c.judge.new.book before (after c) c.args.packet.now c.args.port.now c.args.second judgement inputs (is_world c) (is_journal c) judges sees
    (ap (λ (l : LaneValue). l.place) lane) (ap (λ (l : LaneValue). l.docket.entries) lane) stands)
    (judged c) (lane c) (judges c).evaluated.seen

numbered : (c : After-lane-1) → IfOk c.judge.result (λ judgement. judgement.edition ≡ published_count c.args.self.now)
numbered c = IfOk-weaker c.judge.result _ _ (λ judgement judges. judges.numbered) (judged c)

-- it keeps what is true
cached : (c : After-lane-1) → IsCacheAmong c.args.self.now.editions c.judge.new.self.cache
cached c =
    let world = c.args.self.now in
    IsCacheAmong-behind world.editions (last_published world.editions) c.args.port.now c.args.lane.now.cache c.judge.new.self.cache (found world (is_world c)) c.requires.port (judges c).evaluated.cache c.requires.of_world.cached

pub returns-clause-of_world : goal.returns-clause-of_world
returns-clause-of_world c = IsLaneOf-after c.judge.result c.args.self.now c.judge.new.book c.args.lane.now (after c) (changes c).lanes (changes c).editions (numbered c) (lane c) (failed c) (cached c) c.requires.of_world

pub returns-clause-kept : goal.returns-clause-kept
returns-clause-kept c = λ is. IsLane-after c.judge.result c.args.self.now c.args.lane.now (after c) (numbered c) (lane c) (failed c) c.requires.of_world is

pub returns-clause-next : goal.returns-clause-next
returns-clause-next c = record {
  judged = judged c;
  lane = lane c;
  room = capacity-behind (last_published c.args.self.now.editions) c.args.port.now c.args.lane.now.cache c.judge.new.self.cache (judges c).evaluated.cache;
  at_port = IsPortFor-behind (last_published c.args.self.now.editions) c.args.port.now c.args.lane.now.cache c.judge.new.self.cache (judges c).evaluated.cache c.requires.port;
  stands = stands c;
  working = (judges c).working;
  idle = (judges c).idle;
  failed = failed c;
  begun = begun c;
  asks = changes c;
}
