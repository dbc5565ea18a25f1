-- Lanes of a world stay its lanes.
use Rattle.std.proofs.Common.{◌≡◌, ℕ, ◌≤◌, true, List, length, sym, ap, subst, arith}
use Rattle.std.proofs.lemmas.List.Elements.{All-push}
use Rattle.std.specs.Prelude.{All, Option, IfSome, Result, Ok, Err, IfOk, OnErr, is_ok}
use Rattle.counter_book.specs.declared.tally.Count.{Count}
use Rattle.fw_base.specs.declared.failure.OutOfMemory.{OutOfMemory}
use Rattle.eval_engine.specs.Dockets.{judged_entry}
use Rattle.eval_engine.specs.declared.judgement.Judgement.{Judgement}
use Rattle.cached_verdicts.specs.LaneCache.{LaneCacheValue}
use Rattle.generation_store.specs.Published.{Published}
use Rattle.fw_world.specs.Caches.{IsCacheAmong}
use Rattle.fw_world.specs.Lane.{LaneValue, with_docket_entry}
use Rattle.serial_world.specs.SerialLane.{lane_after_admission}
use Rattle.fw_world.specs.LaneKept.{IsLane, pending_of}
use Rattle.fw_base.specs.declared.port.Port.{Port}
use Rattle.ip6_headers.specs.declared.any_ip.AnyIp.{AnyIp}
use Rattle.serial_world.specs.Steps.{JudgesNext}
use Rattle.fw_world.specs.Sections.{judged_editions}
use Rattle.fw_world.specs.World.{WorldValue, published_count, IsLaneOf}
use Rattle.fw_world.proofs.LaneSteps.{judged_editions-judged, IsLane-judged, IsLane-failed}

-- a lane of a world is one of any with as many lanes and the same editions
IsLaneOf-same : (old new : WorldValue) (lane : LaneValue) → new.journal.lanes ≡ old.journal.lanes → new.editions ≡ old.editions → IsLaneOf old lane → IsLaneOf new lane
IsLaneOf-same old new lane lanes editions is =
    let count : published_count old ≡ published_count new = sym (ap length editions) in
    record {
      first = is.first;
      last = subst (λ (n : ℕ). lane.place ≤ n) (sym lanes) is.last;
      held = subst (λ (n : ℕ). lane.number ≤ n) count is.held;
      heard = subst (λ (n : ℕ). IfSome lane.refusal (λ number. number ≤ n)) count is.heard;
      judged = subst (λ (n : ℕ). All (λ number. number ≤ n) (judged_editions lane.docket.entries)) count is.judged;
      cached = subst (λ (all : List Published). IsCacheAmong all lane.cache) (sym editions) is.cached;
    }

-- so is a lane that judged under the last edition
IsLaneOf-judged : (world : WorldValue) (lane : LaneValue) (judgement : Judgement) (tally : List Count) (cache : Option LaneCacheValue) → judgement.edition ≡ published_count world → IsCacheAmong world.editions cache → IsLaneOf world lane
    → IsLaneOf world (record (with_docket_entry (judged_entry judgement) lane) { tally = tally; cache = cache })
IsLaneOf-judged world lane judgement tally cache numbered cached is = record {
  first = is.first;
  last = is.last;
  held = is.held;
  heard = is.heard;
  judged = subst (λ (numbers : List ℕ). All (λ number. number ≤ published_count world) numbers) (sym (judged_editions-judged lane.docket.entries judgement))
      (All-push (λ number. number ≤ published_count world) (judged_editions lane.docket.entries) judgement.edition is.judged (omega (arith, numbered)));
  cached = cached;
}

IsLaneOf-failed : (world : WorldValue) (lane : LaneValue) (tally : List Count) (cache : Option LaneCacheValue) → IsCacheAmong world.editions cache → IsLaneOf world lane → IsLaneOf world (record lane { tally = tally; cache = cache; failed = true })
IsLaneOf-failed world lane tally cache cached is = record { first = is.first; last = is.last; held = is.held; heard = is.heard; judged = is.judged; cached = cached }

-- and one that is in under the last edition
pub IsLaneOf-admitted : (world : WorldValue) (lane : LaneValue) → IsLaneOf world lane → IsLaneOf world (lane_after_admission (published_count world) lane)
IsLaneOf-admitted world lane is = record { first = is.first; last = is.last; held = omega arith; heard = tt; judged = is.judged; cached = is.cached }

-- a lane that judged, or that memory failed, is one of the world after
pub IsLaneOf-after : (result : Result Judgement OutOfMemory) (old new : WorldValue) (before after : LaneValue) → new.journal.lanes ≡ old.journal.lanes → new.editions ≡ old.editions
    → IfOk result (λ judgement. judgement.edition ≡ published_count old) → IfOk result (λ judgement. after ≡ record (with_docket_entry (judged_entry judgement) before) { tally = after.tally; cache = after.cache })
    → OnErr result (after ≡ record before { tally = after.tally; cache = after.cache; failed = true }) → IsCacheAmong old.editions after.cache → IsLaneOf old before → IsLaneOf new after
IsLaneOf-after (Ok judgement) old new before after lanes editions numbered lane failed cached is =
    IsLaneOf-same old new after lanes editions (subst (λ (l : LaneValue). IsLaneOf old l) (sym lane) (IsLaneOf-judged old before judgement after.tally after.cache numbered cached is))
IsLaneOf-after (Err fault) old new before after lanes editions numbered lane failed cached is =
    IsLaneOf-same old new after lanes editions (subst (λ (l : LaneValue). IsLaneOf old l) (sym failed) (IsLaneOf-failed old before after.tally after.cache cached is))

-- what holds of every lane holds of it
pub IsLane-after : (result : Result Judgement OutOfMemory) (old : WorldValue) (before after : LaneValue)
    → IfOk result (λ judgement. judgement.edition ≡ published_count old) → IfOk result (λ judgement. after ≡ record (with_docket_entry (judged_entry judgement) before) { tally = after.tally; cache = after.cache })
    → OnErr result (after ≡ record before { tally = after.tally; cache = after.cache; failed = true }) → IsLaneOf old before → IsLane 1 before → IsLane (pending_of (is_ok result)) after
IsLane-after (Ok judgement) old before after numbered lane failed of_world is =
    let below = subst (λ (n : ℕ). All (λ number. number ≤ n) (judged_editions before.docket.entries)) (sym numbered) of_world.judged in
    subst (λ (l : LaneValue). IsLane 0 l) (sym lane) (IsLane-judged before judgement after.tally after.cache is below)
IsLane-after (Err fault) old before after numbered lane failed of_world is = subst (λ (l : LaneValue). IsLane 1 l) (sym failed) (IsLane-failed 1 before after.tally after.cache is)

-- judging leaves its refusal, if there is one
pub refusal-next : (old new : WorldValue) (before after : LaneValue) (packet : AnyIp) (port : Port) (second : ℕ) (result : Result Judgement OutOfMemory) → JudgesNext old new before after packet port second result → after.refusal ≡ before.refusal
refusal-next old new before after packet port second (Ok judgement) next = ap (λ (l : LaneValue). l.refusal) next.lane
refusal-next old new before after packet port second (Err fault) next = ap (λ (l : LaneValue). l.refusal) next.failed
