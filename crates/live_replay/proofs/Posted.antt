-- A lane at its post, through the calls of its world.
use Rattle.std.proofs.Common.{◌≡◌, ℕ, ◌<◌, ◌≤◌, Option, Some, Ok, Result, [], ◌∷◌, ◌++◌, refl, sym, ap, subst, ◌∙◌, arith}
use Rattle.std.specs.Prelude.{IfSome, is_some, not, Bool, true}
use Rattle.atomic_table.specs.Seated.{TableId}
use Rattle.eval_engine.specs.declared.judgement.Judgement.{Judgement}
use Rattle.fw_base.specs.declared.failure.OutOfMemory.{OutOfMemory}
use Rattle.fw_base.specs.declared.port.Port.{Port}
use Rattle.cached_verdicts.specs.LaneCache.{LaneCacheValue}
use Rattle.fw_world.specs.Caches.{capacity_of, IsPortFor}
use Rattle.fw_world.specs.Inputs.{Packet}
use Rattle.fw_world.specs.Lane.{one_looser}
use Rattle.fw_world.specs.Skips.{skipped_input}
use Rattle.fw_world.specs.declared.skipped.Skipped.{Skipped}
use Rattle.ip6_headers.specs.declared.any_ip.AnyIp.{AnyIp}
use Rattle.rm_table.specs.Moves.{greater_refusal}
use Rattle.shared_world.specs.Judging.{JudgesNext}
use Rattle.shared_world.specs.LaneCalls.{EntersIn, IsRefused, RegainsLane, LeavesLane, SkipsNext}
use Rattle.shared_world.specs.SharedLane.{SharedLane, SharedInside}
use Rattle.live_replay.specs.Posted.{IsPosted, StaysPosted, AdmitsLane, TakesInput}

-- a lane at its post is where it was
pub stays_posted : (world : TableId) (lane : SharedLane) → IsPosted world lane → StaysPosted world lane lane
stays_posted world lane posted = record { place = refl; cache = refl; posted = posted; stands = λ inputs stands. stands }

-- a lane at its post that enters is in
pub admits_in : (world : TableId) (first lane : SharedLane) (inside : SharedInside) → StaysPosted world first lane → EntersIn lane inside → AdmitsLane world first inside
admits_in world first lane inside stays h = record {
  stays = record {
    place = ap (λ (l : SharedLane). l.place) h.lane_is ∙ stays.place;
    cache = ap (λ (l : SharedLane). l.cache) h.lane_is ∙ stays.cache;
    posted = record {
      of_world = ap (λ (l : SharedLane). l.world) h.lane_is ∙ stays.posted.of_world;
      heeded = ap (λ (l : SharedLane). l.refusal) h.lane_is ∙ stays.posted.heeded;
      clean = ap (λ (l : SharedLane). l.loose) h.lane_is ∙ ap (λ (r : Option ℕ). one_looser (is_some r) lane.loose) stays.posted.heeded ∙ stays.posted.clean;
    };
    stands = λ inputs stands. h.stands inputs (stays.stands inputs stands);
  };
  fresh = h.fresh;
}

-- a lane that was refused is of its world
pub refused_of : (world : TableId) (first lane refused : SharedLane) (number : ℕ) → StaysPosted world first lane → IsRefused lane refused number → refused.world ≡ world
refused_of world first lane refused number stays h = ap (λ (l : SharedLane). l.world) h.lane_is ∙ stays.posted.of_world

-- a lane that was refused and regained is at its post
pub posted_again : (world : TableId) (first lane refused again : SharedLane) (number : ℕ) → StaysPosted world first lane → IsRefused lane refused number → RegainsLane refused again → StaysPosted world first again
posted_again world first lane refused again number stays h r = record {
  place = ap (λ (l : SharedLane). l.place) r.lane_is ∙ ap (λ (l : SharedLane). l.place) h.lane_is ∙ stays.place;
  cache = ap (λ (l : SharedLane). l.cache) r.lane_is ∙ ap (λ (l : SharedLane). l.cache) h.lane_is ∙ stays.cache;
  posted = record {
    of_world = ap (λ (l : SharedLane). l.world) r.lane_is ∙ ap (λ (l : SharedLane). l.world) h.lane_is ∙ stays.posted.of_world;
    heeded = ap (λ (l : SharedLane). l.refusal) r.lane_is;
    clean = ap (λ (l : SharedLane). l.loose) r.lane_is ∙ ap (λ (l : SharedLane). l.loose) h.lane_is ∙ ap (λ (o : Option ℕ). one_looser (is_some o) lane.loose) stays.posted.heeded ∙ stays.posted.clean;
  };
  stands = λ inputs stands. r.stands inputs (h.stands inputs (stays.stands inputs stands));
}

-- and holds a greater number than before
pub number_rises : (world : TableId) (first lane refused again : SharedLane) (number : ℕ) → StaysPosted world first lane → IsRefused lane refused number → RegainsLane refused again → lane.number < again.number
number_rises world first lane refused again number stays h r =
    let refusal : refused.refusal ≡ Some number = ap (λ (l : SharedLane). l.refusal) h.lane_is ∙ ap (λ (o : Option ℕ). Some (greater_refusal o number)) stays.posted.heeded in
    let least : number ≤ r.number = subst (λ (o : Option ℕ). IfSome o (λ n. n ≤ r.number)) refusal r.heard in
    let held : again.number ≡ r.number = ap (λ (l : SharedLane). l.number) r.lane_is in
    let above = h.above in
    omega arith

-- a lane that judged a packet in its section and left stands for it
pub takes_packet : (world : TableId) (first lane : SharedLane) (inside after : SharedInside) (packet : AnyIp) (port : Port) (second : ℕ) (result : Result Judgement OutOfMemory) (judgement : Judgement)
    → result ≡ Ok judgement → AdmitsLane world first inside → JudgesNext inside after packet port second result → LeavesLane after lane → TakesInput world (Packet packet port second) first lane
takes_packet world first lane inside after packet port second result judgement ok admits judges leaves =
    let j = subst (λ (r : Result Judgement OutOfMemory). JudgesNext inside after packet port second r) ok judges in
    let judged : after.judged ≡ true = j.section in
    record {
      place = ap (λ (l : SharedLane). l.place) leaves.lane_is ∙ ap (λ (l : SharedLane). l.place) j.same ∙ admits.stays.place;
      posted = record {
        of_world = ap (λ (l : SharedLane). l.world) leaves.lane_is ∙ ap (λ (l : SharedLane). l.world) j.same ∙ admits.stays.posted.of_world;
        heeded = ap (λ (l : SharedLane). l.refusal) leaves.lane_is ∙ ap (λ (l : SharedLane). l.refusal) j.same ∙ admits.stays.posted.heeded;
        clean = ap (λ (l : SharedLane). l.loose) leaves.lane_is ∙ ap (λ (b : Bool). one_looser (not b) after.lane.loose) judged ∙ ap (λ (l : SharedLane). l.loose) j.same ∙ admits.stays.posted.clean;
      };
      room = ap (λ (l : SharedLane). capacity_of l.cache) leaves.lane_is ∙ j.room ∙ ap capacity_of admits.stays.cache;
      at_port = λ at same was. subst (λ (cache : Option LaneCacheValue). IsPortFor cache at) (sym (ap (λ (l : SharedLane). l.cache) leaves.lane_is)) (subst (λ (p : Port). IsPortFor after.lane.cache p) same j.at_port);
      stands = λ inputs stands. leaves.stands (inputs ++ Packet packet port second ∷ []) (j.stands inputs (admits.stays.stands inputs stands));
    }

-- the lane of a section that was judged in is of its world
pub inside_of : (world : TableId) (first : SharedLane) (inside after : SharedInside) → AdmitsLane world first inside → after.lane.world ≡ inside.lane.world → after.lane.world ≡ world
inside_of world first inside after admits same = same ∙ admits.stays.posted.of_world

-- a lane that entered a record that isn't judged stands for it
pub takes_skipped : (world : TableId) (first lane : SharedLane) (entry : Skipped) (result : Result (Unit {0}) OutOfMemory) (u : Unit {0}) → result ≡ Ok u → IsPosted world first → SkipsNext first lane entry result → TakesInput world (skipped_input entry) first lane
takes_skipped world first lane entry result u ok posted skips =
    let s = subst (λ (r : Result (Unit {0}) OutOfMemory). SkipsNext first lane entry r) ok skips in
    record {
      place = ap (λ (l : SharedLane). l.place) s.lane_is;
      posted = record {
        of_world = ap (λ (l : SharedLane). l.world) s.lane_is ∙ posted.of_world;
        heeded = ap (λ (l : SharedLane). l.refusal) s.lane_is ∙ posted.heeded;
        clean = ap (λ (l : SharedLane). l.loose) s.lane_is ∙ posted.clean;
      };
      room = ap (λ (l : SharedLane). capacity_of l.cache) s.lane_is;
      at_port = λ at same was. subst (λ (cache : Option LaneCacheValue). IsPortFor cache at) (sym (ap (λ (l : SharedLane). l.cache) s.lane_is)) was;
      stands = s.stands;
    }

-- a lane that is in judges packets of the port that it did before
pub admits_port : (world : TableId) (first : SharedLane) (inside : SharedInside) (port : Port) → AdmitsLane world first inside → IsPortFor first.cache port → IsPortFor inside.lane.cache port
admits_port world first inside port admits was = subst (λ (cache : Option LaneCacheValue). IsPortFor cache port) (sym admits.stays.cache) was
