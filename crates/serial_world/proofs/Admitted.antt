-- What a lane that judged in a section of its own stands for, said of the lane before.
use Rattle.std.proofs.Common.{◌≡◌, ◌+◌, List, [], ◌∷◌, ◌++◌, length, sym, ap, ◌∙◌, subst}
use Rattle.std.specs.Prelude.{ℕ, Result, Ok, Err, IfOk, OnOk}
use Rattle.eval_engine.specs.Dockets.{judged_entry}
use Rattle.eval_engine.specs.declared.judgement.Judgement.{Judgement}
use Rattle.fw_base.specs.declared.failure.OutOfMemory.{OutOfMemory}
use Rattle.fw_base.specs.declared.port.Port.{Port}
use Rattle.ip6_headers.specs.declared.any_ip.AnyIp.{AnyIp}
use Rattle.fw_world.specs.Caches.{capacity_of, IsPortFor}
use Rattle.fw_world.specs.Inputs.{Input, Packet}
use Rattle.fw_world.specs.Lane.{LaneValue, with_docket_entry}
use Rattle.serial_world.specs.SerialLane.{lane_after_admission}
use Rattle.fw_world.specs.World.{WorldValue, published_count, LaneStandsFor}
use Rattle.serial_world.specs.Steps.{Judges, JudgesAdmitted}

-- a lane that is admitted stands for what it stood for
pub LaneStandsFor-admitted : (world : WorldValue) (number : ℕ) (lane : LaneValue) (inputs : List Input) → LaneStandsFor world lane inputs → LaneStandsFor world (lane_after_admission number lane) inputs
LaneStandsFor-admitted world number lane inputs stands = record {
  stands = record { entered = stands.stands.entered; evaluated = stands.stands.evaluated; tallied = stands.stands.tallied; asked = stands.stands.asked };
  cached = stands.cached;
}

module _ (old new : WorldValue) (before after : LaneValue) (packet : AnyIp) (port : Port) (second : ℕ) where
  -- its packet was judged
  pub judged-admitted : (result : Result Judgement OutOfMemory) → JudgesAdmitted old new before after packet port second result
      → IfOk result (λ judgement. Judges old new before.place (length before.docket.entries + 1) packet port second before.tally after.tally judgement)
  judged-admitted (Ok judgement) next = subst (λ (l : LaneValue). Judges old new before.place (length before.docket.entries + 1) packet port second before.tally l.tally judgement) (sym next.2) next.1.judged
  judged-admitted (Err fault) next = tt

  -- its entry stands last in the docket
  pub lane-admitted : (result : Result Judgement OutOfMemory) → JudgesAdmitted old new before after packet port second result
      → IfOk result (λ judgement. after ≡ record (with_docket_entry (judged_entry judgement) (lane_after_admission (published_count old) before)) { tally = after.tally; cache = after.cache })
  lane-admitted (Ok judgement) next =
      subst (λ (l : LaneValue). l ≡ record (with_docket_entry (judged_entry judgement) (lane_after_admission (published_count old) before)) { tally = l.tally; cache = l.cache }) (sym next.2) next.1.lane
  lane-admitted (Err fault) next = tt

  -- its cache has as much room
  pub room-admitted : (result : Result Judgement OutOfMemory) → JudgesAdmitted old new before after packet port second result → capacity_of after.cache ≡ capacity_of before.cache
  room-admitted result next = ap (λ (l : LaneValue). capacity_of l.cache) next.2 ∙ next.1.room

  -- and shows the packet's port
  pub port-admitted : (result : Result Judgement OutOfMemory) → JudgesAdmitted old new before after packet port second result → IsPortFor after.cache port
  port-admitted result next = subst (λ (l : LaneValue). IsPortFor l.cache port) (sym next.2) next.1.at_port

  -- it stands for one packet more
  pub stands-admitted : (result : Result Judgement OutOfMemory) → JudgesAdmitted old new before after packet port second result
      → OnOk result ((inputs : List Input) → LaneStandsFor old before inputs → LaneStandsFor new after (inputs ++ Packet packet port second ∷ []))
  stands-admitted (Ok judgement) next = λ inputs stands.
      subst (λ (l : LaneValue). LaneStandsFor new l (inputs ++ Packet packet port second ∷ [])) (sym next.2) (next.1.stands inputs (LaneStandsFor-admitted old (published_count old) before inputs stands))
  stands-admitted (Err fault) next = tt
