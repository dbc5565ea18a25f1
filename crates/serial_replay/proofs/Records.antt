-- A record of a lane that was replayed: what becomes of the world and the lanes.
use Rattle.std.proofs.Common.{◌≡◌, ◌≢◌, ℕ, zero, suc, ◌+◌, ◌<◌, Option, Some, List, [], ◌∷◌, ◌++◌, length, refl, sym, ap, subst, ◌∙◌, arith, get_or}
use Rattle.std.specs.Prelude.{slice_get, slice_set}
use Rattle.std.specs.List.{AllByRecursion}
use Rattle.std.proofs.lemmas.Option.{slice_get_read}
use Rattle.eval_engine.specs.declared.docket_entry.DocketEntry.{DocketEntry}
use Rattle.eval_engine.specs.declared.judgement.Judgement.{Judgement}
use Rattle.fw_base.specs.declared.port.Port.{Port}
use Rattle.ip6_headers.specs.declared.any_ip.AnyIp.{AnyIp}
use Rattle.state_journal.specs.Items.{asks_of}
use Rattle.fw_world.specs.Caches.{capacity_of, IsPortFor}
use Rattle.fw_world.specs.RecordedHits.{EachHasRoom}
use Rattle.fw_world.specs.Closing.{AreLanesFrom, EachStandsFor}
use Rattle.fw_world.specs.Inputs.{Input, Packet}
use Rattle.fw_world.specs.Lane.{LaneValue, with_docket_entry}
use Rattle.serial_world.specs.Steps.{Judges, ChangesAsksOf}
use Rattle.fw_world.specs.World.{WorldValue, published_count, IsLaneOf, LaneStandsFor}
use Rattle.serial_world.proofs.Keeping.{is_lane_beside, stands_beside}
use Rattle.rule_chain.specs.Configuration.{Configuration}
use Rattle.capture_tracks.specs.Commands.{Standing}
use Rattle.capture_tracks.specs.Operator.{OperatorStandsFor}
use Rattle.serial_replay.specs.Events.{EntersAt, ReplaysInput, judged_lane}
use Rattle.serial_replay.specs.ReplayWorld.{run_state, operator_of, AreLanesAt, IsClean, IsSound, ReplayStandsFor, with_input, ReplaysARecord}
use Rattle.serial_replay.specs.declared.replay_world.ReplayWorld.{ReplayWorld}

-- the lane at a place
pub lane-at : (world : WorldValue) (place : ℕ) (lanes : List LaneValue) (k : ℕ) (lane : LaneValue) → AreLanesFrom world place lanes → slice_get lanes k ≡ Some lane → (lane.place ≡ place + k) × IsLaneOf world lane
lane-at world place [] k lane are at = cc
lane-at world place (first ∷ lanes) zero lane are at =
    let same : first ≡ lane = cc in
    (sym (ap (λ (l : LaneValue). l.place) same) ∙ are.0 ∙ omega arith, subst (IsLaneOf world) same are.1)
lane-at world place (first ∷ lanes) (suc k) lane are at = let rest = lane-at world (place + 1) lanes k lane are.2 at in (rest.0 ∙ omega arith, rest.1)

pub all-at : {X : Type 0} (P : X → Type 0) (xs : List X) (k : ℕ) (x : X) → AllByRecursion P xs → slice_get xs k ≡ Some x → P x
all-at P [] k x all at = cc
all-at P (y ∷ xs) zero x all at = let same : y ≡ x = cc in subst P same all.0
all-at P (y ∷ xs) (suc k) x all at = all-at P xs k x all.1 at

all-set : {X : Type 0} (P : X → Type 0) (xs : List X) (k : ℕ) (x : X) → AllByRecursion P xs → P x → AllByRecursion P (slice_set xs k x)
all-set P [] k x all one = tt
all-set P (y ∷ xs) zero x all one = (one, all.1)
all-set P (y ∷ xs) (suc k) x all one = (all.0, all-set P xs k x all.1 one)

lanes-other : (at : ℕ) (old new : WorldValue) (place : ℕ) (lanes : List LaneValue) → ChangesAsksOf at old new → AreLanesFrom old place lanes → AreLanesFrom new place lanes
lanes-other at old new place [] changes are = tt
lanes-other at old new place (lane ∷ lanes) changes are = (are.0, is_lane_beside at old new lane changes are.1, lanes-other at old new (place + 1) lanes changes are.2)

lanes-set : (at : ℕ) (old new : WorldValue) (place : ℕ) (lanes : List LaneValue) (k : ℕ) (after : LaneValue) → ChangesAsksOf at old new → after.place ≡ place + k → IsLaneOf new after → AreLanesFrom old place lanes → AreLanesFrom new place (slice_set lanes k after)
lanes-set at old new place [] k after changes placed of are = tt
lanes-set at old new place (lane ∷ lanes) zero after changes placed of are = (placed ∙ omega arith, of, lanes-other at old new (place + 1) lanes changes are.2)
lanes-set at old new place (lane ∷ lanes) (suc k) after changes placed of are =
    (are.0, is_lane_beside at old new lane changes are.1, lanes-set at old new (place + 1) lanes k after changes (placed ∙ omega arith) of are.2)

stand-behind : (at : ℕ) (old new : WorldValue) (place : ℕ) (lanes : List LaneValue) (inputs : List (List Input)) → at < place → ChangesAsksOf at old new → AreLanesFrom old place lanes → EachStandsFor old lanes inputs → EachStandsFor new lanes inputs
stand-behind at old new place [] [] less changes are stands = tt
stand-behind at old new place [] (own ∷ inputs) less changes are stands = absurd stands
stand-behind at old new place (lane ∷ lanes) [] less changes are stands = absurd stands
stand-behind at old new place (lane ∷ lanes) (own ∷ inputs) less changes are stands =
    let other : lane.place ≢ at = omega (arith, are.0) in
    (stands_beside at old new lane own changes other stands.0, stand-behind at old new (place + 1) lanes inputs (omega arith) changes are.2 stands.1)

stand-set : (old new : WorldValue) (place : ℕ) (lanes : List LaneValue) (k : ℕ) (lane after : LaneValue) (input : Input) (inputs : List (List Input)) → ChangesAsksOf (place + k) old new → slice_get lanes k ≡ Some lane
    → ((own : List Input) → LaneStandsFor old lane own → LaneStandsFor new after (own ++ input ∷ [])) → AreLanesFrom old place lanes → EachStandsFor old lanes inputs → EachStandsFor new (slice_set lanes k after) (with_input k input inputs)
stand-set old new place [] k lane after input inputs changes at one are stands = cc
stand-set old new place (first ∷ lanes) k lane after input [] changes at one are stands = absurd stands
stand-set old new place (first ∷ lanes) zero lane after input (own ∷ inputs) changes at one are stands =
    let same : first ≡ lane = cc in
    let here : ChangesAsksOf place old new = let e : place + 0 ≡ place = omega arith in subst (λ n. ChangesAsksOf n old new) e changes in
    (one own (subst (λ l. LaneStandsFor old l own) same stands.0), stand-behind place old new (place + 1) lanes inputs (omega arith) here are.2 stands.1)
stand-set old new place (first ∷ lanes) (suc k) lane after input (own ∷ inputs) changes at one are stands =
    let other : first.place ≢ place + suc k = omega (arith, are.0) in
    let there : ChangesAsksOf (place + 1 + k) old new = let e : place + suc k ≡ place + 1 + k = omega arith in subst (λ n. ChangesAsksOf n old new) e changes in
    (stands_beside (place + suc k) old new first own changes other stands.0, stand-set old new (place + 1) lanes k lane after input inputs there at one are.2 stands.1)

length-set_lanes : (lanes : List LaneValue) (k : ℕ) (after : LaneValue) → length (slice_set lanes k after) ≡ length lanes
length-set_lanes [] k after = refl
length-set_lanes (lane ∷ lanes) zero after = refl
length-set_lanes (lane ∷ lanes) (suc k) after = let rest = length-set_lanes lanes k after in omega arith

-- where one lane judged a packet of its port
ports-set : (port : Port) (ports : List Port) (lanes : List LaneValue) (k : ℕ) (after : LaneValue) → slice_get ports k ≡ Some port → IsPortFor after.cache port → AreLanesAt ports lanes → AreLanesAt ports (slice_set lanes k after)
ports-set port [] [] k after at of are = tt
ports-set port [] (lane ∷ lanes) k after at of are = absurd are
ports-set port (own ∷ ports) [] k after at of are = absurd are
ports-set port (own ∷ ports) (lane ∷ lanes) zero after at of are = let same : own ≡ port = cc in (subst (λ p. IsPortFor after.cache p) (sym same) of, are.1)
ports-set port (own ∷ ports) (lane ∷ lanes) (suc k) after at of are = (are.0, ports-set port ports lanes k after at of are.1)

-- the lane at a place is at its port
pub port-of : (port : Port) (ports : List Port) (lanes : List LaneValue) (k : ℕ) (lane : LaneValue) → slice_get ports k ≡ Some port → slice_get lanes k ≡ Some lane → AreLanesAt ports lanes → IsPortFor lane.cache port
port-of port [] [] k lane at there are = cc
port-of port [] (first ∷ lanes) k lane at there are = absurd are
port-of port (own ∷ ports) [] k lane at there are = absurd are
port-of port (own ∷ ports) (first ∷ lanes) zero lane at there are =
    let same : own ≡ port = cc in
    let one : first ≡ lane = cc in
    subst (λ p. IsPortFor lane.cache p) same (subst (λ (l : LaneValue). IsPortFor l.cache own) one are.0)
port-of port (own ∷ ports) (first ∷ lanes) (suc k) lane at there are = port-of port ports lanes k lane at there are.1

-- an input more of the lane at this place
pub record MeetsInput (k : ℕ) (port : Port) (input : Input) (old new : ReplayWorld) (lane after : LaneValue) : Type 0 where
  pub at : slice_get old.lanes.items k ≡ Some lane
  pub set : new.lanes.items ≡ slice_set old.lanes.items k after
  pub asks : ChangesAsksOf lane.place old.world new.world
  pub of : IsLaneOf new.world after
  pub place : after.place ≡ lane.place
  pub clean : IsClean lane → IsClean after
  pub stands : (own : List Input) → LaneStandsFor old.world lane own → LaneStandsFor new.world after (own ++ input ∷ [])
  pub room : capacity_of after.cache ≡ capacity_of lane.cache
  pub port_is : IsPortFor lane.cache port → IsPortFor after.cache port
  pub desk : new.desk ≡ old.desk
  pub answers : new.answers.items ≡ old.answers.items

ports-input : (k : ℕ) (port : Port) (input : Input) (old new : ReplayWorld) (lane after : LaneValue) → MeetsInput k port input old new lane after
    → (ports : List Port) → slice_get ports k ≡ Some port → AreLanesAt ports old.lanes.items → AreLanesAt ports new.lanes.items
ports-input k port input old new lane after h ports at are =
    subst (λ lanes. AreLanesAt ports lanes) (sym h.set) (ports-set port ports old.lanes.items k after at (h.port_is (port-of port ports old.lanes.items k lane at h.at are)) are)

rooms-input : (k : ℕ) (port : Port) (input : Input) (old new : ReplayWorld) (lane after : LaneValue) → MeetsInput k port input old new lane after
    → (cache : Option ℕ) → EachHasRoom cache old.lanes.items → EachHasRoom cache new.lanes.items
rooms-input k port input old new lane after h cache rooms =
    let HasRoom : LaneValue → Type 0 = λ one. capacity_of one.cache ≡ cache in
    subst (λ lanes. AllByRecursion HasRoom lanes) (sym h.set) (all-set HasRoom old.lanes.items k after rooms (h.room ∙ all-at HasRoom old.lanes.items k lane rooms h.at))

sound-input : (k : ℕ) (port : Port) (input : Input) (old new : ReplayWorld) (lane after : LaneValue) → MeetsInput k port input old new lane after → IsSound old → IsSound new
sound-input k port input old new lane after h sound =
    let found = lane-at old.world 1 old.lanes.items k lane sound.lanes h.at in
    record {
      desk = h.desk ∙ sound.desk ∙ sym h.asks.editions;
      lanes = subst (λ lanes. AreLanesFrom new.world 1 lanes) (sym h.set) (lanes-set lane.place old.world new.world 1 old.lanes.items k after h.asks (h.place ∙ found.0) h.of sound.lanes);
      all = ap length h.set ∙ length-set_lanes old.lanes.items k after ∙ sound.all ∙ sym h.asks.lanes;
      clean = subst (λ lanes. AllByRecursion IsClean lanes) (sym h.set) (all-set IsClean old.lanes.items k after sound.clean (h.clean (all-at IsClean old.lanes.items k lane sound.clean h.at)));
    }

pub replay-input : (k : ℕ) (port : Port) (input : Input) (old new : ReplayWorld) (lane after : LaneValue) → MeetsInput k port input old new lane after
    → (first : Configuration) (inputs : List (List Input)) (standing : Standing) → ReplayStandsFor first inputs standing old → ReplayStandsFor first (with_input k input inputs) standing new
replay-input k port input old new lane after h first inputs standing replay =
    let found = lane-at old.world 1 old.lanes.items k lane replay.sound.lanes h.at in
    let same : operator_of new ≡ operator_of old = λ i. record { editions = h.desk i; answers = h.answers i } in
    record {
      sound = sound-input k port input old new lane after h replay.sound;
      operator = subst (OperatorStandsFor first standing) (sym same) replay.operator;
      stands = subst (λ lanes. EachStandsFor new.world lanes (with_input k input inputs)) (sym h.set)
          (stand-set old.world new.world 1 old.lanes.items k lane after input inputs (subst (λ n. ChangesAsksOf n old.world new.world) found.0 h.asks) h.at h.stands replay.sound.lanes replay.stands);
    }

-- the lane that a call lends
pub lane-lent : (replay : ReplayWorld) (k : ℕ) (lane : LaneValue) → IsSound replay → k < length replay.lanes.items → lane ≡ get_or replay.lanes.items k lane → IsLaneOf replay.world lane
lane-lent replay k lane sound within is = (lane-at replay.world 1 replay.lanes.items k lane sound.lanes (slice_get_read replay.lanes.items (length replay.lanes.items) k lane refl within is)).1

-- that lane is clean
pub clean-lent : (replay : ReplayWorld) (k : ℕ) (lane : LaneValue) → IsSound replay → k < length replay.lanes.items → lane ≡ get_or replay.lanes.items k lane → IsClean lane
clean-lent replay k lane sound within is = all-at IsClean replay.lanes.items k lane sound.clean (slice_get_read replay.lanes.items (length replay.lanes.items) k lane refl within is)

-- a packet was judged
pub replays-judged : (k : ℕ) (input : Input) (packet : AnyIp) (port : Port) (second : ℕ) (old new : ReplayWorld) (lane after : LaneValue) (judgement : Judgement) → Packet packet port second ≡ input → k < length old.lanes.items → lane ≡ get_or old.lanes.items k lane
    → new.lanes.items ≡ slice_set old.lanes.items k after → new.desk ≡ old.desk → new.answers.items ≡ old.answers.items
    → Judges old.world new.world lane.place (length lane.docket.entries + 1) packet port second lane.tally after.tally judgement
    → after ≡ judged_lane (published_count old.world) judgement after.tally after.cache lane → capacity_of after.cache ≡ capacity_of lane.cache → IsPortFor after.cache port
    → ((own : List Input) → LaneStandsFor old.world lane own → LaneStandsFor new.world after (own ++ Packet packet port second ∷ []))
    → IsLaneOf new.world after → ChangesAsksOf lane.place old.world new.world → ReplaysARecord k port input old new
replays-judged k input packet port second old new lane after judgement input-is within is set desk answers judges lane-is room at_port stands of asks =
    let at = slice_get_read old.lanes.items (length old.lanes.items) k lane refl within is in
    let meets : MeetsInput k port (Packet packet port second) old new lane after = record {
      at = at;
      set = set;
      asks = asks;
      of = of;
      place = ap (λ (l : LaneValue). l.place) lane-is;
      clean = λ clean. (ap (λ (l : LaneValue). l.refusal) lane-is, ap (λ (l : LaneValue). l.loose) lane-is ∙ clean.1);
      stands = stands;
      room = room;
      port_is = λ before. at_port;
      desk = desk;
      answers = answers;
    } in
    subst (λ i. ReplaysARecord k port i old new) input-is (record {
      replays = record { lane = lane; tally = after.tally; cache = after.cache; judgement = judgement; judges = judges; changes = (at, set ∙ ap (slice_set old.lanes.items k) lane-is) };
      sound = sound-input k port (Packet packet port second) old new lane after meets;
      ports = ports-input k port (Packet packet port second) old new lane after meets;
      rooms = rooms-input k port (Packet packet port second) old new lane after meets;
      lanes = ap length set ∙ length-set_lanes old.lanes.items k after;
      stands = replay-input k port (Packet packet port second) old new lane after meets;
    })

-- an entry was made for a record that isn't judged
pub replays-entered : (k : ℕ) (port : Port) (input : Input) (entered : DocketEntry) (old new : ReplayWorld) (lane after : LaneValue) (met : Input) → met ≡ input → (EntersAt k (run_state old) (run_state new) entered → ReplaysInput k (run_state old) (run_state new) met)
    → k < length old.lanes.items → lane ≡ get_or old.lanes.items k lane → new.lanes.items ≡ slice_set old.lanes.items k after → new.desk ≡ old.desk → new.answers.items ≡ old.answers.items
    → new.world ≡ old.world → after ≡ with_docket_entry entered lane
    → ((own : List Input) → LaneStandsFor old.world lane own → LaneStandsFor old.world after (own ++ met ∷ [])) → IsLaneOf old.world after → ReplaysARecord k port input old new
replays-entered k port input entered old new lane after met input-is replays within is set desk answers world lane-is stands of =
    let at = slice_get_read old.lanes.items (length old.lanes.items) k lane refl within is in
    let meets : MeetsInput k port met old new lane after = record {
      at = at;
      set = set;
      asks = record {
        editions = ap (λ (w : WorldValue). w.editions) world;
        lanes = ap (λ (w : WorldValue). w.journal.lanes) world;
        others = λ n other. ap (λ (w : WorldValue). asks_of n 0 w.journal.entries) world;
      };
      of = subst (λ w. IsLaneOf w after) (sym world) of;
      place = ap (λ (l : LaneValue). l.place) lane-is;
      clean = λ clean. (ap (λ (l : LaneValue). l.refusal) lane-is ∙ clean.0, ap (λ (l : LaneValue). l.loose) lane-is ∙ clean.1);
      stands = λ own before. subst (λ w. LaneStandsFor w after (own ++ met ∷ [])) (sym world) (stands own before);
      room = ap (λ (l : LaneValue). capacity_of l.cache) lane-is;
      port_is = λ before. subst (λ (l : LaneValue). IsPortFor l.cache port) (sym lane-is) before;
      desk = desk;
      answers = answers;
    } in
    subst (λ i. ReplaysARecord k port i old new) input-is (record {
      replays = replays (record { lane = lane; world = world; changes = (at, set ∙ ap (slice_set old.lanes.items k) lane-is) });
      sound = sound-input k port met old new lane after meets;
      ports = ports-input k port met old new lane after meets;
      rooms = rooms-input k port met old new lane after meets;
      lanes = ap length set ∙ length-set_lanes old.lanes.items k after;
      stands = replay-input k port met old new lane after meets;
    })
