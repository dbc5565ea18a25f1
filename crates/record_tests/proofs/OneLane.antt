-- A world of one lane goes on.
use Rattle.std.proofs.Common.{◌≡◌, ℕ, List, [], ◌∷◌, sym, ap, ◌∙◌, subst}
use Rattle.std.specs.Prelude.{Option, Some, None, Result, Ok, Err, OnOk, OnErr}
use Rattle.fw_rule.specs.declared.command.Command.{Command}
use Rattle.cached_verdicts.specs.LaneCache.{LaneCacheValue}
use Rattle.fw_base.specs.declared.port.Port.{Port}
use Rattle.fw_world.specs.Caches.{capacity_of, IsPortFor}
use Rattle.fw_world.proofs.Arranging.{stand-own}
use Rattle.fw_world.specs.Closing.{AreLanesFrom, AreLanesOf}
use Rattle.fw_world.specs.Lane.{LaneValue}
use Rattle.serial_world.specs.Steps.{Publishes}
use Rattle.fw_world.specs.World.{WorldValue, IsLaneOf}
use Rattle.fw_world.specs.declared.commit_fault.CommitFault.{CommitFault}
use Rattle.serial_world.proofs.Keeping.{is_lane_behind}
use Rattle.generation_store.specs.Published.{Published}
use Rattle.record_tests.specs.OneLane.{IsOneLane}

-- its desk published an edition, or a command was refused
pub committed : (old new : WorldValue) (desk shown : List Published) (lane : LaneValue) (command : Command) (outcome : Result ℕ CommitFault) → IsOneLane old desk lane
    → OnOk outcome (Publishes old new command) → OnErr outcome (new ≡ old) → shown ≡ new.editions → IsOneLane new shown lane
committed old new desk shown lane command (Ok number) one publishes unchanged shows = record {
  shows = shows;
  of_world = is_lane_behind old new command lane publishes one.of_world;
  first = one.first;
  alone = ap (λ j. j.lanes) publishes.journal ∙ one.alone;
  cacheless = one.cacheless;
}
committed old new desk shown lane command (Err fault) one publishes unchanged shows = record {
  shows = shows;
  of_world = subst (λ (w : WorldValue). IsLaneOf w lane) (sym unchanged) one.of_world;
  first = one.first;
  alone = ap (λ (w : WorldValue). w.journal.lanes) unchanged ∙ one.alone;
  cacheless = one.cacheless;
}

-- a lane with no cache judges packets of any port
pub any_port : (cache : Option LaneCacheValue) (port : Port) → capacity_of cache ≡ None → IsPortFor cache port
any_port None port none = tt
any_port (Some own) port none = cc

-- it can be closed
pub one_closes : (world : WorldValue) (desk : List Published) (lane : LaneValue) (lanes : List LaneValue) → IsOneLane world desk lane → lanes ≡ lane ∷ [] → (ordered : List LaneValue) × AreLanesOf world lanes ordered
one_closes world desk lane lanes one are =
    (lanes, stand-own (λ (l : LaneValue). l.place) (IsLaneOf world) 1 lanes (subst (λ (ls : List LaneValue). AreLanesFrom world 1 ls) (sym are) (one.first, one.of_world, tt)))
