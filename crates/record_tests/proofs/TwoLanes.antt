-- A world of two lanes goes on.
use Rattle.std.proofs.Common.{◌≡◌, None, List, [], ◌∷◌, sym, subst, ◌∙◌}
use Rattle.fw_world.specs.Caches.{capacity_of}
use Rattle.fw_world.proofs.Arranging.{stand-own}
use Rattle.fw_world.specs.Closing.{AreLanesFrom, AreLanesOf}
use Rattle.fw_world.specs.Lane.{LaneValue}
use Rattle.serial_world.specs.Steps.{ChangesAsksOf}
use Rattle.fw_world.specs.World.{WorldValue, IsLaneOf}
use Rattle.serial_world.proofs.Keeping.{is_lane_beside}
use Rattle.generation_store.specs.Published.{Published}
use Rattle.record_tests.specs.TwoLanes.{AreTwoLanes}

-- its first lane judged
pub first_judged : (old new : WorldValue) (desk : List Published) (first second after : LaneValue) → AreTwoLanes old desk first second
    → IsLaneOf new after → after.place ≡ first.place → capacity_of after.cache ≡ None → ChangesAsksOf first.place old new → AreTwoLanes new desk after second
first_judged old new desk first second after two of_world place none changes = record {
  shows = two.shows ∙ sym changes.editions;
  lanes = (
    place ∙ two.lanes.0,
    of_world,
    (two.lanes.2.0, is_lane_beside first.place old new second changes two.lanes.2.1, tt),
  );
  both = changes.lanes ∙ two.both;
  cacheless = (none, two.cacheless.1);
}

-- its second lane judged
pub second_judged : (old new : WorldValue) (desk : List Published) (first second after : LaneValue) → AreTwoLanes old desk first second
    → IsLaneOf new after → after.place ≡ second.place → capacity_of after.cache ≡ None → ChangesAsksOf second.place old new → AreTwoLanes new desk first after
second_judged old new desk first second after two of_world place none changes = record {
  shows = two.shows ∙ sym changes.editions;
  lanes = (
    two.lanes.0,
    is_lane_beside second.place old new first changes two.lanes.1,
    (place ∙ two.lanes.2.0, of_world, tt),
  );
  both = changes.lanes ∙ two.both;
  cacheless = (two.cacheless.0, none);
}

-- they can be closed
pub two_close : (world : WorldValue) (desk : List Published) (first second : LaneValue) (lanes : List LaneValue) → AreTwoLanes world desk first second → lanes ≡ first ∷ second ∷ [] → (ordered : List LaneValue) × AreLanesOf world lanes ordered
two_close world desk first second lanes two are =
    (lanes, stand-own (λ (l : LaneValue). l.place) (IsLaneOf world) 1 lanes (subst (λ (ls : List LaneValue). AreLanesFrom world 1 ls) (sym are) two.lanes))
