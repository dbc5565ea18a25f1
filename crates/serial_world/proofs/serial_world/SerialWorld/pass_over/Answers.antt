use Rattle.std.proofs.Common.{◌≡◌, List, [], ◌∷◌, ◌++◌, ap, sym, subst}
use Rattle.std.proofs.lemmas.Result.{on_err_weaker, on_ok_weaker}
use Rattle.std.specs.Prelude.{true, OnErr, OnOk}
use Rattle.fw_world.specs.Inputs.{Input}
use Rattle.fw_world.specs.Lane.{LaneValue, with_docket_entry}
use Rattle.fw_world.specs.LaneSteps.{LaneEnters, work_of, with_work}
use Rattle.fw_world.specs.Skips.{entry_for, skipped_input}
use Rattle.fw_world.specs.World.{IsLaneOf, LaneStandsFor}
use Rattle.fw_world.proofs.Passing.{IsLane-passed, IsLaneOf-passed, LaneStandsFor-passed}
use Rattle.serial_world.proofs.serial_world.SerialWorld.pass_over.Goals as goal
use Rattle.serial_world.proofs.serial_world.SerialWorld.pass_over.Goals.{After-lane-1}

-- the lane behind the call
abbrev after : After-lane-1 → LaneValue
after c = with_work c.lane.inside.state c.enter.new.self

-- what entering the record did to the lane's work
enters : (c : After-lane-1) → LaneEnters (work_of c.lane.inside.state) c.enter.new.self (entry_for c.args.entry) c.enter.result
enters c = rw (c.work.ensures.value, c.skipped_entry.ensures) at c.enter.ensures

entered : (c : After-lane-1) → OnOk c.enter.result (after c ≡ with_docket_entry (entry_for c.args.entry) c.lane.inside.state)
entered c = on_ok_weaker c.enter.result (λ is. ap (with_work c.lane.inside.state) is) (enters c).entered

failed : (c : After-lane-1) → OnErr c.enter.result (after c ≡ record c.lane.inside.state { failed = true })
failed c = on_err_weaker c.enter.result (λ is. ap (with_work c.lane.inside.state) is) (enters c).failed

pub invariant_of-lane : goal.invariant_of-lane
invariant_of-lane c = IsLane-passed c.enter.result c.args.entry c.lane.inside.state (after c) (entered c) (failed c) c.lane.invariant

stands : (c : After-lane-1) → OnOk c.enter.result ((inputs : List Input) → LaneStandsFor c.args.self.now c.args.lane.now inputs → LaneStandsFor c.args.self.now (after c) (inputs ++ skipped_input c.args.entry ∷ []))
stands c =
    subst (λ (l : LaneValue). OnOk c.enter.result ((inputs : List Input) → LaneStandsFor c.args.self.now l inputs → LaneStandsFor c.args.self.now (after c) (inputs ++ skipped_input c.args.entry ∷ []))) c.lane.view_is
    (LaneStandsFor-passed c.args.self.now c.enter.result c.args.entry c.lane.inside.state (after c) (entered c))

of_world : (c : After-lane-1) → IsLaneOf c.args.self.now c.args.lane.now → IsLaneOf c.args.self.now (after c)
of_world c = λ is.
    IsLaneOf-passed c.args.self.now c.enter.result c.args.entry c.lane.inside.state (after c) (entered c) (failed c) (subst (λ (l : LaneValue). IsLaneOf c.args.self.now l) (sym c.lane.view_is) is)

pub returns-clause-entered : goal.returns-clause-entered
returns-clause-entered c = record {
  lane = subst (λ (l : LaneValue). OnOk c.enter.result (after c ≡ with_docket_entry (entry_for c.args.entry) l)) c.lane.view_is (entered c);
  stands = stands c;
  working = rw c.lane.view_is at (enters c).working;
  failed = subst (λ (l : LaneValue). OnErr c.enter.result (after c ≡ record l { failed = true })) c.lane.view_is (failed c);
  of_world = of_world c;
}
