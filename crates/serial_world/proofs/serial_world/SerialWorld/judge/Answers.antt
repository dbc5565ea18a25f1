use Rattle.std.proofs.Common.{◌≡◌, ◌≤◌, ◌<◌, ◌^◌, ℕ, Bool, None, ◌∙◌, sym, ap, subst, arith}
use Rattle.fw_world.specs.Caches.{IsPortFor}
use Rattle.fw_world.specs.Lane.{LaneValue}
use Rattle.serial_world.specs.SerialLane.{IsInside, lane_after_admission, lane_after_leave}
use Rattle.fw_world.specs.LaneKept.{IsLane, pending_of}
use Rattle.fw_world.specs.World.{WorldValue, published_count, IsLaneOf}
use Rattle.serial_world.proofs.LaneSteps.{IsLane-admitted, IsLane-left}
use Rattle.serial_world.specs.Steps.{JudgesNext}
use Rattle.serial_world.proofs.LanesOf.{IsLaneOf-admitted, refusal-next}
use Rattle.serial_world.proofs.serial_world.SerialWorld.judge.Goals as goal

-- it was let in
let_in : (world : WorldValue) (published : ℕ) (state before admitted : LaneValue) → admitted ≡ lane_after_admission published state → published ≡ published_count world → state ≡ before
    → admitted ≡ lane_after_admission (published_count world) before
let_in world published state before admitted is count same =
    is ∙ ap (λ (n : ℕ). lane_after_admission n state) count ∙ ap (λ (l : LaneValue). lane_after_admission (published_count world) l) same

pub judge_record-outcome-requires-clause-of_world : goal.judge_record-outcome-requires-clause-of_world
judge_record-outcome-requires-clause-of_world c =
    subst (λ (l : LaneValue). IsLaneOf c.args.self.now l) (sym (let_in c.args.self.now c.published-published.result c.lane.inside.state c.args.lane.now c.admit.new.self c.admit.ensures c.published-published.ensures c.lane.view_is)) (IsLaneOf-admitted c.args.self.now c.args.lane.now c.requires.of_world)

pub judge_record-outcome-requires-clause-port : goal.judge_record-outcome-requires-clause-port
judge_record-outcome-requires-clause-port c = subst (λ (l : LaneValue). IsPortFor l.cache c.args.port.now) (sym (let_in c.args.self.now c.published-published.result c.lane.inside.state c.args.lane.now c.admit.new.self c.admit.ensures c.published-published.ensures c.lane.view_is)) c.requires.port

pub invariant_of-lane : goal.invariant_of-lane
invariant_of-lane c =
    let world = c.args.self.now in
    let state = c.lane.inside.state in
    let free : state.refusal ≡ None = ap (λ (l : LaneValue). l.refusal) c.lane.view_is ∙ c.requires.heeded in
    let of_world : IsLaneOf world state = subst (λ (l : LaneValue). IsLaneOf world l) (sym c.lane.view_is) c.requires.of_world in
    let first : 1 ≤ published_count world = omega (arith, of_world.held, c.lane.invariant.numbered) in
    let fits : published_count world < 2 ^ 64 = omega (arith, c.published-published.ensures, c.published-published.type_inv) in
    let admitted : c.admit.new.self ≡ lane_after_admission (published_count world) state = c.admit.ensures ∙ ap (λ (n : ℕ). lane_after_admission n state) c.published-published.ensures in
    let lane_is : IsLane 1 c.admit.new.self = subst (λ (l : LaneValue). IsLane 1 l) (sym admitted) (IsLane-admitted (published_count world) state c.lane.invariant free first of_world.held fits) in
    let kept = c.judge_record-outcome.ensures.kept lane_is in
    let inside : IsInside (record { lane = c.judge_record-outcome.new.lane; judged = c.is_ok.result }) =
    subst (λ (b : Bool). IsLane (pending_of b) c.judge_record-outcome.new.lane) (sym c.is_ok.ensures.value) kept in
    subst (λ (l : LaneValue). IsLane 0 l) (sym c.leave.ensures) (IsLane-left (record { lane = c.judge_record-outcome.new.lane; judged = c.is_ok.result }) inside)

pub returns-clause-next : goal.returns-clause-next
returns-clause-next c =
    let world = c.args.self.now in (
      c.judge_record-outcome.new.lane,
      subst (λ (l : LaneValue). JudgesNext world c.judge_record-outcome.new.self l c.judge_record-outcome.new.lane c.args.packet.now c.args.port.now c.args.second c.judge_record-outcome.result) (let_in c.args.self.now c.published-published.result c.lane.inside.state c.args.lane.now c.admit.new.self c.admit.ensures c.published-published.ensures c.lane.view_is) c.judge_record-outcome.ensures.next,
      c.leave.ensures ∙ ap (λ (b : Bool). lane_after_leave (record { lane = c.judge_record-outcome.new.lane; judged = b })) c.is_ok.ensures.value,
    )

pub returns-clause-heeded : goal.returns-clause-heeded
returns-clause-heeded c =
    let next = returns-clause-next c in
    ap (λ (l : LaneValue). l.refusal) next.2 ∙ refusal-next _ _ _ _ _ _ _ _ next.1
