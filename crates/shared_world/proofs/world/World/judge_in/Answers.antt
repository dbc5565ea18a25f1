use Rattle.std.proofs.Common.{◌≡◌, Bool, false, ◌∙◌, sym, ap, subst}
use Rattle.eval_engine.specs.Question.{question_under}
use Rattle.fw_world.specs.Caches.{IsPortFor, IsTrueFor}
use Rattle.fw_world.specs.LaneKept.{pending_of}
use Rattle.fw_world.specs.LaneSteps.{LaneJudges}
use Rattle.shared_world.proofs.Judged.{Enters, Misses, is_true, next, kept, reads_still, place_still, lock_still}
use Rattle.shared_world.proofs.Sections.{inside_of}
use Rattle.shared_world.proofs.world.World.judge_in.Given.{Over}
use Rattle.shared_world.proofs.world.World.judge_in.Goals as goal
use Rattle.shared_world.proofs.world.World.judge_in.Goals.{After-is_ok}
use Rattle.shared_world.specs.Judging.{JudgesNext}
use Rattle.shared_world.specs.Known.{Known}
use Rattle.shared_world.specs.LaneKept.{IsSharedLane}
use Rattle.shared_world.specs.SharedLane.{SharedInside}
use Rattle.shared_world.specs.Visits.{AskingValue, edition_of}

begun : (g : Over) (c : After-is_ok g) → c.new-asking.result.view ≡ c.inside.inside.reading.view
begun g c = ap (λ (a : AskingValue). a.view) c.new-asking.ensures

-- what judging its next record did to the lane's work
judges : (g : Over) (c : After-is_ok g)
    → LaneJudges (λ old lane at. Enters at old) Misses c.new-asking.result c.judge-outcome.new.book c.inside.inside.place (question_under (edition_of c.inside.inside.reading.view) c.args.packet.now c.args.port.now c.args.second) c.inside.inside.work c.judge-outcome.new.self c.judge-outcome.result
judges g c =
    subst (λ (v : Known). LaneJudges (λ old lane at. Enters at old) Misses c.new-asking.result c.judge-outcome.new.book c.inside.inside.place (question_under (edition_of v) c.args.packet.now c.args.port.now c.args.second) c.inside.inside.work c.judge-outcome.new.self c.judge-outcome.result) (begun g c)
    (rw c.deref_mut.ensures.value at c.judge-outcome.ensures)

at_port : (g : Over) (c : After-is_ok g) → IsPortFor c.inside.inside.work.cache c.args.port.now
at_port g c = subst (λ (i : SharedInside). IsPortFor i.lane.cache c.args.port.now) (sym c.inside.view_is) c.requires.port

before_is : (g : Over) (c : After-is_ok g) → IsSharedLane 1 c.inside.inside.reading.view c.inside.inside.work
before_is g c =
    let fresh : c.inside.inside.judged ≡ false = ap (λ (i : SharedInside). i.judged) c.inside.view_is ∙ c.requires.fresh in
    subst (λ (b : Bool). IsSharedLane (pending_of b) c.inside.inside.reading.view c.inside.inside.work) fresh c.inside.invariant.0

pub judge-outcome-requires-clause-kept : goal.judge-outcome-requires-clause-kept
judge-outcome-requires-clause-kept g c =
    let begun = ap (λ (a : AskingValue). a.view) c.new-asking.ensures in
    rw c.deref_mut.ensures.value (subst (λ (x : Known). IsTrueFor (edition_of x) c.inside.inside.work.cache) (sym begun) (is_true c.inside.inside.reading.view c.inside.inside.work c.inside.invariant.1 c.inside.invariant.0.cached))

pub judge-outcome-requires-clause-port : goal.judge-outcome-requires-clause-port
judge-outcome-requires-clause-port g c = rw c.deref_mut.ensures.value (subst (λ (i : SharedInside). IsPortFor i.lane.cache c.args.port.now) (sym c.inside.view_is) c.requires.port)

table : (g : Over) (c : After-is_ok g) → c.into_reading.result.table_id ≡ c.inside.inside.reading.table_id
table g c =
    c.into_reading.ensures.lock
    ∙ lock_still c.inside.inside.reading.table_id c.inside.inside.reading.view c.inside.inside.work c.inside.invariant.1 c.args.packet.now c.args.port.now c.args.second c.new-asking.result c.judge-outcome.new.book
    c.into_reading.result.table_id c.into_reading.result.view c.judge-outcome.new.self (begun g c) c.into_reading.ensures.view c.inside.inside.place c.judge-outcome.result (judges g c) (at_port g c)
    ∙ ap (λ (a : AskingValue). a.lock) c.new-asking.ensures ∙ c.self.view_is ∙ sym c.requires.lane ∙ sym (ap (λ (i : SharedInside). i.lane.world) c.inside.view_is)

pub invariant_of-inside : goal.invariant_of-inside
invariant_of-inside g c =
    let fresh : c.inside.inside.judged ≡ false = ap (λ (i : SharedInside). i.judged) c.inside.view_is ∙ c.requires.fresh in
    let before : IsSharedLane 1 c.inside.inside.reading.view c.inside.inside.work = subst (λ (b : Bool). IsSharedLane (pending_of b) c.inside.inside.reading.view c.inside.inside.work) fresh c.inside.invariant.0 in
    let after = kept c.inside.inside.reading.table_id c.inside.inside.reading.view c.inside.inside.work c.inside.invariant.1 c.args.packet.now c.args.port.now c.args.second c.new-asking.result c.judge-outcome.new.book
    c.into_reading.result.table_id c.into_reading.result.view c.judge-outcome.new.self (begun g c) c.into_reading.ensures.view c.inside.inside.place c.judge-outcome.result (judges g c) (at_port g c) before in (
      subst (λ (b : Bool). IsSharedLane (pending_of b) c.into_reading.result.view c.judge-outcome.new.self) (sym c.is_ok.ensures.value) after,
      reads_still c.inside.inside.reading.table_id c.inside.inside.reading.view c.inside.inside.work c.inside.invariant.1 c.args.packet.now c.args.port.now c.args.second c.new-asking.result c.judge-outcome.new.book
          c.into_reading.result.table_id c.into_reading.result.view c.judge-outcome.new.self (begun g c) c.into_reading.ensures.view c.inside.inside.place c.judge-outcome.result (judges g c) (at_port g c),
      place_still c.inside.inside.reading.table_id c.inside.inside.reading.view c.inside.inside.work c.inside.invariant.1 c.args.packet.now c.args.port.now c.args.second c.new-asking.result c.judge-outcome.new.book
          c.into_reading.result.table_id c.into_reading.result.view c.judge-outcome.new.self (begun g c) c.into_reading.ensures.view c.inside.inside.place c.judge-outcome.result (judges g c) (at_port g c)
          ∙ c.inside.invariant.2,
    )

pub returns-clause-next : goal.returns-clause-next
returns-clause-next g c =
    let judged = next c.inside.inside.reading.table_id c.inside.inside.reading.view c.inside.inside.work c.inside.invariant.1 c.args.packet.now c.args.port.now c.args.second c.new-asking.result c.judge-outcome.new.book
    c.into_reading.result.table_id c.into_reading.result.view c.judge-outcome.new.self (begun g c) c.into_reading.ensures.view c.inside.inside.place c.judge-outcome.result (judges g c) (at_port g c)
    c.inside.inside.judged (before_is g c) (table g c) in
    subst (λ (i : SharedInside). JudgesNext i (inside_of c.into_reading.result.table_id c.into_reading.result.view c.judge-outcome.new.self c.is_ok.result) c.args.packet.now c.args.port.now c.args.second c.judge-outcome.result) c.inside.view_is
    (subst (λ (b : Bool). JudgesNext (inside_of c.inside.inside.reading.table_id c.inside.inside.reading.view c.inside.inside.work c.inside.inside.judged) (inside_of c.into_reading.result.table_id c.into_reading.result.view c.judge-outcome.new.self b) c.args.packet.now c.args.port.now c.args.second c.judge-outcome.result) (sym c.is_ok.ensures.value) judged)

pub returns-clause-world : goal.returns-clause-world
returns-clause-world g c = table g c ∙ ap (λ (i : SharedInside). i.lane.world) c.inside.view_is
