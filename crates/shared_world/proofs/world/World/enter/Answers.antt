use Rattle.std.proofs.Common.{◌≡◌, ◌+◌, ◌%◌, ◌^◌, subst, sym, ap, ◌∙◌, false}
use Rattle.std.specs.Prelude.{is_some}
use Rattle.eval_engine.specs.Dockets.{DocketValue}
use Rattle.fw_world.specs.LaneSteps.{work_after_section}
use Rattle.fw_world.specs.declared.lane_work.LaneWork.{LaneWork}
use Rattle.generation_store.specs.Published.{Published, IsEdition}
use Rattle.shared_world.proofs.Sections.{entered, entered-kept, entered-reads, refused, inside_of}
use Rattle.shared_world.proofs.world.World.enter.Goals as goal
use Rattle.shared_world.proofs.world.World.enter.Goals.{After-law_of_edition, After-refuse}
use Rattle.shared_world.specs.Known.{Known}
use Rattle.shared_world.specs.LaneCalls.{EntersIn, IsRefused}
use Rattle.shared_world.specs.LaneKept.{IsSharedLane, ReadsSeen}
use Rattle.shared_world.specs.SharedLane.{SharedLane, lane_of}

counted : (c : After-law_of_edition) → c.loosen.new.self ≡ work_after_section (is_some c.lane.inside.processor.view.part.refusal) c.lane.inside.work
counted c = rw (c.deref_mut.ensures.value, c.is_refused.ensures) at c.loosen.ensures

pub invariant_of-result : goal.invariant_of-result
invariant_of-result c =
    let v = c.lane.inside.processor.view in
    let e = c.in-In.ensures.entry.1.0 in
    let view = c.in-In.ensures.entry.1.1 in
    let number = c.in-In.ensures.entry.1.2 in
    let kept = subst (λ (u : Known). IsSharedLane 1 u (work_after_section (is_some v.part.refusal) c.lane.inside.work)) (sym view) (entered-kept v c.lane.inside.work e c.lane.invariant) in
    let lawful = subst (λ (p : Published). IsEdition p) c.deref.ensures c.law_of_edition.ensures in
    let reads = entered-reads v e c.edition.result.now number (sym (ap (λ (u : Known). u.part.reading) view) ∙ c.edition.ensures) lawful c.in-In.ensures.entry.1.4 in (
      subst (λ (w : LaneWork). IsSharedLane 1 c.in-In.reading.view w) (sym (counted c)) kept,
      subst (λ (u : Known). ReadsSeen u) (sym view) reads,
      ap (λ (u : Known). u.place) view ∙ sym c.place-place.ensures,
    )

pub returns-in-In : goal.returns-in-In
returns-in-In c = record {
  entry =
      let t = c.in-In.ensures.entry.0 in
      subst (λ (l : SharedLane). EntersIn l (inside_of c.in-In.reading.table_id c.in-In.reading.view c.loosen.new.self false)) c.lane.view_is
      (entered c.lane.inside.processor.table_id c.in-In.reading.table_id c.lane.inside.processor.view c.in-In.reading.view c.lane.inside.work c.loosen.new.self c.in-In.ensures.entry.1.0 t
      c.in-In.ensures.entry.1.1 (counted c) c.in-In.ensures.entry.1.2 c.in-In.ensures.entry.1.3 c.in-In.ensures.entry.1.4);
}

pub returns-in-Revoked : goal.returns-in-Revoked
returns-in-Revoked c = record {
  entry =
      let v = c.lane.inside.processor.view in
      let counted : c.loosen.new.self ≡ work_after_section (is_some v.part.refusal) c.lane.inside.work = rw (c.deref_mut.ensures.value, c.is_refused.ensures) at c.loosen.ensures in
      let lent : LaneWork = c.deref_mut-in-Revoked.result.now in
      let w : LaneWork = record lent { docket = c.refuse.new.self } in
      let same = ap (λ (d : DocketValue). let x : LaneWork = record lent { docket = d } in x) c.refuse.ensures
      ∙ ap (λ (w : LaneWork). let x : LaneWork = record w { docket = record w.docket { refused = (w.docket.refused + 1) % 2 ^ 64 } } in x) (c.deref_mut-in-Revoked.ensures.value ∙ counted) in
      subst (λ (l : SharedLane). IsRefused l (lane_of c.in-Revoked.processor.table_id c.in-Revoked.processor.view w) c.in-Revoked.number) c.lane.view_is
      (refused c.lane.inside.processor.table_id c.in-Revoked.processor.table_id v c.in-Revoked.processor.view c.lane.inside.work w c.in-Revoked.number c.in-Revoked.ensures.entry.0
      c.in-Revoked.ensures.entry.1 same c.in-Revoked.ensures.entry.2);
}
