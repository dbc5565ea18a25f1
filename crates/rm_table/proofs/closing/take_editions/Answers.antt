use Rattle.std.proofs.Common.{false, Some, arith, sym, ap, ◌∙◌}
use Rattle.std.specs.Prelude.{slice_get, slice_index_or}
use Rattle.std.specs.Slots.{slots_items, slots_filled}
use Rattle.std.proofs.lemmas.List.{get_or-set_other}
use Rattle.rm_table.specs.declared.padded_slot.Slot.TheVariants.{Edition}
use Rattle.rm_table.proofs.Base.{taken_is, taken_at, cleared, pushed_items}
use Rattle.rm_table.proofs.closing.take_editions.Goals as goal

pub edition_in-requires : goal.edition_in-requires
edition_in-requires g c =
    let h = c.loop-place.invariant in
    let e = c.requires.editions c.loop-place.place h.0 (omega arith) in
    (e.0, taken_is _ _ _ _ _ h.4 c.take.ensures.value e.1)

pub loop-place-preserved : goal.loop-place-preserved
loop-place-preserved g c =
    let h = c.loop-place.invariant in
    let filled = slots_filled c.loop-place.closed.slots in
    let now = c.take.ensures.others in
    let p = c.push_reserved.ensures in
    let here = taken_at _ _ _ _ h.4 c.take.ensures.value ∙ ap (λ s. Some s) c.edition_in.ensures in (
      omega arith,
      omega arith,
      omega arith,
      omega arith,
      now.0 ∙ h.4,
      now.2 ∙ h.5,
      (λ k low high. ap (λ fs. slice_index_or fs k false) now.1 ∙ get_or-set_other filled c.loop-place.place k false false (λ same. omega arith) ∙ h.6 k (omega arith) high),
      (λ k low below. ap (λ fs. slice_index_or fs k false) now.1 ∙ cleared filled c.loop-place.place k (λ other. h.7 k low (grind (arith, other)))),
      ap (λ fs. slice_index_or fs 0 false) now.1 ∙ get_or-set_other filled c.loop-place.place 0 false false (λ same. omega arith) ∙ h.8,
      (λ j e is. pushed_items (λ x. Edition (Some x)) c.loop-place.editions.items (slots_items c.args.closed.now.slots) c.loop-place.place c.loop-place.editions.len c.edition_in.result c.loop-place.editions.ok.0 h.3 h.9 here j e (ap (λ ys. slice_get ys j) (sym p.items) ∙ is)),
    )
