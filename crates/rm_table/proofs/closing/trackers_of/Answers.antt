use Rattle.std.proofs.Common.{◌≡◌, ℕ, arith, sym, ap, ◌∙◌}
use Rattle.std.specs.Prelude.{slice_index}
use Rattle.std.specs.Slots.{slots_items}
use Rattle.rm_table.specs.Layout.{tracker_index}
use Rattle.rm_table.proofs.Base.{pushed_values, values_found, index_from}
use Rattle.rm_table.proofs.closing.trackers_of.Goals as goal

pub loop-place-preserved : goal.loop-place-preserved
loop-place-preserved g c =
    let h = c.loop-place.invariant in
    let p = c.push_reserved.ensures in
    let f : ℕ → ℕ = λ k. slice_index (slots_items c.args.closed.now.words) (tracker_index k) in
    let x : c.word.result ≡ f c.loop-place.place = sym (index_from (slots_items c.args.closed.now.words) c.tracker_at.result c.word.result 0 c.word.ensures) ∙ ap (λ i. slice_index (slots_items c.args.closed.now.words) i) c.tracker_at.ensures in (
      omega arith,
      omega arith,
      omega arith,
      omega arith,
      p.items ∙ pushed_values f c.loop-place.trackers.items c.loop-place.place c.word.result h.0 h.4 x,
    )

pub returns-clause-each : goal.returns-clause-each
returns-clause-each g c = λ j inside. values_found (λ k. slice_index (slots_items c.args.closed.now.words) (tracker_index k)) _ _ j c.loop-place.invariant.4 (omega arith)
