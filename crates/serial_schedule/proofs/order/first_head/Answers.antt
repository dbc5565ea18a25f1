use Rattle.std.proofs.Common.{◌≡◌, ℕ, ◌+◌, ◌-◌, ◌<◌, ◌≤◌, List, ◌∷◌, Option, None, sym, ap, ◌∙◌, arith, length, get_or, drop}
use Rattle.std.proofs.Math.Seq.{drop-length}
use Rattle.std.proofs.lemmas.List.{drop_more}
use Rattle.serial_schedule.specs.Order.{first_head, earlier_head, head_at}
use Rattle.serial_schedule.specs.declared.head.Head.{Head}
use Rattle.serial_schedule.specs.declared.moment.Moment.{Moment}
use Rattle.serial_schedule.proofs.order.first_head.Goals as goal

none_left : (capture : ℕ) (moments : List (Option Moment)) → first_head capture (drop (length moments) moments) ≡ None
unfolding first_head
none_left capture moments = ap (first_head capture) (drop-length moments)

one_more : (moments : List (Option Moment)) (capture : ℕ) (first : Option Head) → 0 < capture → capture ≤ length moments → first ≡ first_head capture (drop capture moments)
    → earlier_head (head_at (capture - 1) (get_or moments (capture - 1) None)) first ≡ first_head (capture - 1) (drop (capture - 1) moments)
unfolding first_head
one_more moments capture first some within is =
    let k : ℕ = capture - 1 in
    let next : capture ≡ k + 1 = omega arith in
    let whole : drop k moments ≡ get_or moments k None ∷ drop (k + 1) moments = drop_more moments k None (omega arith) in
    let rest : first ≡ first_head (k + 1) (drop (k + 1) moments) = is ∙ ap (λ (n : ℕ). first_head n (drop n moments)) next in
    ap (earlier_head (head_at k (get_or moments k None))) rest ∙ sym (ap (first_head k) whole)

pub loop-capture-init : goal.loop-capture-init
loop-capture-init c = record { within = omega arith; first = sym (none_left (length c.args.moments.now) c.args.moments.now) }

pub loop-capture-preserved : goal.loop-capture-preserved
loop-capture-preserved c = record {
  within = omega (arith, c.loop-capture.invariant.within);
  first = c.earlier-first.ensures ∙ ap (λ h. earlier_head h c.loop-capture.first) c.head_at.ensures ∙ one_more c.args.moments.now c.loop-capture.capture c.loop-capture.first c.loop-capture-test.true c.loop-capture.invariant.within c.loop-capture.invariant.first;
}
