use Rattle.std.proofs.Common.{Some, None, sym, ap, ◌∙◌, arith}
use Rattle.std.proofs.lemmas.Grind.{common_steps}
use Rattle.std.proofs.lemmas.List.{append-nil}
use Rattle.run_audit.proofs.Steps.{stands_step, stands_none}
use Rattle.run_audit.proofs.ask_stands.stands_with.Goals as goal
use Rattle.run_audit.proofs.ask_stands.stands_with.Goals.{in-Some+in_ok-push, in_default}

pub loop-place-preserved : goal.loop-place-preserved
loop-place-preserved c = elim c.match-take.branch [
  | in-Some+in_ok-push w ↦
      stands_step c.loop-place.sweep c.take.new.self c.args.entries.now c.loop-place.place _ c.loop-place.stands.items c.match-take.stands.items _ (Some w.in-Some.stand) c.loop-place-test.true c.loop-place.invariant
      (sym w.in-Some.is ∙ c.take.ensures.stand) c.take.ensures.swept (ap (λ v. v.items) w.stands-is ∙ w.in_ok-push.ensures.items)
  | in_default w ↦
      stands_step c.loop-place.sweep c.take.new.self c.args.entries.now c.loop-place.place _ c.loop-place.stands.items c.match-take.stands.items _ None c.loop-place-test.true c.loop-place.invariant
      (sym w.in_default.is ∙ c.take.ensures.stand) c.take.ensures.swept (ap (λ v. v.items) w.stands-is ∙ sym (append-nil _))
]

pub returns : goal.returns
returns c =
    let none = stands_none c.loop-place.sweep c.args.entries.now c.loop-place.place (omega arith) in
    grind (arith, common_steps)
