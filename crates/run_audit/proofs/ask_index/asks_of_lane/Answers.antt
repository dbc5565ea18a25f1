use Rattle.std.proofs.Common.{◌≡◌, ◌==◌, true, Some, None, sym, ap, ◌∙◌, inl, inr, eq-eqb}
use Rattle.std.proofs.lemmas.Bool.{cases_Bool, eqb-true}
use Rattle.std.proofs.lemmas.List.{append-nil}
use Rattle.run_audit.specs.Indexes.{is_of_lane}
use Rattle.run_audit.proofs.Steps.{own_step}
use Rattle.run_audit.proofs.ask_index.asks_of_lane.Goals as goal
use Rattle.run_audit.proofs.ask_index.asks_of_lane.Goals.{in-Some+then-stand-lane+in_ok-push, in-Some+else-stand-lane, in_default}

pub loop-one-preserved : goal.loop-one-preserved
loop-one-preserved c = elim c.match-stand_at.branch [
  | in-Some+then-stand-lane+in_ok-push w ↦
      let test : (w.in-Some.stand.lane == c.args.lane) ≡ true = eq-eqb _ _ w.if-stand-lane.true in
      own_step (is_of_lane c.args.lane) c.args.stands.now c.args.places.now c.loop-one.one-index _ c.loop-one.own.items c.match-stand_at.own.items (Some w.in-Some.stand) c.loop-one-test.true c.loop-one.invariant
      (sym w.in-Some.is ∙ c.stand_at.ensures) (rw test (ap (λ v. v.items) w.own-is ∙ w.in_ok-push.ensures.items))
  | in-Some+else-stand-lane w ↦ elim (cases_Bool (w.in-Some.stand.lane == c.args.lane)) [
    | inl same ↦ absurd (w.if-stand-lane.false (eqb-true _ _ same))
    | inr other ↦
        own_step (is_of_lane c.args.lane) c.args.stands.now c.args.places.now c.loop-one.one-index _ c.loop-one.own.items c.match-stand_at.own.items (Some w.in-Some.stand) c.loop-one-test.true c.loop-one.invariant
        (sym w.in-Some.is ∙ c.stand_at.ensures) (rw other (ap (λ v. v.items) w.own-is ∙ sym (append-nil _)))
  ]
  | in_default w ↦
      own_step (is_of_lane c.args.lane) c.args.stands.now c.args.places.now c.loop-one.one-index _ c.loop-one.own.items c.match-stand_at.own.items None c.loop-one-test.true c.loop-one.invariant
      (sym w.in_default.is ∙ c.stand_at.ensures) (ap (λ v. v.items) w.own-is ∙ sym (append-nil _))
]
