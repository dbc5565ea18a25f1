use Rattle.std.proofs.Common.{subst, sym, ap}
use Rattle.generation_store.specs.declared.jumps.Jump.{Jump}
use Rattle.eval_engine.specs.Place.{IsRuleAt}
use Rattle.eval_engine.specs.Question.{Question}
use Rattle.eval_engine.proofs.Configured.{jumps_within, jump_there, rule_read}
use Rattle.eval_engine.proofs.encounter.target.Goals as goal

pub bounds-jumps-place : goal.bounds-jumps-place
bounds-jumps-place c =
    let there = subst (λ (q : Question). IsRuleAt q c.args.place c.args.rule.now) (sym c.question.view_is) c.requires in
    rw c.jumps.ensures (jumps_within c.question.inside.edition.now.config.rules c.args.place there.within)

pub returns : goal.returns
returns c =
    let rules = c.question.inside.edition.now.config.rules in
    let there = subst (λ (q : Question). IsRuleAt q c.args.place c.args.rule.now) (sym c.question.view_is) c.requires in
    let read = rule_read rules c.args.place c.args.rule.now _ there.there in
    rw (← c.question.view_is, c.jumps.ensures) (ap (λ (j : Jump). j.target) (jump_there rules c.args.place c.args.rule.now (record { target = 0; after = 0 }) there.within read))
