use Rattle.std.proofs.Common.{ℕ, ◌<◌, ◌≤◌, length, ap, ◌∙◌, sym, nat_eq, arith, Global}
use Rattle.std.specs.Arc.{arc_value}
use Rattle.std.specs.declared.sync.Arc.{Arc}
use Rattle.fw_rule.specs.declared.rule.Rule.{Rule}
use Rattle.rule_edits.proofs.Behind.{asked_before, hasnt_any}
use Rattle.rule_edits.proofs.Lists.{any_map}
use Rattle.rule_chain.proofs.Places.{ascend}
use Rattle.rule_edits.proofs.numbers.has_rule.Goals as goal

pub returns-then-place-eq0 : goal.returns-then-place-eq0
returns-then-place-eq0 c =
    sym (any_map _ arc_value c.args.rules.now ∙ hasnt_any (λ (x : Arc Rule Global). (arc_value x).number) c.args.rules.now c.args.number c.place_behind-place.result c.place_behind-place.ensures c.if-place-eq0.true)

pub returns-else-place-eq0 : goal.returns-else-place-eq0
returns-else-place-eq0 c =
    let up = λ (i j : ℕ) (d : Arc Rule Global) (le : i ≤ j) (within : j < length c.args.rules.now). ascend arc_value 1 c.args.rules.now i j d c.requires le within in
    let asked = asked_before (λ (x : Arc Rule Global). (arc_value x).number) c.args.rules.now c.args.number c.place_behind-place.result c.place_behind-place.ensures up c.index-rules-place.result (omega (arith, c.if-place-eq0.false)) in
    ap (λ (r : Rule). nat_eq r.number c.args.number) (c.deref.ensures ∙ ap arc_value c.index-rules-place.is) ∙ asked ∙ sym (any_map _ arc_value c.args.rules.now)
