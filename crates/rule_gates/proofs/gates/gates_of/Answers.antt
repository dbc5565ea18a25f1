use Rattle.std.proofs.Common.{◌≡◌, ◌+◌, [], ◌∷◌, ◌++◌, map, take, length, ◌<◌, arith}
use Rattle.std.proofs.lemmas.List.{take_more}
use Rattle.std.proofs.lemmas.Grind.{common_steps}
use Rattle.std.specs.Arc.{arc_value}
use Rattle.rule_gates.specs.Gates.{IsGateOf}
use Rattle.rule_gates.proofs.Gated.{gates-push}
use Rattle.rule_gates.proofs.gates.gates_of.Goals as goal

pub loop-rule-preserved : goal.loop-rule-preserved
loop-rule-preserved c =
    let rules = c.args.rules.now in
    let item = c.rule-item.result in
    let within : c.loop-rule.rule-index < length rules = omega arith in
    let more = take_more rules c.loop-rule.rule-index item within in
    let next : map arc_value (take (c.loop-rule.rule-index + 1) rules) ≡ map arc_value (take c.loop-rule.rule-index rules) ++ arc_value item ∷ [] = grind (arith, common_steps) in
    let is : IsGateOf (arc_value item) c.gate_of.result = rw (← c.deref.ensures) c.gate_of.ensures in
    rw (next, c.in_ok-push.ensures.items) (gates-push (map arc_value (take c.loop-rule.rule-index rules)) c.loop-rule.gates.items (arc_value item) c.gate_of.result c.loop-rule.invariant is)
