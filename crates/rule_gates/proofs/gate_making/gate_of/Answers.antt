use Rattle.std.proofs.Common.{sym, ◌∙◌}
use Rattle.rule_gates.proofs.Gated.{gate_of_body, open_gate, open_gate_of_none}
use Rattle.rule_gates.proofs.gate_making.gate_of.Goals as goal

pub returns-then-looks_up : goal.returns-then-looks_up
returns-then-looks_up c = open_gate c.args.rule.now c.open.result (sym c.looks_up.ensures ∙ c.if-looks_up.true) c.open.ensures.opens c.open.ensures.partial

pub returns-in-Some : goal.returns-in-Some
returns-in-Some c =
    gate_of_body c.args.rule.now c.in-Some.body c.body_gate.result c.in-Some.is (sym c.looks_up.ensures ∙ c.if-looks_up.false) c.body_gate.ensures.covers c.body_gate.ensures.tells c.body_gate.ensures.exact c.body_gate.ensures.told

pub returns-in-None : goal.returns-in-None
returns-in-None c = open_gate_of_none c.args.rule.now c.open-in-None.result c.in-None.is c.open-in-None.ensures.opens c.open-in-None.ensures.partial
