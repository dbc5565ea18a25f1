use Rattle.std.proofs.Common.{arith}
use Rattle.std.proofs.lemmas.Grind.{common_steps}
use Rattle.std.specs.Arc.{arc_value}
use Rattle.generation_store.proofs.Whole.{place_more, no_place}
use Rattle.generation_store.proofs.placed.in_rule_order.Goals as goal

pub loop-rule-preserved : goal.loop-rule-preserved
loop-rule-preserved c =
    let more = place_more arc_value c.args.rules.now c.loop-rule.rule-index c.rule-item.result (omega arith) in
    grind (arith, common_steps)

pub returns : goal.returns
returns c = grind (arith, common_steps, no_place)
