use Rattle.std.proofs.Common.{arith, map}
use Rattle.std.proofs.lemmas.Grind.{common_steps}
use Rattle.std.specs.Arc.{arc_value}
use Rattle.rule_chain.specs.LastRule.{last_rule}
use Rattle.generation_store.proofs.Whole.{jump_more, no_jump}
use Rattle.generation_store.proofs.jumps.jumps_of.Goals as goal

pub loop-place-preserved : goal.loop-place-preserved
loop-place-preserved c =
    let more = jump_more (map arc_value c.args.rules.now) c.loop-place.place (last_rule 0) (grind (arith, common_steps)) in
    let next = c.jump_of.ensures (last_rule 0) in
    grind (arith, common_steps)

pub returns : goal.returns
returns c = grind (arith, common_steps, no_jump)
