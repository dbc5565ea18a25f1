use Rattle.std.proofs.Common.{arith}
use Rattle.std.proofs.lemmas.Grind.{common_steps}
use Rattle.rule_gates.proofs.Joined.{one_more}
use Rattle.rule_gates.proofs.hull_making.hulls_of.Goals as goal

pub loop-start-preserved : goal.loop-start-preserved
loop-start-preserved c =
    one_more c.args.gates.now c.loop-start.hulls.items c.push.new.self.items c.loop-start.start c.min-end.result c.hull_of.result c.in_ok-push.ensures.items c.loop-start.invariant.0
    (λ place low within. let end = c.min-end.ensures in grind (arith, common_steps)) c.hull_of.ensures c.loop-start.invariant.1
