use Rattle.std.proofs.Common.{List, subst, arith}
use Rattle.rule_gates.specs.Hulls.{AreShut}
use Rattle.rule_gates.specs.declared.gate.Gate.{Gate}
use Rattle.rule_gates.proofs.Hulled.{shut_whole}
use Rattle.rule_gates.proofs.search.next_covered.Goals as goal

pub returns-clause-shut : goal.returns-clause-shut
returns-clause-shut c =
    let fewer = c.covered-covered.ensures.fewer in
    let most = c.loop-place.invariant.1 in
    shut_whole c.args.key.now c.args.gates.now c.args.from c.loop-place.place (omega (arith, fewer, most))
    (subst (λ (gates : List Gate). AreShut c.args.key.now gates c.args.from c.loop-place.place) c.covered-covered.ensures.are c.loop-place.invariant.3)
