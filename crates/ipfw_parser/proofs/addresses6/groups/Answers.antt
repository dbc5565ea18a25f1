use Rattle.std.proofs.Common.{◌<◌, arith}
use Rattle.ipfw_parser.proofs.Steps.Lists.{smaller}
use Rattle.ipfw_parser.proofs.Steps.Sides.{opened, closed, many, breaks, goes}
use Rattle.ipfw_parser.proofs.addresses6.groups.Goals as goal

pub returns-then-found-eq-GROUPS-clause-value : goal.returns-then-found-eq-GROUPS-clause-value
returns-then-found-eq-GROUPS-clause-value c = many _ _ _ _ _ (opened _ _ _ _ _ _ _ c.in-Some.is c.first_group.ensures.groups c.loop-rest.invariant) c.if-found-eq-GROUPS.true

pub returns-in_default-group-clause-value : goal.returns-in_default-group-clause-value
returns-in_default-group-clause-value c = breaks _ _ _ _ _ (opened _ _ _ _ _ _ _ c.in-Some.is c.first_group.ensures.groups c.loop-rest.invariant) c.in_default-group.ensures

pub loop-rest-smaller : goal.loop-rest-smaller
loop-rest-smaller c = smaller c.loop-rest.rest c.first_group.result.1 c.in-Some.text c.in-Some.is c.first_group.ensures.shorter

pub loop-rest-preserved : goal.loop-rest-preserved
loop-rest-preserved c =
    let few : c.loop-rest.found.count < 8 = omega (arith, c.loop-rest.invariant.few, c.if-found-eq-GROUPS.false) in
    goes _ _ _ _ _ _ _ _ (opened _ _ _ _ _ _ _ c.in-Some.is c.first_group.ensures.groups c.loop-rest.invariant) c.in-Some-group.ensures few
    c.with_group-found.ensures.value c.with_group-found.ensures.count c.with_group-found.ensures.room

pub returns-clause-value : goal.returns-clause-value
returns-clause-value c = closed _ c.loop-rest.found _ c.in_default.is c.loop-rest.invariant
