use Rattle.std.proofs.Common.{ap}
use Rattle.std.specs.Prelude.{bit_or}
use Rattle.std.proofs.lemmas.Result.{err_from_is_err_and}
use Rattle.ipfw_parser.specs.Lists.{types}
use Rattle.ipfw_parser.proofs.Steps.Lists.{fails_on, smaller}
use Rattle.ipfw_parser.proofs.Steps.Masks.{left_types, types_go, types_break, types_end, bit_fits}
use Rattle.ipfw_parser.proofs.masks.types.Goals as goal

pub returns-in_err-kind : goal.returns-in_err-kind
unfolding types
returns-in_err-kind c =
    let p = err_from_is_err_and c.from_residual.result c.from_residual.ensures.1 in
    rw (p.1, p.2)
    (fails_on _ _ _ (λ f failed. types_break _ _ _ _ _ f (left_types _ _ _ _ _ _ _ c.in-Some.is c.first_element.ensures.elements c.loop-rest.invariant) failed) c.in_err-kind.ensures.value)

pub loop-rest-smaller : goal.loop-rest-smaller
loop-rest-smaller c = smaller c.loop-rest.rest c.first_element.result.1 c.in-Some.text c.in-Some.is c.first_element.ensures.shorter

pub loop-rest-preserved : goal.loop-rest-preserved
loop-rest-preserved c = types_go _ _ _ _ _ _ _ (left_types _ _ _ _ _ _ _ c.in-Some.is c.first_element.ensures.elements c.loop-rest.invariant) c.in_ok-kind.ensures.value (ap (bit_or c.loop-rest.mask) (bit_fits _ c.in_ok-kind.ensures.within))

pub returns : goal.returns
unfolding types
returns c = types_end _ _ _ _ c.in_default.is c.loop-rest.invariant
