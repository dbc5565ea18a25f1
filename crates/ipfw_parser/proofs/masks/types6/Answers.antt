use Rattle.std.proofs.lemmas.Result.{err_from_is_err_and}
use Rattle.ipfw_parser.specs.Lists.{types6}
use Rattle.ipfw_parser.proofs.Steps.Lists.{fails_on, smaller}
use Rattle.ipfw_parser.proofs.Steps.Masks.{left_set, set_go, set_break, set_end}
use Rattle.ipfw_parser.proofs.masks.types6.Goals as goal

pub returns-in_err-number : goal.returns-in_err-number
unfolding types6
returns-in_err-number c =
    let p = err_from_is_err_and c.from_residual.result c.from_residual.ensures.1 in
    rw (p.1, p.2)
    (fails_on _ _ _ (λ f failed. set_break _ _ _ _ _ f (left_set _ _ _ _ _ _ _ c.in-Some.is c.first_element.ensures.elements c.loop-rest.invariant) failed) c.in_err-number.ensures.value)

pub loop-rest-smaller : goal.loop-rest-smaller
loop-rest-smaller c = smaller c.loop-rest.rest c.first_element.result.1 c.in-Some.text c.in-Some.is c.first_element.ensures.shorter

pub loop-rest-preserved : goal.loop-rest-preserved
loop-rest-preserved c = set_go _ _ _ _ _ _ _ (left_set _ _ _ _ _ _ _ c.in-Some.is c.first_element.ensures.elements c.loop-rest.invariant) c.in_ok-number.ensures.value c.with-set.ensures.value

pub returns : goal.returns
unfolding types6
returns c = set_end _ _ _ _ c.in_default.is c.loop-rest.invariant
