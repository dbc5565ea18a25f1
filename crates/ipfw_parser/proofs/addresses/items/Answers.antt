use Rattle.std.proofs.lemmas.Result.{err_from_is_err_and}
use Rattle.ipfw_parser.specs.Addresses.{items}
use Rattle.ipfw_parser.proofs.Steps.Lists.{goes, breaks, ends, fails_on, opened_outside, smaller}
use Rattle.ipfw_parser.proofs.addresses.items.Goals as goal

pub returns-in_err-item : goal.returns-in_err-item
unfolding items
returns-in_err-item c =
    let p = err_from_is_err_and c.from_residual.result c.from_residual.ensures.1 in
    rw (p.1, p.2)
    (fails_on _ _ _ (λ f failed. breaks _ _ _ _ _ _ f (opened_outside _ _ _ _ _ _ _ _ c.in-Some.is c.first_address.ensures.elements c.loop-rest.invariant) failed) c.in_err-item.ensures)

pub loop-rest-smaller : goal.loop-rest-smaller
loop-rest-smaller c = smaller c.loop-rest.rest c.first_address.result.1 c.in-Some.text c.in-Some.is c.first_address.ensures.shorter

pub loop-rest-preserved : goal.loop-rest-preserved
loop-rest-preserved c =
    rw c.in_ok-push.ensures.items (goes _ _ _ _ _ _ _ (opened_outside _ _ _ _ _ _ _ _ c.in-Some.is c.first_address.ensures.elements c.loop-rest.invariant) c.in_ok-item.ensures)

pub returns : goal.returns
unfolding items
returns c = rw c.from_vec.ensures (ends _ _ _ _ (rw c.in_default.is at c.loop-rest.invariant))
