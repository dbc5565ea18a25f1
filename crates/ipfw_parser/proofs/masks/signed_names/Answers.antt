use Rattle.std.proofs.Common.{◌∙◌, ap}
use Rattle.std.proofs.lemmas.Result.{err_from_is_err_and}
use Rattle.ipfw_parser.specs.Reading.{◌>>=◌}
use Rattle.ipfw_parser.specs.Lists.{signs}
use Rattle.ipfw_parser.specs.SignViews.{signs_view}
use Rattle.ipfw_parser.proofs.Steps.Lists.{fails_on, smaller}
use Rattle.ipfw_parser.proofs.Steps.Masks.{left_signs, signs_go, signs_break, signs_end, tested, tested_ok, tested_fault}
use Rattle.ipfw_parser.proofs.masks.signed_names.Goals as goal

pub returns-in_err-place : goal.returns-in_err-place
unfolding signs
returns-in_err-place c =
    let p = err_from_is_err_and c.from_residual.result c.from_residual.ensures.1 in
    rw (p.1, p.2)
    (fails_on _ _ _
    (λ f failed. ap (λ r. r >>= tested c.args.word.column) (signs_break _ _ _ _ _ _ f (left_signs _ _ _ _ _ _ _ _ c.in-Some.is c.first_element.ensures.elements c.loop-rest.invariant) _ c.bare_name.ensures failed))
    c.in_err-place.ensures.value)

pub loop-rest-smaller : goal.loop-rest-smaller
loop-rest-smaller c = smaller c.loop-rest.rest c.first_element.result.1 c.in-Some.text c.in-Some.is c.first_element.ensures.shorter

pub loop-rest-preserved : goal.loop-rest-preserved
loop-rest-preserved c =
    signs_go _ _ _ _ _ _ _ _ (left_signs _ _ _ _ _ _ _ _ c.in-Some.is c.first_element.ensures.elements c.loop-rest.invariant) _ _ c.bare_name.ensures c.is_negated.ensures c.in_ok-place.ensures.value c.with_sign-found.ensures

pub returns-then-found-eq0 : goal.returns-then-found-eq0
unfolding signs
returns-then-found-eq0 c =
    ap (λ r. r >>= tested c.args.word.column) (signs_end _ _ _ _ _ c.in_default.is c.loop-rest.invariant) ∙ tested_ok c.args.word.column (signs_view c.loop-rest.found) c.if-found-eq0.true

pub returns-else-found-eq0 : goal.returns-else-found-eq0
unfolding signs
returns-else-found-eq0 c =
    rw c.fault.ensures (ap (λ r. r >>= tested c.args.word.column) (signs_end _ _ _ _ _ c.in_default.is c.loop-rest.invariant) ∙ tested_fault c.args.word.column (signs_view c.loop-rest.found) c.if-found-eq0.false)
