use Rattle.std.proofs.Common.{ap, sym, ◌∙◌, nat_eq, codes}
use Rattle.std.specs.List.{starts_with}
use Rattle.std.proofs.lemmas.List.{take_rest}
use Rattle.ipfw_parser.proofs.Steps.Gaps.{found, goes, ends}
use Rattle.ipfw_parser.proofs.addresses6.gap_place.Goals as goal

pub returns-then-starts_gap-clause-place : goal.returns-then-starts_gap-clause-place
returns-then-starts_gap-clause-place c =
    found c.args.text.now c.loop-at.at c.loop-at-test.true
    (sym (ap (λ t. starts_with nat_eq t (codes "::")) (take_rest c.args.text.now c.loop-at.at)) ∙ sym c.starts_gap.ensures.value ∙ c.if-starts_gap.true) c.loop-at.invariant

pub loop-at-preserved : goal.loop-at-preserved
loop-at-preserved c =
    goes c.args.text.now c.loop-at.at c.loop-at-test.true
    (sym (ap (λ t. starts_with nat_eq t (codes "::")) (take_rest c.args.text.now c.loop-at.at)) ∙ sym c.starts_gap.ensures.value ∙ c.if-starts_gap.false) c.loop-at.invariant

pub returns-clause-place : goal.returns-clause-place
returns-clause-place c = ends c.args.text.now c.loop-at.at c.loop-at-test.false c.loop-at.invariant
