use Rattle.std.proofs.Common.{◌≡◌, ℕ, ◌<◌, ◌≤◌, get_or, sym, subst, inl, inr, arith}
use Rattle.std.proofs.lemmas.Bool.{cases_lt}
use Rattle.std.proofs.lemmas.List.{get_or_default}
use Rattle.run_audit.specs.Numbering.{number_of}
use Rattle.run_audit.specs.declared.numbered.Numbered.{Numbered}
use Rattle.run_audit.proofs.numbered.count_within.Goals as goal

abbrev no_number : Numbered
no_number = record { at = 0; place = 0 }

pub returns-then-at-one-clause-point : goal.returns-then-at-one-clause-point
returns-then-at-one-clause-point c = (
  λ k d from less. c.loop-count.invariant k d less,
  λ k d from less.
      let here = get_or_default c.args.ordered.now c.loop-count.count no_number d c.loop-count-test.true in
      let greater : c.args.at < number_of (get_or c.args.ordered.now c.loop-count.count d) = subst (λ (one : Numbered). c.args.at < one.at) here c.if-at-one.true in
      let rises = c.requires c.loop-count.count k d from less in
      omega (arith, greater, rises),
)

pub loop-count-preserved : goal.loop-count-preserved
loop-count-preserved c = λ k d less. elim (cases_lt k c.loop-count.count) [
  | inl below ↦ c.loop-count.invariant k d below
  | inr up ↦
      let same : k ≡ c.loop-count.count = omega (arith, less, up) in
      let here = get_or_default c.args.ordered.now c.loop-count.count no_number d c.loop-count-test.true in
      let low : number_of (get_or c.args.ordered.now c.loop-count.count d) ≤ c.args.at = subst (λ (one : Numbered). one.at ≤ c.args.at) here c.if-at-one.false in
      subst (λ (n : ℕ). number_of (get_or c.args.ordered.now n d) ≤ c.args.at) (sym same) low
]

pub returns-clause-point : goal.returns-clause-point
returns-clause-point c = ((λ k d from less. c.loop-count.invariant k d (omega (arith, less))), (λ k d from less. absurd (omega (arith, from, less))))
