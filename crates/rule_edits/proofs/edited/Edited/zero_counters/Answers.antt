use Rattle.std.proofs.Common.{◌≡◌, ◌+◌, None, true, nat_le, refl, sym, ◌∙◌, arith}
use Rattle.std.proofs.lemmas.Bool.Decides.{nat_tests}
use Rattle.rule_edits.specs.Answers.{first_fault}
use Rattle.rule_edits.specs.Apply.{zero_counters, zeroing_fault}
use Rattle.rule_edits.specs.Rules as lists
use Rattle.rule_edits.proofs.Kept.{zero_kept}
use Rattle.rule_edits.proofs.Lists.{length-filter_le}
use Rattle.rule_edits.proofs.edited.Edited.zero_counters.Goals as goal

pub overflow_cast-count : goal.overflow_cast-count
overflow_cast-count c =
    let is = rw c.rules-2.ensures at c.count_zeroed-count.ensures in
    let few = length-filter_le (lists.is_zeroed c.in_ok-named.named) c.self.inside.rules in
    let held = c.self.invariant.held in
    omega arith

pub invariant_of-self : goal.invariant_of-self
invariant_of-self c =
    let is = rw c.rules-2.ensures at c.count_zeroed-count.ensures in
    let room = c.if-count-self.false in
    rw (c.in_ok-self-inside.ensures, is) (zero_kept _ (lists.is_zeroed c.in_ok-named.named) (omega arith) c.self.invariant)

pub returns : goal.returns
unfolding zero_counters
returns c =
    let none : first_fault (zeroing_fault c.self.inside.rules) c.args.numbers.now ≡ None = sym (rw c.rules.ensures at c.zeroing_fault.ensures) ∙ c.in_default.is in
    let is = rw (c.rules-2.ensures, c.in_ok-named.ensures) at c.count_zeroed-count.ensures in
    let room = c.if-count-self.false in
    let few : nat_le (c.self.inside.greatest_counter + 1 + c.count_zeroed-count.result) 16777216 ≡ true = grind (arith, nat_tests) in
    let after = rw c.in_ok-named.ensures at c.in_ok-self-inside.ensures in
    rw (← c.self.view_is) (rw (none, ← is, few, after) refl)
