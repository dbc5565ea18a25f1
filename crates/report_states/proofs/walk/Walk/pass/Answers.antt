use Rattle.std.proofs.Common.{◌≡◌, ◌≤◌, ◌<◌, ℕ, List, sym, ap, subst, ◌∙◌, arith, length}
use Rattle.std.specs.Prelude.{filter, max}
use Rattle.std.specs.List.{AllByRecursion}
use Rattle.dyn_states.specs.StateObject.{StateObject}
use Rattle.report_states.specs.LiveCounts.{after_entry, is_before, most_living, most_states, objects_along}
use Rattle.report_states.specs.Walks.{objects_left}
use Rattle.report_states.proofs.Clocks.{all_there, along_next, none_left}
use Rattle.report_states.proofs.Passing.{none_before, one_before, passed_over}
use Rattle.report_states.proofs.walk.Walk.pass.Goals as goal

pub returns-then-end-from-clause-at : goal.returns-then-end-from-clause-at
returns-then-end-from-clause-at c =
    let old = c.loop-entry.self in
    let test = c.if-end-from.true in
    let from = c.from.ensures in
    let clock = c.clock_after.ensures in
    all_there c.args.end old.states.object old.facts.now old.entries.now c.in-Some.behind.now c.in-Some.entry.now c.in-Some.ensures.cases.0 (omega (arith, test, from, clock))

pub returns-then-end-from-clause-most : goal.returns-then-end-from-clause-most
returns-then-end-from-clause-most c =
    let old = c.loop-entry.self in
    let test = c.if-end-from.true in
    let from = c.from.ensures in
    let clock = c.clock_after.ensures in
    let there = all_there c.args.end old.states.object old.facts.now old.entries.now c.in-Some.behind.now c.in-Some.entry.now c.in-Some.ensures.cases.0 (omega (arith, test, from, clock)) in
    let none = none_before c.args.end (objects_left old) there in
    let most = c.loop-entry.invariant.most in
    omega (arith, none, most)

pub loop-entry-preserved : goal.loop-entry-preserved
loop-entry-preserved c =
    let old = c.loop-entry.self in
    let new = c.step.new.self in
    let behind = c.in-Some.behind.now in
    let next =
    along_next old.states.object new.states.object old.facts.now new.facts.now old.entries.now behind c.in-Some.entry.now c.in-Some.ensures.cases.0 c.step.ensures.object c.step.ensures.facts in
    let rest = objects_along new.states.object new.facts.now behind in
    let test = c.if-end-from.false in
    let from = c.from.ensures in
    let clock = c.clock_after.ensures in
    let stepped : new.states.object.clock ≡ (after_entry old.states.object old.facts.now c.in-Some.entry.now).clock = ap (λ (o : StateObject). o.clock) c.step.ensures.object in
    let below : new.states.object.clock < c.args.end = omega (arith, test, from, clock, stepped) in
    let counted : max (max c.loop-entry.most (length new.states.object.states)) (most_states (filter (is_before c.args.end) rest)) ≡ max c.max-most.result (most_states (filter (is_before c.args.end) rest)) =
    ap (λ (n : ℕ). max n (most_states (filter (is_before c.args.end) rest))) (ap (λ (n : ℕ). max c.loop-entry.most n) (sym c.count.ensures) ∙ sym c.max-most.ensures) in
    record {
      most = c.loop-entry.invariant.most ∙ ap (λ (os : List StateObject). max c.loop-entry.most (most_states (filter (is_before c.args.end) os))) next
          ∙ one_before c.args.end c.loop-entry.most new.states.object rest below ∙ counted;
      on = λ begin end at.
          c.loop-entry.invariant.on begin end at ∙ ap (λ (os : List StateObject). most_living begin end old.states.object os) next
          ∙ passed_over c.args.end begin end old.states.object new.states.object rest below at;
      room = c.step.ensures.room ∙ c.loop-entry.invariant.room;
    }

pub returns-clause-most : goal.returns-clause-most
unfolding most_states
returns-clause-most c =
    let old = c.loop-entry.self in
    let none = none_left old.states.object old.facts.now old.entries.now c.in_default.ensures.cases in
    let most = c.loop-entry.invariant.most in
    let left : most_states (filter (is_before c.args.end) (objects_left old)) ≡ 0 = ap (λ (os : List StateObject). most_states (filter (is_before c.args.end) os)) none in
    omega (arith, left, most)

pub returns-clause-at : goal.returns-clause-at
returns-clause-at c =
    let old = c.loop-entry.self in
    let none = none_left old.states.object old.facts.now old.entries.now c.in_default.ensures.cases in
    subst (λ (os : List StateObject). AllByRecursion (λ (x : StateObject). c.args.end ≤ x.clock) os) (sym none) tt
