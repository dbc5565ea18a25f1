use Rattle.std.proofs.Common.{◌∙◌, sym}
use Rattle.eval_engine.specs.Standing.{callers_of}
use Rattle.eval_engine.proofs.OpenGates.{told_there}
use Rattle.eval_engine.proofs.ShutGates.{shut_gates_passed_from}
use Rattle.eval_engine.proofs.walking.pass_shut_gates.Goals as goal

pub returns-then-place-all-clause-passes : goal.returns-then-place-all-clause-passes
returns-then-place-all-clause-passes c seen =
    shut_gates_passed_from c.args.question.now seen (callers_of c.args.at.now.callers) c.args.key.now c.requires.key c.gates-gates.result.now c.args.at.now.place _ (rw (← c.question.view_is) c.gates-gates.ensures)
    c.next_admitted-place.ensures

pub returns-else-place-all-clause-passes : goal.returns-else-place-all-clause-passes
returns-else-place-all-clause-passes c seen =
    shut_gates_passed_from c.args.question.now seen (callers_of c.args.at.now.callers) c.args.key.now c.requires.key c.gates-gates.result.now c.args.at.now.place _ (rw (← c.question.view_is) c.gates-gates.ensures)
    c.next_admitted-place.ensures

pub returns-then-place-all-clause-told : goal.returns-then-place-all-clause-told
returns-then-place-all-clause-told c all =
    told_there c.args.question.now c.args.key.now c.as_slice-all.result.now _ c.args.at.now.place _ c.requires.key c.requires.addresses (rw (c.as_slice-all.ensures, ← c.question.view_is) c.gates-gates.ensures)
    (rw c.as_slice-all.ensures c.next_admitted-place.ensures) c.if-place-all.true c.index-all-place.is (sym c.is_exact.ensures ∙ all)
