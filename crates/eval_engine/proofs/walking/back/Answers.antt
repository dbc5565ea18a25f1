use Rattle.std.proofs.Common.{ℕ, List, ◌≤◌, length, drop, ◌+◌, ap, sym, ◌∙◌, arith}
use Rattle.eval_engine.specs.Standing.{callers_of}
use Rattle.eval_engine.specs.Walk.{walk_from}
use Rattle.eval_engine.proofs.Calls.{innermost_first-length}
use Rattle.eval_engine.proofs.Walks.{returns_none, returns_some}
use Rattle.eval_engine.specs.declared.callers.Callers.{Callers}
use Rattle.eval_engine.proofs.walking.back.Goals as goal

pub returns-in-Some : goal.returns-in-Some
returns-in-Some c = λ seen.
    let q = c.args.question.now in
    let callers = callers_of c.args.at.now.callers in
    let size = innermost_first-length c.args.at.now.callers.numbers c.args.at.now.callers.depth in
    let bound : c.args.at.now.callers.depth ≤ 16 = c.args.at.now.callers.bounded in
    let more = ap (λ (numbers : List ℕ). length numbers) c.in-Some.ensures in
    rw c.first_behind-at.ensures
    (returns_some q seen callers (callers_of c.pop.new.self) c.in-Some.number (walk_from q seen callers _) c.in-Some.ensures (omega arith))

pub returns-in-None : goal.returns-in-None
returns-in-None c = λ seen.
    let q = c.args.question.now in
    let callers = callers_of c.args.at.now.callers in
    let same = ap (λ (open_calls : Callers). walk_from q seen (callers_of open_calls) (drop (c.args.at.now.place + 1) q.edition.config.rules) 0) c.in-None.ensures.1 in
    returns_none q seen callers (walk_from q seen callers (drop (c.args.at.now.place + 1) q.edition.config.rules)) c.in-None.ensures.0 ∙ sym same ∙ sym (c.leave.ensures seen)
