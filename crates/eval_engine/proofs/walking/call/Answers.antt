use Rattle.std.proofs.Common.{◌≡◌, ℕ, ◌<◌, ◌≤◌, length, drop, ◌+◌, nat_eq, false, true, sym, ◌∙◌, arith}
use Rattle.eval_engine.specs.Standing.{callers_of}
use Rattle.eval_engine.specs.Walk.{walk_from, way_back, calls_left}
use Rattle.eval_engine.proofs.Calls.{innermost_first-length}
use Rattle.eval_engine.proofs.Configured.{rule_read}
use Rattle.eval_engine.proofs.Walks.{call_full, call_made}
use Rattle.eval_engine.proofs.walking.call.Goals as goal

has_room : (n : ℕ) → n ≤ 16 → false ≡ nat_eq n 16 → n < 16
has_room n le is = grind arith

is_full : (n : ℕ) → true ≡ nat_eq n 16 → 16 ≤ n
is_full n is = grind arith

pub push-requires : goal.push-requires
push-requires c =
    let size = innermost_first-length c.args.at.now.callers.numbers c.args.at.now.callers.depth in
    let bound : c.args.at.now.callers.depth ≤ 16 = c.args.at.now.callers.bounded in
    has_room _ (omega arith) c.if-is_full.ensures

pub returns-then-is_full : goal.returns-then-is_full
returns-then-is_full c = λ seen.
    let q = c.args.question.now in
    let callers = callers_of c.args.at.now.callers in
    let full : 16 ≤ length callers = is_full _ c.if-is_full.ensures in
    call_full q seen c.args.rule.now (walk_from q seen callers (drop (c.args.at.now.place + 1) q.edition.config.rules)) callers (way_back (calls_left callers) q seen callers) c.args.rule.now.action
    c.requires.called full
    ∙ sym (c.leave.ensures seen)

pub returns-else-is_full : goal.returns-else-is_full
returns-else-is_full c = λ seen.
    let q = c.args.question.now in
    let callers = callers_of c.args.at.now.callers in
    let there = c.requires.there in
    let size = innermost_first-length c.args.at.now.callers.numbers c.args.at.now.callers.depth in
    let bound : c.args.at.now.callers.depth ≤ 16 = c.args.at.now.callers.bounded in
    let read = rule_read q.edition.config.rules c.args.at.now.place c.args.rule.now _ there.there in
    rw (c.target-at.ensures, c.push.ensures)
    (call_made q seen c.args.at.now.place c.args.rule.now callers (way_back (calls_left callers) q seen callers) c.args.rule.now.action c.requires.called there.ordered there.within read (has_room _ (omega arith) c.if-is_full.ensures))
