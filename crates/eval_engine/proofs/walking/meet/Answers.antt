use Rattle.std.proofs.Common.{rules, ◌∙◌, ◌+◌, drop, ap, sym}
use Rattle.std.specs.Prelude.{unwrap_or}
use Rattle.ip6_headers.specs.Either.{any_tcp_flags_of}
use Rattle.state_asks.proofs.FewFlags.{few_flags}
use Rattle.eval_engine.specs.Standing.{callers_of, seen_by}
use Rattle.eval_engine.specs.Trace.{Trace, PassesOver}
use Rattle.eval_engine.proofs.Leading.{nears_by, comes_at_once}
use Rattle.eval_engine.proofs.Walks.{disabled_passed, looked_asks, told_acts, unlooked_tests}
use Rattle.eval_engine.proofs.walking.meet.Goals as goal

pub returns-then-is_disabled : goal.returns-then-is_disabled
returns-then-is_disabled c =
    let q = c.args.question.now in
    let seen = seen_by c.args.searched.now in
    let passed = disabled_passed q seen (callers_of c.args.at.now.callers) c.args.rule.now (drop (c.args.at.now.place + 1) q.edition.config.rules) (drop c.args.at.now.place q.edition.config.rules) c.requires.there.there (sym c.if-is_disabled.ensures) in
    rw c.pass_over.ensures.on (nears_by q _ _ c.args.tally.now (passed ∙ ap (λ (t : Trace). PassesOver t) (sym (c.pass_over.ensures.next seen))))

pub returns-then-is_told : goal.returns-then-is_told
returns-then-is_told c =
    let q = c.args.question.now in
    let seen = seen_by c.args.searched.now in
    let acts = told_acts q seen (callers_of c.args.at.now.callers) c.args.rule.now (drop (c.args.at.now.place + 1) q.edition.config.rules) (drop c.args.at.now.place q.edition.config.rules) c.requires.there.there (sym c.if-is_disabled.ensures) (c.requires.told c.if-is_told.true) in
    rw acts (c.act.ensures c.args.searched.now)

pub returns-in-Some : goal.returns-in-Some
returns-in-Some c =
    let q = c.args.question.now in
    let seen = seen_by c.args.searched.now in
    let asks = looked_asks q seen (callers_of c.args.at.now.callers) c.args.rule.now (drop (c.args.at.now.place + 1) q.edition.config.rules) (drop c.args.at.now.place q.edition.config.rules) c.requires.there.there (sym c.if-is_disabled.ensures) c.in-Some.flow (sym c.in-Some.ensures) in
    rw c.ask_lookup.ensures (comes_at_once q _ _ _ c.args.tally.now (record { stop = asks; asked = (search rules, few_flags (unwrap_or (any_tcp_flags_of q.packet) 0)) }))

pub returns-in-None : goal.returns-in-None
returns-in-None c =
    let q = c.args.question.now in
    let seen = seen_by c.args.searched.now in
    let tests = unlooked_tests q seen (callers_of c.args.at.now.callers) c.args.rule.now (drop (c.args.at.now.place + 1) q.edition.config.rules) (drop c.args.at.now.place q.edition.config.rules) c.requires.there.there (sym c.if-is_disabled.ensures) (sym c.in-None.ensures) in
    rw tests c.test.ensures
