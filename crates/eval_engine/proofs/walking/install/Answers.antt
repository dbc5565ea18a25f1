use Rattle.std.proofs.Common.{rules, ◌∙◌, ◌+◌, [], drop, ap, sym}
use Rattle.std.specs.Prelude.{unwrap_or}
use Rattle.ip6_headers.specs.Either.{any_tcp_flags_of}
use Rattle.state_asks.proofs.FewFlags.{few_flags}
use Rattle.eval_engine.specs.Standing.{callers_of, seen_by}
use Rattle.eval_engine.specs.Trace.{Trace, PassesOver}
use Rattle.eval_engine.proofs.Leading.{nears_by, comes_at_once}
use Rattle.eval_engine.proofs.Walks.{stateless_acts, flowless_passed, install_asks}
use Rattle.eval_engine.proofs.walking.install.Goals as goal

pub returns-in_default : goal.returns-in_default
returns-in_default c =
    let q = c.args.question.now in
    let seen = seen_by c.args.searched.now in
    let acts = stateless_acts q seen (callers_of c.args.at.now.callers) c.args.rule.now (drop (c.args.at.now.place + 1) q.edition.config.rules) [] (sym c.in_default.ensures) in
    rw acts (c.act.ensures c.args.searched.now)

pub returns-in-Some-flow : goal.returns-in-Some-flow
returns-in-Some-flow c =
    let q = c.args.question.now in
    let seen = seen_by c.args.searched.now in
    let flow = sym c.flow.ensures ∙ c.in-Some-flow.is in
    let asks = install_asks q seen (callers_of c.args.at.now.callers) c.args.rule.now (drop (c.args.at.now.place + 1) q.edition.config.rules) (drop c.args.at.now.place q.edition.config.rules) c.requires.there.there c.in-Some.state.now c.in-Some-flow.flow (sym c.in-Some.ensures) flow in
    rw c.ask_install.ensures (comes_at_once q _ _ _ c.args.tally.now (record { stop = asks; asked = (c.requires.there.listed, few_flags (unwrap_or (any_tcp_flags_of q.packet) 0)) }))

pub returns-in-None : goal.returns-in-None
returns-in-None c =
    let q = c.args.question.now in
    let seen = seen_by c.args.searched.now in
    let flow = sym c.flow.ensures ∙ c.in-None.is in
    let passed = flowless_passed q seen (callers_of c.args.at.now.callers) c.args.rule.now (drop (c.args.at.now.place + 1) q.edition.config.rules) [] c.in-Some.state.now (sym c.in-Some.ensures) flow in
    rw c.pass_over.ensures.on (nears_by q _ _ c.args.tally.now (passed ∙ ap (λ (t : Trace). PassesOver t) (sym (c.pass_over.ensures.next seen))))
