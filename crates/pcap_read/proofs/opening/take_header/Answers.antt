use Rattle.std.proofs.Common.{[], ◌≡◌, ◌≤◌, ◌<◌, ◌++◌, length, sym, ◌∙◌, ap, refl, arith, length-append, inl, inr, take, Err}
use Rattle.std.proofs.lemmas.Result.{err_from_is_err_and}
use Rattle.pcap_read.specs.Reading.{Open, InHeader, Closed, header_of}
use Rattle.fw_base.proofs.Logic.{was_true, was_false}
use Rattle.pcap_read.proofs.Fronts.{front_within, front_fault, number_within, number_fault}
use Rattle.pcap_read.proofs.opening.take_header.Goals as goal

pub returns-in_err-fill-clause-takes : goal.returns-in_err-fill-clause-takes
returns-in_err-fill-clause-takes g c =
    let grown = c.in_err-fill.ensures.fills.0 in
    let few : length grown.0 < 24 = omega (arith, ap length grown.1, length-append c.args.window.now grown.0, c.in_err-fill.ensures.fills.1) in
    let p = err_from_is_err_and c.from_residual.result c.from_residual.ensures.1 in
    (grown.0, grown.2, rw (p.1, p.2) (λ limit. (Open InHeader, front_within limit grown.0 few, inr (c.in_err-fill.ensures.cause.failed, refl), number_within grown.0 [] few)))

pub returns-then-not-branch-clause-takes : goal.returns-then-not-branch-clause-takes
returns-then-not-branch-clause-takes g c =
    let here = was_false _ _ c.in_ok-fill.field-0 c.if-not-branch.true c.in_ok-fill.ensures.fills.1 in
    let grown = c.in_ok-fill.ensures.fills.0 in
    let few : length grown.0 < 24 = omega (arith, ap length grown.1, length-append c.args.window.now grown.0, here.0) in
    (grown.0, grown.2, λ limit. (Open InHeader, front_within limit grown.0 few, inl (here.1, refl), number_within grown.0 [] few))

pub returns-in_err-format-clause-takes : goal.returns-in_err-format-clause-takes
returns-in_err-format-clause-takes g c =
    let whole = was_true _ _ c.in_ok-fill.field-0 c.if-not-branch.false c.in_ok-fill.ensures.fills.1 in
    let grown = c.in_ok-fill.ensures.fills.0 in
    let all : c.fill.new.window ≡ grown.0 = grown.1 ∙ ap (λ l. l ++ grown.0) c.requires in
    let p = err_from_is_err_and c.from_residual-in_err-format.result c.from_residual-in_err-format.ensures.1 in
    let fault : header_of (take 24 grown.0) ≡ Err c.in_err-format.field-0.0 = ap (λ l. header_of (take 24 l)) (sym (c.bytes.ensures ∙ all)) ∙ sym c.read_header.ensures.value ∙ c.in_err-format.was in
    let long : 24 ≤ length grown.0 = omega (arith, whole, ap length all) in
    (grown.0, grown.2, rw (p.1, p.2) (λ limit. (Closed _, front_fault limit grown.0 _ long fault, refl, number_fault grown.0 [] _ long fault)))
