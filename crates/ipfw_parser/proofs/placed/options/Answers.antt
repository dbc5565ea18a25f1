use Rattle.std.proofs.Common.{◌≡◌, ◌-◌, ◌+◌, suc, length, sym, ◌∙◌, inl, inr, arith}
use Rattle.std.proofs.lemmas.Result.{err_from_is_err_and}
use Rattle.ipfw_parser.proofs.Steps.Lists.{fails_on}
use Rattle.ipfw_parser.proofs.Steps.Options.{option_goes, option_breaks, state_goes, state_breaks, second_state, ends, some_words_is, no_words_is, is_some_false}
use Rattle.ipfw_parser.proofs.placed.options.Goals as goal

pub returns-in_default : goal.returns-in_default
returns-in_default c = rw c.placed.ensures (ends _ _ _ _ _ _ _ c.loop-step.invariant (inr (no_words_is _ c.in_default.ensures)))

pub returns-in_err-one : goal.returns-in_err-one
returns-in_err-one c =
    let p = err_from_is_err_and c.from_residual.result c.from_residual.ensures.1 in
    let count : length c.args.words.tokens.now - c.loop-step.step ≡ suc (length c.args.words.tokens.now - (c.loop-step.step + 1)) = omega (arith, c.loop-step-test.true) in
    rw (p.1, p.2)
    (fails_on _ _ _ (λ f failed. option_breaks _ _ _ _ _ _ _ _ _ _ f c.loop-step.invariant count (some_words_is _ _ c.in-Some.ensures) (sym c.is_state.ensures ∙ c.if-not-is_state.true) failed) c.in_err-one.ensures)

pub loop-step-preserved-then-not-is_state : goal.loop-step-preserved-then-not-is_state
loop-step-preserved-then-not-is_state c =
    let count : length c.args.words.tokens.now - c.loop-step.step ≡ suc (length c.args.words.tokens.now - (c.loop-step.step + 1)) = omega (arith, c.loop-step-test.true) in
    rw c.in_ok-push.ensures.items
    (option_goes _ _ _ _ _ _ _ _ _ _ _ _ c.loop-step.invariant count (some_words_is _ _ c.in-Some.ensures) (sym c.is_state.ensures ∙ c.if-not-is_state.true) c.in_ok-one.ensures)

pub returns-then-is_some : goal.returns-then-is_some
returns-then-is_some c =
    let count : length c.args.words.tokens.now - c.loop-step.step ≡ suc (length c.args.words.tokens.now - (c.loop-step.step + 1)) = omega (arith, c.loop-step-test.true) in
    rw c.fault.ensures
    (second_state _ _ _ _ _ _ _ _ _ _ c.loop-step.invariant count (some_words_is _ _ c.in-Some.ensures) (sym c.is_state.ensures ∙ c.if-not-is_state.false) (sym c.is_some.ensures ∙ c.if-is_some.true))

pub returns-in_err-one-2 : goal.returns-in_err-one-2
returns-in_err-one-2 c =
    let p = err_from_is_err_and c.from_residual-in_err-one-2.result c.from_residual-in_err-one-2.ensures.1 in
    let count : length c.args.words.tokens.now - c.loop-step.step ≡ suc (length c.args.words.tokens.now - (c.loop-step.step + 1)) = omega (arith, c.loop-step-test.true) in
    let none = is_some_false c.loop-step.made (sym c.is_some.ensures ∙ c.if-is_some.false) in
    rw (p.1, p.2)
    (fails_on _ _ _ (λ f failed. state_breaks _ _ _ _ _ _ _ _ _ _ f c.loop-step.invariant count (some_words_is _ _ c.in-Some.ensures) (sym c.is_state.ensures ∙ c.if-not-is_state.false) none failed) c.in_err-one-2.ensures)

pub loop-step-preserved : goal.loop-step-preserved
loop-step-preserved c =
    let count : length c.args.words.tokens.now - c.loop-step.step ≡ suc (length c.args.words.tokens.now - (c.loop-step.step + 1)) = omega (arith, c.loop-step-test.true) in
    let none = is_some_false c.loop-step.made (sym c.is_some.ensures ∙ c.if-is_some.false) in
    let long : c.len-state_at.result ≡ length c.loop-step.found.items = omega (arith, c.len-state_at.ensures, c.loop-step.found.ok.0) in
    rw long
    (state_goes _ _ _ _ _ _ _ _ _ _ _ _ c.loop-step.invariant count (some_words_is _ _ c.in-Some.ensures) (sym c.is_state.ensures ∙ c.if-not-is_state.false) none c.in_ok-one-2.ensures)

pub returns : goal.returns
returns c =
    let done : length c.args.words.tokens.now - c.loop-step.step ≡ 0 = omega (arith, c.loop-step-test.false) in
    rw c.placed-2.ensures (ends _ _ _ _ _ _ _ c.loop-step.invariant (inl done))
