use Rattle.std.proofs.Common.{◌∙◌, ◌+◌, drop, sym, ap}
use Rattle.std.proofs.lemmas.Result.{err_from_is_err_and}
use Rattle.rule_chain.specs.Configuration.{Configuration}
use Rattle.rule_chain.specs.First.{first_configuration}
use Rattle.replay_setup.specs.FirstEdition.{configuration_behind}
use Rattle.replay_setup.proofs.ScriptLines.{line_at, passed_on, configured_on, configured_stops, configured_none}
use Rattle.replay_setup.proofs.first_edition.configure.Goals as goal

pub returns-in_err-config-2 : goal.returns-in_err-config-2
returns-in_err-config-2 c =
    let front = line_at c.args.lines.now c.loop-line.line-index c.line-item.result c.loop-line-test.true c.line-item.is in
    let (error, is, same) = err_from_is_err_and c.from_residual-in_err-config-2.result c.from_residual-in_err-config-2.ensures.1 in
    rw (is, same) (passed_on (λ (x : Configuration). x) (λ (x : Configuration). x) c.in_err-config-2.field-0.0 _ (configuration_behind first_configuration c.args.lines.now)
    (λ e stop. sym c.loop-line.invariant ∙ ap (configuration_behind c.loop-line.config) front ∙ configured_stops c.loop-line.config c.line-item.result (drop (c.loop-line.line-index + 1) c.args.lines.now) e stop) c.in_err-config-2.ensures)

pub loop-line-preserved : goal.loop-line-preserved
loop-line-preserved c =
    let front = line_at c.args.lines.now c.loop-line.line-index c.line-item.result c.loop-line-test.true c.line-item.is in
    sym (configured_on c.loop-line.config _ c.line-item.result (drop (c.loop-line.line-index + 1) c.args.lines.now) c.in_ok-config-2.ensures) ∙ ap (configuration_behind c.loop-line.config) (sym front) ∙ c.loop-line.invariant

pub returns : goal.returns
returns c = sym c.loop-line.invariant ∙ configured_none c.loop-line.config c.args.lines.now c.loop-line.line-index c.loop-line-test.false
