use Rattle.std.proofs.Common.{◌∙◌, sym, ap, List, Vec, Global, Result, Ok}
use Rattle.std.proofs.lemmas.Result.{err_from_is_err_and}
use Rattle.fw_command.specs.declared.script.Script.{Script}
use Rattle.report_texts.specs.declared.ends.LineAnswer.{LineAnswer}
use Rattle.rule_chain.specs.Configuration.{Configuration}
use Rattle.rule_chain.specs.First.{first_configuration}
use Rattle.replay_setup.specs.FirstEdition.{first_edition, configuration_behind, listings_of}
use Rattle.replay_setup.specs.declared.first_edition.FirstEdition.{FirstEdition}
use Rattle.replay_setup.specs.declared.script_error.ScriptError.{ScriptError}
use Rattle.replay_setup.proofs.ScriptLines.{passed_on}
use Rattle.replay_setup.proofs.ScriptReading.{script_stops, command_stops, listing_stops, edition_stands}
use Rattle.replay_setup.proofs.first_edition.read_first_edition.Goals as goal

pub returns-in_err-before-clause-exact : goal.returns-in_err-before-clause-exact
returns-in_err-before-clause-exact c =
    let (error, is, same) = err_from_is_err_and c.from_residual.result c.from_residual.ensures.1 in
    rw (is, same) (passed_on (λ (s : Script). s) (λ (e : FirstEdition). e) c.in_err-before.field-0.0 _ (first_edition c.args.pace c.args.bytes.now) (λ e stop. script_stops c.args.pace c.args.bytes.now e stop) c.in_err-before.ensures.exact)

pub returns-in_err-config-clause-exact : goal.returns-in_err-config-clause-exact
returns-in_err-config-clause-exact c =
    let script = c.in_ok-before.field-0 in
    let lines = ap (configuration_behind first_configuration) (sym c.as_slice-lines.ensures) in
    let (error, is, same) = err_from_is_err_and c.from_residual-in_err-config.result c.from_residual-in_err-config.ensures.1 in
    rw (is, same) (passed_on (λ (x : Configuration). x) (λ (e : FirstEdition). e) c.in_err-config.field-0.0 _ (first_edition c.args.pace c.args.bytes.now)
    (λ e stop. command_stops c.args.pace c.args.bytes.now script e c.in_ok-before.ensures.exact (lines ∙ stop))
    c.in_err-config.ensures)

pub returns-in_err-answers-clause-exact : goal.returns-in_err-answers-clause-exact
returns-in_err-answers-clause-exact c =
    let script = c.in_ok-before.field-0 in
    let lines = ap (configuration_behind first_configuration) (sym c.as_slice-lines.ensures) in
    let listings = ap (listings_of c.in_ok-config.config) (sym c.as_slice-lines.ensures) in
    let (error, is, same) = err_from_is_err_and c.from_residual-in_err-answers.result c.from_residual-in_err-answers.ensures.1 in
    rw (is, same) (passed_on (λ (x : Vec LineAnswer Global). x.items) (λ (e : FirstEdition). e) c.in_err-answers.field-0.0 _ (first_edition c.args.pace c.args.bytes.now)
    (λ e stop. listing_stops c.args.pace c.args.bytes.now script c.in_ok-config.config e c.in_ok-before.ensures.exact (lines ∙ c.in_ok-config.ensures) (listings ∙ stop))
    c.in_err-answers.ensures)

pub returns-clause-exact : goal.returns-clause-exact
returns-clause-exact c =
    let script = c.in_ok-before.field-0 in
    let lines = ap (configuration_behind first_configuration) (sym c.as_slice-lines.ensures) in
    let listings = ap (listings_of c.in_ok-config.config) (sym c.as_slice-lines.ensures) in
    edition_stands c.args.pace c.args.bytes.now script c.in_ok-config.config c.in_ok-answers.answers.items c.in_ok-before.ensures.exact (lines ∙ c.in_ok-config.ensures) (listings ∙ c.in_ok-answers.ensures)
    ∙ ap (λ (l : List LineAnswer). let e : FirstEdition = record { config = c.in_ok-config.config; answers = l; live = script.live } in let r : Result FirstEdition ScriptError = Ok e in r) (sym c.from_vec.ensures)
