-- A script from its bytes to edition 1, step by step.
use Rattle.std.proofs.Common.{◌≡◌, ℕ, List, Result, Ok, Err, ap, ◌∙◌}
use Rattle.fw_command.specs.declared.script.Pace.{Pace}
use Rattle.fw_command.specs.declared.script.Script.{Script}
use Rattle.fw_command.specs.Scripts.{script_of}
use Rattle.report_texts.specs.declared.ends.LineAnswer.{LineAnswer}
use Rattle.rule_chain.specs.Configuration.{Configuration}
use Rattle.rule_chain.specs.First.{first_configuration}
use Rattle.replay_setup.specs.FirstEdition.{◌>>=◌, read_script, configuration_behind, listings_of, first_edition}
use Rattle.replay_setup.specs.declared.first_edition.FirstEdition.{FirstEdition}
use Rattle.replay_setup.specs.declared.script_error.ScriptError.{ScriptError}

abbrev with_answers : Script → Configuration → List LineAnswer → Result FirstEdition ScriptError
with_answers script config answers = Ok (record { config = config; answers = answers; live = script.live })

-- what the listings among the lines add
abbrev with_listings : Script → Configuration → Result FirstEdition ScriptError
with_listings script config = listings_of config script.before >>= λ answers. with_answers script config answers

abbrev of_script : Script → Result FirstEdition ScriptError
of_script script = configuration_behind first_configuration script.before >>= λ config. with_listings script config

-- a script with a fault gives that fault, and no edition
pub script_stops : (pace : Pace) (bytes : List ℕ) (e : ScriptError) → read_script (script_of pace bytes) ≡ Err e → first_edition pace bytes ≡ Err e
unfolding first_edition
script_stops pace bytes e stop = ap (λ (r : Result Script ScriptError). r >>= λ script. of_script script) stop

read : (pace : Pace) (bytes : List ℕ) (script : Script) → read_script (script_of pace bytes) ≡ Ok script → first_edition pace bytes ≡ of_script script
unfolding first_edition
read pace bytes script ok = ap (λ (r : Result Script ScriptError). r >>= λ s. of_script s) ok

-- a command before `live` that is refused gives its refusal, and no edition
pub command_stops : (pace : Pace) (bytes : List ℕ) (script : Script) (e : ScriptError) → read_script (script_of pace bytes) ≡ Ok script
    → configuration_behind first_configuration script.before ≡ Err e → first_edition pace bytes ≡ Err e
command_stops pace bytes script e ok stop = read pace bytes script ok ∙ ap (λ (r : Result Configuration ScriptError). r >>= λ config. with_listings script config) stop

configured_to : (pace : Pace) (bytes : List ℕ) (script : Script) (config : Configuration) → read_script (script_of pace bytes) ≡ Ok script
    → configuration_behind first_configuration script.before ≡ Ok config → first_edition pace bytes ≡ with_listings script config
configured_to pace bytes script config ok to = read pace bytes script ok ∙ ap (λ (r : Result Configuration ScriptError). r >>= λ c. with_listings script c) to

-- a listing before `live` that is refused gives its refusal, and no edition
pub listing_stops : (pace : Pace) (bytes : List ℕ) (script : Script) (config : Configuration) (e : ScriptError) → read_script (script_of pace bytes) ≡ Ok script
    → configuration_behind first_configuration script.before ≡ Ok config → listings_of config script.before ≡ Err e → first_edition pace bytes ≡ Err e
listing_stops pace bytes script config e ok to stop =
    configured_to pace bytes script config ok to ∙ ap (λ (r : Result (List LineAnswer) ScriptError). r >>= λ answers. with_answers script config answers) stop

-- a script that is accepted gives edition 1, the answers to its listings, and what stands behind `live`
pub edition_stands : (pace : Pace) (bytes : List ℕ) (script : Script) (config : Configuration) (answers : List LineAnswer) → read_script (script_of pace bytes) ≡ Ok script
    → configuration_behind first_configuration script.before ≡ Ok config → listings_of config script.before ≡ Ok answers
    → first_edition pace bytes ≡ Ok (record { config = config; answers = answers; live = script.live })
edition_stands pace bytes script config answers ok to told =
    configured_to pace bytes script config ok to ∙ ap (λ (r : Result (List LineAnswer) ScriptError). r >>= λ a. with_answers script config a) told
