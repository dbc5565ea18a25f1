-- What a script gives before a packet is read (ipfw(8)): edition 1, the configuration that the commands before
-- `live` make one after the other; the answers to the listings among them, which show edition 1; and what
-- stands behind `live`.
use Rattle.std.specs.Prelude.{◌≡◌, ℕ, if◌then◌else◌, Option, Some, None, Result, Ok, Err, List, [], ◌∷◌}
use Rattle.command_words.specs.declared.invocation.Mode.{Mode}
use Rattle.command_words.specs.declared.invocation.Mode.TheVariants.{Serial, Live}
use Rattle.fw_command.specs.declared.script.Line.{Line}
use Rattle.fw_command.specs.declared.script.Pace.{Pace}
use Rattle.fw_command.specs.declared.script.Pace.TheVariants as pace
use Rattle.fw_command.specs.declared.script.Script.{Script}
use Rattle.fw_command.specs.declared.script_fault.ScriptFault.{ScriptFault}
use Rattle.fw_command.specs.Scripts.{script_of}
use Rattle.report_texts.specs.declared.ends.Answer.{Answer}
use Rattle.report_texts.specs.declared.ends.Answer.TheVariants as answer
use Rattle.report_texts.specs.declared.ends.LineAnswer.{LineAnswer}
use Rattle.rule_edits.specs.Answers.{Answer as Applied}
use Rattle.rule_edits.specs.Apply.{apply}
use Rattle.rule_edits.specs.Changing.{is_changing}
use Rattle.rule_chain.specs.Configuration.{Configuration}
use Rattle.rule_chain.specs.First.{first_configuration}
use Rattle.capture_tracks.specs.Commands.{Listing, line_answer, listed_answer, listing_of}
use Rattle.replay_setup.specs.declared.first_edition.FirstEdition.{FirstEdition}
use Rattle.replay_setup.specs.declared.script_error.ScriptError.{ScriptError}
use Rattle.replay_setup.specs.declared.script_error.ScriptError.TheVariants.{Fault, Refused, OutOfMemory}

-- the pace of a script's steps in this mode
abbrev pub pace_of : Mode → Pace
pace_of Serial = pace.Serial
pace_of Live = pace.Live

infixl 10 ◌>>=◌
-- the second step on what the first gives, or the first error
abbrev pub ◌>>=◌ : {X Y : Type 0} → Result X ScriptError → (X → Result Y ScriptError) → Result Y ScriptError
(Ok x) >>= f = f x
(Err e) >>= f = Err e

-- what the command on this line comes to
abbrev pub on_line : {X : Type 0} → ℕ → Applied X → Result X ScriptError
on_line line (Ok x) = Ok x
on_line line (Err fault) = Err (Refused (record { line = line; fault = fault }))

-- the configuration behind the command of a line; a listing changes nothing
abbrev pub configured_line : Configuration → Line → Result Configuration ScriptError
configured_line config line = if is_changing line.command then on_line line.line (apply config line.command) else Ok config

-- the configuration behind the commands of these lines, in their order
unfoldable pub configuration_behind : Configuration → List Line → Result Configuration ScriptError
configuration_behind config [] = Ok config
configuration_behind config (line ∷ lines) = do
  next ← configured_line config line
  configuration_behind next lines

-- what the answer to this line comes to: one that is refused is the script's error
abbrev pub answered_line : ℕ → Answer → Result (Option LineAnswer) ScriptError
answered_line line (answer.Refused fault) = Err (Refused (record { line = line; fault = fault }))
answered_line line (answer.Listed edition table) = Ok (Some (line_answer line (answer.Listed edition table)))

-- a listing is answered by edition 1
abbrev pub listed_first : Configuration → ℕ → Option Listing → Result (Option LineAnswer) ScriptError
listed_first config line None = Ok None
listed_first config line (Some listing) = answered_line line (listed_answer config 1 listing)

-- the answer before the others, where there is one
abbrev pub with_answer : Option LineAnswer → List LineAnswer → List LineAnswer
with_answer None answers = answers
with_answer (Some answer) answers = answer ∷ answers

-- the answers to the listings among the lines
unfoldable pub listings_of : Configuration → List Line → Result (List LineAnswer) ScriptError
listings_of config [] = Ok []
listings_of config (line ∷ lines) = do
  answer ← listed_first config line.line (listing_of line.command)
  others ← listings_of config lines
  Ok (with_answer answer others)

-- the script, or its first fault
abbrev pub read_script : Result Script ScriptFault → Result Script ScriptError
read_script (Ok script) = Ok script
read_script (Err fault) = Err (Fault fault)

-- The script's first fault comes before the first command that is refused, and that before the first listing
-- of no table.
unfoldable pub first_edition : Pace → List ℕ → Result FirstEdition ScriptError
first_edition pace bytes = do
  script ← read_script (script_of pace bytes)
  config ← configuration_behind first_configuration script.before
  answers ← listings_of config script.before
  Ok (record { config = config; answers = answers; live = script.live })

-- what a call answered, unless memory ran out
abbrev pub GivesView : {X Y : Type 0} → (X → Y) → Result X ScriptError → Result Y ScriptError → Type 0
GivesView view (Ok x) answer = answer ≡ Ok (view x)
GivesView view (Err OutOfMemory) answer = Unit {0}
GivesView view (Err (Fault fault)) answer = answer ≡ Err (Fault fault)
GivesView view (Err (Refused refused)) answer = answer ≡ Err (Refused refused)
