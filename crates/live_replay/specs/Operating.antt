-- What the operator of a shared world does with the lines behind `live`.
use Rattle.std.specs.Prelude.{◌≡◌, List, [], ◌∷◌}
use Rattle.capture_tracks.specs.Commands.{Standing, after_lines}
use Rattle.capture_tracks.specs.Operator.{OperatorValue, OperatorStandsFor, AddsAnswer, AddsEdition, AddsRefusal}
use Rattle.fw_command.specs.declared.script.Line.{Line}
use Rattle.fw_command.specs.declared.script.Step.{Step}
use Rattle.fw_command.specs.declared.script.Step.TheVariants.{Run, After}
use Rattle.report_texts.specs.declared.ends.LineAnswer.{LineAnswer}
use Rattle.fw_rule.specs.declared.command.Command.{Command}
use Rattle.rule_chain.specs.Configuration.{Configuration}
use Rattle.live_replay.specs.declared.operator.Operator.{Operator}

-- what its desk shows, and the answers
abbrev pub operator_of : Operator → OperatorValue
operator_of operator = record { editions = operator.desk.editions; answers = operator.answers.items }

-- its desk is one of the same world, and knows how many lanes that has
pub record KeepsDesk (old new : Operator) : Type 0 where
  pub world : new.desk.world ≡ old.desk.world
  pub lanes : new.desk.lanes ≡ old.desk.lanes

-- one answer more, and nothing else
pub record AnswersLine (old new : Operator) (answer : LineAnswer) : Type 0 where
  pub desk : KeepsDesk old new
  pub adds : AddsAnswer (operator_of old) (operator_of new) answer

-- an edition was published
pub record Accepts (old new : Operator) (command : Command) : Type 0 where
  pub desk : KeepsDesk old new
  pub adds : AddsEdition (operator_of old) (operator_of new) command

-- the command was refused
pub record RefusesLine (old new : Operator) (line : Line) : Type 0 where
  pub desk : KeepsDesk old new
  pub adds : AddsRefusal (operator_of old) (operator_of new) line

-- these lines ran, in their order
pub record RunsLines (old new : Operator) (lines : List Line) : Type 0 where
  pub desk : KeepsDesk old new
  pub stands : (first : Configuration) (standing : Standing) → OperatorStandsFor first standing (operator_of old) → OperatorStandsFor first (after_lines standing lines) (operator_of new)

-- the line of a step, if it has one
abbrev pub lines_of_step : Step → List Line
lines_of_step (Run line) = line ∷ []
lines_of_step (After count) = []
