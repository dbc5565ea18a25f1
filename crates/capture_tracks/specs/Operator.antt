-- Who runs the commands behind `live`, whichever way a replay goes through its records: what its desk shows, and
-- the answers so far.
use Rattle.std.specs.Prelude.{◌≡◌, ℕ, List, [], ◌∷◌, ◌++◌, length}
use Rattle.fw_command.specs.declared.script.Line.{Line}
use Rattle.report_texts.specs.declared.ends.Answer.{Answer}
use Rattle.report_texts.specs.declared.ends.Answer.TheVariants.{Refused}
use Rattle.report_texts.specs.declared.ends.LineAnswer.{LineAnswer}
use Rattle.fw_rule.specs.declared.command.Command.{Command}
use Rattle.fw_world.specs.CommitFaults.{RefusesCommand}
use Rattle.fw_world.specs.Editions.{IsLastOf, IsNextEdition}
use Rattle.fw_world.specs.World.{DeskStandsFor}
use Rattle.generation_store.specs.Published.{Published}
use Rattle.rule_chain.specs.Configuration.{Configuration}
use Rattle.rule_edits.specs.declared.apply_fault.ApplyFault.{ApplyFault}
use Rattle.capture_tracks.specs.Commands.{Listing, Standing, line_answer, listed_answer}

-- the editions that the desk shows, and the answers to the lines that ran
pub record OperatorValue : Type 0 where
  pub editions : List Published
  pub answers : List LineAnswer

-- the last of these editions has this configuration
abbrev pub HasConfig : List Published → Configuration → Type 0
HasConfig editions config = (edition : Published) × IsLastOf editions edition × (edition.config ≡ config)

-- The operator stands for a first configuration, and for what the lines so far came to.
pub record OperatorStandsFor (first : Configuration) (standing : Standing) (o : OperatorValue) : Type 0 where
  pub config : HasConfig o.editions standing.config
  pub number : standing.number ≡ length o.editions
  pub accepted : DeskStandsFor o.editions first standing.accepted
  pub answers : o.answers ≡ standing.answers

-- one answer more, and nothing else
pub record AddsAnswer (old new : OperatorValue) (answer : LineAnswer) : Type 0 where
  pub editions : new.editions ≡ old.editions
  pub answers : new.answers ≡ old.answers ++ answer ∷ []

-- a listing's answer, by the last of these editions
pub record IsListed (editions : List Published) (listing : Listing) (answer : Answer) : Type 0 where
  pub config : Configuration
  pub last : HasConfig editions config
  pub listed : answer ≡ listed_answer config (length editions) listing

-- an edition was published
pub record AddsEdition (old new : OperatorValue) (command : Command) : Type 0 where
  pub edition : Published
  pub next : IsNextEdition old.editions command edition
  pub editions : new.editions ≡ old.editions ++ edition ∷ []
  pub answers : new.answers ≡ old.answers
  pub accepts : (first : Configuration) (commands : List Command) → DeskStandsFor old.editions first commands → DeskStandsFor new.editions first (commands ++ command ∷ [])

-- the command was refused
pub record AddsRefusal (old new : OperatorValue) (line : Line) : Type 0 where
  pub fault : ApplyFault
  pub refusal : RefusesCommand old.editions line.command fault
  pub answered : AddsAnswer old new (line_answer line.line (Refused fault))
