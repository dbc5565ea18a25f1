-- Why nothing is published.
use Rattle.std.specs.Prelude.{◌≡◌, ⊤, Err, List}
use Rattle.fw_rule.specs.declared.command.Command.{Command}
use Rattle.generation_store.specs.Published.{Published}
use Rattle.rule_edits.specs.Apply.{apply}
use Rattle.rule_edits.specs.declared.apply_fault.ApplyFault.{ApplyFault}
use Rattle.rule_edits.specs.declared.apply_fault.ApplyFault.TheVariants as fault
use Rattle.fw_world.specs.Editions.{IsLastOf}
use Rattle.fw_world.specs.declared.commit_fault.CommitFault.{CommitFault}
use Rattle.fw_world.specs.declared.commit_fault.CommitFault.TheVariants.{Refused, OutOfMemory}

-- the configuration of the last of these editions refuses the command with this fault
pub record RefusesCommand (editions : List Published) (command : Command) (fault : ApplyFault) : Type 0 where
  pub edition : Published
  pub last : IsLastOf editions edition
  pub refused : apply edition.config command ≡ Err fault

-- why the command made no edition behind these: it is refused, or memory ran out, which may come at any time
abbrev pub IsCauseOf : List Published → Command → CommitFault → Type 0
IsCauseOf editions command (Refused fault) = RefusesCommand editions command fault
IsCauseOf editions command OutOfMemory = ⊤

-- a refusal, or want of memory
abbrev pub commit_fault : ApplyFault → CommitFault
commit_fault fault.NoSuchRule = Refused fault.NoSuchRule
commit_fault fault.ReservedRule = Refused fault.ReservedRule
commit_fault fault.ReservedSet = Refused fault.ReservedSet
commit_fault fault.NoSuchTable = Refused fault.NoSuchTable
commit_fault fault.EntryExists = Refused fault.EntryExists
commit_fault fault.NoSuchEntry = Refused fault.NoSuchEntry
commit_fault fault.TableInUse = Refused fault.TableInUse
commit_fault fault.WrongType = Refused fault.WrongType
commit_fault fault.TooManyRules = Refused fault.TooManyRules
commit_fault fault.TooManyCounters = Refused fault.TooManyCounters
commit_fault fault.TooManyNames = Refused fault.TooManyNames
commit_fault fault.OutOfMemory = OutOfMemory
