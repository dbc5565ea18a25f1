-- The commands of a script: their numbers are in their ranges, and what they name has the bytes of names (ipfw(8), "SYNOPSIS").
use Rattle.std.specs.Prelude.{◌≡◌, ◌≤◌, ℕ, ⊤, true, IfOk, Ok, List, length}
use Rattle.std.specs.List.{AllByRecursion}
use Rattle.fw_command.specs.Scripts.{script_of}
use Rattle.fw_command.specs.declared.script.Line.{Line}
use Rattle.fw_command.specs.declared.script.Pace.{Pace}
use Rattle.fw_command.specs.declared.script.Script.{Script}
use Rattle.fw_command.specs.declared.script.Step.{Step}
use Rattle.fw_command.specs.declared.script.Step.TheVariants.{Run, After}
use Rattle.fw_rule.specs.WellFormed.{IsWellFormed}
use Rattle.fw_rule.specs.declared.command.Command.{Command}
use Rattle.fw_rule.specs.declared.command.Command.TheVariants.{Add, Delete, DeleteSet, Flush, Zero, ListRules, SetMask, MoveSet, MoveRule, SwapSets, Table, Sysctl, Local}
use Rattle.ipfw_parser.specs.Forms.{IsDraftForm}
use Rattle.ipfw_parser.specs.Names.{is_name}
use Rattle.rule_chain.specs.Configuration.{Configuration}
use Rattle.rule_chain.specs.First.{first_configuration}
use Rattle.rule_edits.specs.Apply.{apply}
use Rattle.audit_laws.specs.Printable.{IsPrintableConfig}

-- an `add` has a rule that the grammar yields, and a table's name has 1 to 63 bytes of names
abbrev pub HasNamesInForm : Command → Type 0
HasNamesInForm (Add draft) = IsDraftForm draft
HasNamesInForm (Delete numbers) = ⊤
HasNamesInForm (DeleteSet set) = ⊤
HasNamesInForm Flush = ⊤
HasNamesInForm (Zero numbers) = ⊤
HasNamesInForm ListRules = ⊤
HasNamesInForm (SetMask disable enable) = ⊤
HasNamesInForm (MoveSet from to) = ⊤
HasNamesInForm (MoveRule number to) = ⊤
HasNamesInForm (SwapSets first second) = ⊤
HasNamesInForm (Table name command) = is_name 63 name ≡ true
HasNamesInForm (Sysctl setting value) = ⊤
HasNamesInForm (Local addresses) = ⊤

-- a command as the grammar yields it
pub record IsFormed (command : Command) : Type 0 where
  pub numbers : IsWellFormed command
  pub names : HasNamesInForm command

-- the command of a line
abbrev pub IsFormedLine : Line → Type 0
IsFormedLine line = IsFormed line.command

-- the command of a step behind `live`, if it has one
abbrev pub IsFormedStep : Step → Type 0
IsFormedStep (Run line) = IsFormedLine line
IsFormedStep (After count) = ⊤

-- all commands of a script, of which at most 65,536 stand behind `live`
pub record IsFormedScript (script : Script) : Type 0 where
  pub before : AllByRecursion IsFormedLine script.before
  pub live : AllByRecursion IsFormedStep script.live
  pub few : length script.live ≤ 65536

-- each script that is read has its commands so
abbrev pub ScriptsAreFormed : Type 0
ScriptsAreFormed = (pace : Pace) (bytes : List ℕ) → IfOk (script_of pace bytes) IsFormedScript

-- Of the configuration that stands before any command, and of each that a command of a script makes, names and tables are
-- in the ranges of their lines.
pub record FormsAreKept : Type 0 where
  pub first : IsPrintableConfig first_configuration
  pub kept : (before after : Configuration) (command : Command) → IsPrintableConfig before → IsFormed command → apply before command ≡ Ok after → IsPrintableConfig after
