-- Every command of a script is well formed: each of its numbers is in its range.
use Rattle.std.specs.Prelude.{◌≤◌}
use Rattle.std.specs.List.{AllByRecursion}
use Rattle.fw_rule.specs.WellFormed.{IsWellFormed}
use Rattle.fw_command.specs.declared.script.Line.{Line}
use Rattle.fw_command.specs.declared.script.Step.{Step}
use Rattle.fw_command.specs.declared.script.Step.TheVariants.{Run, After}
use Rattle.fw_command.specs.declared.script.Script.{Script}

-- a line's command is well formed
abbrev pub IsLine : Line → Type 0
IsLine line = IsWellFormed line.command

-- how many packets go first, 0 to 33,554,432
abbrev pub IsStepInRange : Step → Type 0
IsStepInRange (Run line) = IsLine line
IsStepInRange (After count) = count ≤ 33554432

-- Every command of the script is well formed, before `live` and behind it.
pub record IsScript (script : Script) : Type 0 where
  pub before : AllByRecursion IsLine script.before
  pub live : AllByRecursion IsStepInRange script.live
