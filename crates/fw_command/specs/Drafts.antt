-- The script of the lines that were read so far.
use Rattle.std.specs.Prelude.{Bool, true, false, is_some, Result, Ok, Err, List, [], ◌∷◌, ◌++◌}
use Rattle.fw_command.specs.declared.statement.Statement.{Statement}
use Rattle.fw_command.specs.declared.statement.Statement.TheVariants.{Nothing, Order, Live, After}
use Rattle.fw_command.specs.declared.statement.Place.{Place}
use Rattle.fw_command.specs.declared.script.Line.{Line}
use Rattle.fw_command.specs.declared.script.Step.{Step}
use Rattle.fw_command.specs.declared.script.Step.TheVariants.{Run, After as AfterPackets}
use Rattle.fw_command.specs.declared.script.Script.{Script}
use Rattle.fw_command.specs.declared.script_fault.ScriptFault.{ScriptFault}

-- the commands before `live`, and the steps behind it
pub record Draft : Type 0 where
  pub before : List Line
  pub live : List Step

-- a command behind the lines before it, among the first ones or, behind `live`, among the steps
abbrev pub draft_with_order : Bool → Line → Draft → Draft
draft_with_order false line draft = record { before = draft.before ++ line ∷ []; live = draft.live }
draft_with_order true line draft = record { before = draft.before; live = draft.live ++ Run line ∷ [] }

-- what the line at this place says, behind what was read
abbrev pub draft_with : Place → Statement → Draft → Draft
draft_with place Nothing draft = draft
draft_with place (Order command) draft = draft_with_order (is_some place.live) (record { line = place.line; command = command }) draft
draft_with place Live draft = draft
draft_with place (After column count) draft = record { before = draft.before; live = draft.live ++ AfterPackets count ∷ [] }

-- what was read, before the script behind it
abbrev pub behind_draft : Draft → Script → Script
behind_draft draft script = record { before = draft.before ++ script.before; live_at = script.live_at; live = draft.live ++ script.live }

-- the script of the lines behind, with what was read before them, or its fault
abbrev pub with_draft : Draft → Result Script ScriptFault → Result Script ScriptFault
with_draft draft (Ok script) = Ok (behind_draft draft script)
with_draft draft (Err fault) = Err fault
