-- The commands that change a configuration: all but `list` and `table NAME list` (ipfw(8), "SYNOPSIS").
use Rattle.std.specs.Prelude.{◌≡◌, Bool, true, false}
use Rattle.fw_rule.specs.declared.command.Command.{Command}
use Rattle.fw_rule.specs.declared.command.Command.TheVariants.{Add, Delete, DeleteSet, Flush, Zero, ListRules, SetMask, MoveSet, MoveRule, SwapSets, Table, Sysctl, Local}
use Rattle.fw_rule.specs.declared.table_command.TableCommand.{TableCommand}
use Rattle.fw_rule.specs.declared.table_command.TableCommand.TheVariants.{Create, Destroy, Add as AddEntry, Remove, Clear, SwapWith, ListEntries}

-- the command on a table changes it
abbrev pub changes_table : TableCommand → Bool
changes_table (Create kind) = true
changes_table Destroy = true
changes_table (AddEntry key value) = true
changes_table (Remove key) = true
changes_table Clear = true
changes_table (SwapWith other) = true
changes_table ListEntries = false

-- the command makes an edition
abbrev pub is_changing : Command → Bool
is_changing (Add draft) = true
is_changing (Delete numbers) = true
is_changing (DeleteSet set) = true
is_changing Flush = true
is_changing (Zero numbers) = true
is_changing ListRules = false
is_changing (SetMask disable enable) = true
is_changing (MoveSet from to) = true
is_changing (MoveRule number to) = true
is_changing (SwapSets first second) = true
is_changing (Table name command) = changes_table command
is_changing (Sysctl setting value) = true
is_changing (Local addresses) = true

-- the command isn't a listing
abbrev pub IsChanging : Command → Type 0
IsChanging command = is_changing command ≡ true
