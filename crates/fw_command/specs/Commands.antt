-- The commands of a script but `add` (ipfw(8), "SYNOPSIS"), by the words behind the first.
use Rattle.std.specs.Prelude.{ℕ, if◌then◌else◌, Result, Ok, List, codes}
use Rattle.fw_base.specs.declared.address.Addr.{Addr}
use Rattle.fw_rule.specs.declared.command.Command.{Command}
use Rattle.fw_rule.specs.declared.command.Command.TheVariants.{Delete, DeleteSet, Flush, Zero, ListRules, Local}
use Rattle.ipfw_parser.specs.declared.kind.Kind.TheVariants.{UnknownWord}
use Rattle.ipfw_parser.specs.Reading.{Word, Fault, fault_at, ◌>>=◌, same, first}
use Rattle.ipfw_parser.specs.Numbers.{number}
use Rattle.ipfw_parser.specs.Addresses.{address as address_number}
use Rattle.ipfw_parser.specs.Rules.{set_behind}
use Rattle.fw_command.specs.Ends.{result_at_end, each_word}
use Rattle.fw_command.specs.SetCommands.{set_command}
use Rattle.fw_command.specs.TableCommands.{table}
use Rattle.fw_command.specs.SettingCommands.{sysctl}

-- numbers of rules, 1 to 65535, up to the line's end
unfoldable pub numbers : List Word → Result (List ℕ) Fault
numbers words = each_word (number 1 65535) words

-- behind `delete set`
unfoldable pub delete_set_command : ℕ → List Word → Result Command Fault
delete_set_command end words = do
  which ← set_behind end words
  result_at_end (DeleteSet which.0) which.1

-- behind `delete`: `set` and a set, or numbers of rules, at least one
unfoldable pub delete : ℕ → List Word → Result Command Fault
delete end words = do
  next ← first end words
  if same next.0.text (codes "set") then delete_set_command end next.1 else (numbers words >>= λ found. Ok (Delete found))

-- behind `zero`: numbers of rules
unfoldable pub zero_command : List Word → Result Command Fault
zero_command words = numbers words >>= λ found. Ok (Zero found)

-- one address of `local`: four numbers, without a prefix's length
unfoldable pub local_address : Word → Result Addr Fault
local_address word = address_number word >>= λ a. Ok (record { 0 = a })

-- addresses up to the line's end
unfoldable pub addresses : List Word → Result (List Addr) Fault
addresses words = each_word local_address words

-- behind `local`: addresses, at least one
unfoldable pub local : ℕ → List Word → Result Command Fault
local end words = do
  next ← first end words
  found ← addresses words
  Ok (Local found)

-- a command that begins with this word
unfoldable pub command : ℕ → Word → List Word → Result Command Fault
command end word words =
    if same word.text (codes "delete") then delete end words
    else if same word.text (codes "flush") then result_at_end Flush words
    else if same word.text (codes "zero") then zero_command words
    else if same word.text (codes "list") then result_at_end ListRules words
    else if same word.text (codes "set") then set_command end words
    else if same word.text (codes "table") then table end words
    else if same word.text (codes "sysctl") then sysctl end words
    else if same word.text (codes "local") then local end words
    else fault_at word.column UnknownWord
