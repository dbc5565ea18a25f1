-- The commands on tables (ipfw(8), "LOOKUP TABLES"): their words behind `table`.
use Rattle.std.specs.Prelude.{ℕ, Bool, ◌&&◌, ◌==◌, if◌then◌else◌, Result, Ok, List, [], ◌∷◌, codes}
use Rattle.std.specs.List.{list_any}
use Rattle.fw_rule.specs.declared.command.Command.{Command}
use Rattle.fw_rule.specs.declared.command.Command.TheVariants.{Table}
use Rattle.fw_rule.specs.declared.table_command.Key.{Key}
use Rattle.fw_rule.specs.declared.table_command.Key.TheVariants.{Net, Number}
use Rattle.fw_rule.specs.declared.table_command.TableCommand.{TableCommand}
use Rattle.fw_rule.specs.declared.table_command.TableCommand.TheVariants.{Create, Destroy, Add, Remove, Clear, SwapWith, ListEntries}
use Rattle.fw_rule.specs.declared.table_command.TableType.{TableType}
use Rattle.fw_rule.specs.declared.table_command.TableType.TheVariants.{Addresses, Numbers}
use Rattle.ipfw_parser.specs.declared.kind.Kind.TheVariants.{UnknownWord, BadAddress}
use Rattle.ipfw_parser.specs.Reading.{Word, Fault, WordReading, fault_at, ◌>>=◌, same, first}
use Rattle.ipfw_parser.specs.Numbers.{number}
use Rattle.ipfw_parser.specs.Names.{table_name}
use Rattle.ipfw_parser.specs.Addresses.{prefix}
use Rattle.ipfw_parser.specs.Addresses6.{has_colon}
use Rattle.fw_command.specs.Ends.{result_at_end}

-- a dot stands in the text
unfoldable pub has_dot : List ℕ → Bool
has_dot text = list_any (λ byte. byte == 46) text

-- A prefix or an address where the word has a dot, else a number. Keys are IPv4: with a dot and a colon the
-- word is neither.
unfoldable pub key : Word → Result Key Fault
key word =
    if has_dot word.text && has_colon word.text then fault_at word.column BadAddress
    else if has_dot word.text then (prefix word >>= λ n. Ok (Net n))
    else (number 0 4294967295 word >>= λ n. Ok (Number n))

-- the type that stands behind `type`
unfoldable pub table_type : Word → Result TableType Fault
table_type word =
    if same word.text (codes "addr") then Ok Addresses
    else if same word.text (codes "number") then Ok Numbers
    else fault_at word.column UnknownWord

-- behind `type`
unfoldable pub type_behind : ℕ → List Word → WordReading TableCommand
type_behind end words = do
  next ← first end words
  kind ← table_type next.0
  Ok (Create kind, next.1)

-- behind `create`: `type` and a type; a table without one holds addresses
unfoldable pub create : ℕ → List Word → WordReading TableCommand
create end [] = Ok (Create Addresses, [])
create end (word ∷ words) = if same word.text (codes "type") then type_behind end words else Ok (Create Addresses, word ∷ words)

-- the value behind a key, 0 where none is given
unfoldable pub value : List Word → WordReading ℕ
value [] = Ok (0, [])
value (word ∷ words) = do
  n ← number 0 4294967295 word
  Ok (n, words)

-- behind `add`: a key and its value
unfoldable pub add_entry_command : ℕ → List Word → WordReading TableCommand
add_entry_command end words = do
  next ← first end words
  at ← key next.0
  found ← value next.1
  Ok (Add at found.0, found.1)

-- behind `delete`: a key
unfoldable pub remove_entry : ℕ → List Word → WordReading TableCommand
remove_entry end words = do
  next ← first end words
  at ← key next.0
  Ok (Remove at, next.1)

-- behind `swap`: a table's name
unfoldable pub swap_with : ℕ → List Word → WordReading TableCommand
swap_with end words = do
  next ← first end words
  name ← table_name next.0
  Ok (SwapWith name, next.1)

-- behind the table's name
unfoldable pub table_command : ℕ → List Word → WordReading TableCommand
table_command end words = do
  next ← first end words
  (if same next.0.text (codes "create") then create end next.1
      else if same next.0.text (codes "destroy") then Ok (Destroy, next.1)
      else if same next.0.text (codes "flush") then Ok (Clear, next.1)
      else if same next.0.text (codes "list") then Ok (ListEntries, next.1)
      else if same next.0.text (codes "add") then add_entry_command end next.1
      else if same next.0.text (codes "delete") then remove_entry end next.1
      else if same next.0.text (codes "swap") then swap_with end next.1
      else fault_at next.0.column UnknownWord)

-- behind `table`
unfoldable pub table : ℕ → List Word → Result Command Fault
table end words = do
  named ← first end words
  name ← table_name named.0
  made ← table_command end named.1
  result_at_end (Table name made.0) made.1
