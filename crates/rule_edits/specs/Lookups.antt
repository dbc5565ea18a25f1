-- What commands do with lookup tables (ipfw(8), "LOOKUP TABLES").
use Rattle.std.specs.Prelude.{ℕ, Bool, true, false, if◌then◌else◌, is_some, Option, Some, None, Ok, Err, List, [], ◌∷◌}
use Rattle.std.specs.Ordering.{nat_cmp}
use Rattle.std.specs.List.{list_any}
use Rattle.fw_rule.specs.declared.table_command.Key.{Key}
use Rattle.fw_rule.specs.declared.table_command.Key.TheVariants.{Net, Number}
use Rattle.fw_rule.specs.declared.rule.Rule.{Rule}
use Rattle.fw_rule.specs.declared.table_command.TableCommand.{TableCommand}
use Rattle.fw_rule.specs.declared.table_command.TableCommand.TheVariants.{Create, Destroy, Add, Remove, Clear, SwapWith, ListEntries}
use Rattle.fw_rule.specs.declared.table_command.TableType.{TableType}
use Rattle.fw_rule.specs.declared.table_command.TableType.TheVariants.{Addresses, Numbers}
use Rattle.lookup_tables.specs.AddrTable.{network_cmp}
use Rattle.lookup_tables.specs.Entries.{value_of, with_entry, without_key}
use Rattle.lookup_tables.specs.Tables.{NamedTables, name_cmp, table_named}
use Rattle.lookup_tables.specs.declared.table.Table.{Table}
use Rattle.lookup_tables.specs.declared.table.Table.TheVariants.{Addresses as AddressTable, Numbers as NumberTable}
use Rattle.rule_edits.specs.declared.apply_fault.ApplyFault.TheVariants.{NoSuchTable, EntryExists, NoSuchEntry, TableInUse, WrongType}
use Rattle.rule_edits.specs.Answers.{Answer, ◌>>=◌}
use Rattle.rule_edits.specs.Uses.{Use, names_table}

-- the table under its name, in the place of any other
abbrev pub put_table : NamedTables → List ℕ → Table → NamedTables
put_table tables name table = with_entry name_cmp tables name table

-- a table without entries
abbrev pub empty_table : TableType → Table
empty_table Addresses = AddressTable []
empty_table Numbers = NumberTable []

-- the table has this type
abbrev pub is_of : TableType → Table → Bool
is_of Addresses (AddressTable entries) = true
is_of Addresses (NumberTable entries) = false
is_of Numbers (AddressTable entries) = false
is_of Numbers (NumberTable entries) = true

-- Uses. A table that isn't there is made.

-- a use makes its table where there is none; one of the other type is refused
abbrev pub use_found : NamedTables → Use → Option Table → Answer NamedTables
use_found tables u None = Ok (put_table tables u.name (empty_table u.kind))
use_found tables u (Some table) = if is_of u.kind table then Ok tables else Err WrongType

-- the tables after a use
abbrev pub with_use : NamedTables → Use → Answer NamedTables
with_use tables u = use_found tables u (table_named tables u.name)

-- one use after the other; a use of the wrong type refuses them all
abbrev pub with_uses : NamedTables → List Use → Answer NamedTables
with_uses tables [] = Ok tables
with_uses tables (u ∷ uses) = with_use tables u >>= λ made. with_uses made uses

-- Entries

-- an entry is put in where its key isn't there
abbrev pub answer_to_add : {X : Type 0} → Bool → X → Answer X
answer_to_add there entries = if there then Err EntryExists else Ok entries

-- an entry is taken out where its key is there
abbrev pub answer_to_remove : {X : Type 0} → Bool → X → Answer X
answer_to_remove there entries = if there then Ok entries else Err NoSuchEntry

-- an entry more, of a key that fits the table's type
abbrev pub add_key : Table → Key → ℕ → Answer Table
add_key (AddressTable entries) (Net prefix) value = answer_to_add (is_some (value_of network_cmp entries prefix)) (AddressTable (with_entry network_cmp entries prefix value))
add_key (NumberTable entries) (Number n) value = answer_to_add (is_some (value_of nat_cmp entries n)) (NumberTable (with_entry nat_cmp entries n value))
add_key (AddressTable entries) (Number n) value = Err WrongType
add_key (NumberTable entries) (Net prefix) value = Err WrongType

-- an entry less
abbrev pub remove_key : Table → Key → Answer Table
remove_key (AddressTable entries) (Net prefix) = answer_to_remove (is_some (value_of network_cmp entries prefix)) (AddressTable (without_key network_cmp entries prefix))
remove_key (NumberTable entries) (Number n) = answer_to_remove (is_some (value_of nat_cmp entries n)) (NumberTable (without_key nat_cmp entries n))
remove_key (AddressTable entries) (Number n) = Err WrongType
remove_key (NumberTable entries) (Net prefix) = Err WrongType

-- a table of the same type without an entry
abbrev pub table_without_entries : Table → Table
table_without_entries (AddressTable entries) = AddressTable []
table_without_entries (NumberTable entries) = NumberTable []

-- both are of one type
abbrev pub are_alike : Table → Table → Bool
are_alike (AddressTable entries) (AddressTable others) = true
are_alike (NumberTable entries) (NumberTable others) = true
are_alike (AddressTable entries) (NumberTable others) = false
are_alike (NumberTable entries) (AddressTable others) = false

-- Commands

-- a table that has to be there
abbrev pub existing_table : Option Table → Answer Table
existing_table None = Err NoSuchTable
existing_table (Some table) = Ok table

-- the table of the name, or a new one of addresses
abbrev pub found_or_new : Option Table → Table
found_or_new None = AddressTable []
found_or_new (Some table) = table

-- `table NAME create`
unfoldable pub create_table : NamedTables → List ℕ → TableType → Answer NamedTables
create_table tables name kind = if is_some (table_named tables name) then Err EntryExists else Ok (put_table tables name (empty_table kind))

-- `table NAME destroy`; not where a rule names it
unfoldable pub destroy_table : NamedTables → List Rule → List ℕ → Answer NamedTables
destroy_table tables rules name = do
  table ← existing_table (table_named tables name)
  if list_any (names_table name) rules then Err TableInUse else Ok (without_key name_cmp tables name)

-- `table NAME add`, which makes the table where there is none
unfoldable pub add_entry : NamedTables → List ℕ → Key → ℕ → Answer NamedTables
add_entry tables name key value = do
  table ← add_key (found_or_new (table_named tables name)) key value
  Ok (put_table tables name table)

-- `table NAME delete`
unfoldable pub remove_entry_of : NamedTables → List ℕ → Key → Answer NamedTables
remove_entry_of tables name key = do
  table ← existing_table (table_named tables name)
  rest ← remove_key table key
  Ok (put_table tables name rest)

-- `table NAME flush`
unfoldable pub clear_table : NamedTables → List ℕ → Answer NamedTables
clear_table tables name = do
  table ← existing_table (table_named tables name)
  Ok (put_table tables name (table_without_entries table))

-- `table NAME swap`, of tables of one type
unfoldable pub swap_tables : NamedTables → List ℕ → List ℕ → Answer NamedTables
swap_tables tables name other = do
  first ← existing_table (table_named tables name)
  second ← existing_table (table_named tables other)
  if are_alike first second then Ok (put_table (put_table tables name second) other first) else Err WrongType

-- `list` changes nothing, and is answered by who prints
abbrev pub change_tables : NamedTables → List Rule → List ℕ → TableCommand → Answer NamedTables
change_tables tables rules name (Create kind) = create_table tables name kind
change_tables tables rules name Destroy = destroy_table tables rules name
change_tables tables rules name (Add key value) = add_entry tables name key value
change_tables tables rules name (Remove key) = remove_entry_of tables name key
change_tables tables rules name Clear = clear_table tables name
change_tables tables rules name (SwapWith other) = swap_tables tables name other
change_tables tables rules name ListEntries = Ok tables
