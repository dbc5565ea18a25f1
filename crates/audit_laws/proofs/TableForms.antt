-- The entries of tables stay in their ranges, whatever a command does with them.
use Rattle.std.proofs.Common.{◌≡◌, ℕ, Bool, true, false, cond, if◌then◌else◌, is_some, Option, None, Some, IfSome, Ok, Err, List, [], ◌∷◌, refl, subst, Ordering, Less, Equal, Greater}
use Rattle.std.specs.BTreeMap.{insert_entry}
use Rattle.std.specs.List.{AllByRecursion, list_any}
use Rattle.std.specs.Map.{remove_entry}
use Rattle.std.specs.Ordering.{match_ordering, nat_cmp}
use Rattle.fw_rule.specs.WellFormed.{IsKey, IsTableCommand, IsValue}
use Rattle.fw_rule.specs.declared.rule.Rule.{Rule}
use Rattle.fw_rule.specs.declared.table_command.Key.{Key}
use Rattle.fw_rule.specs.declared.table_command.Key.TheVariants.{Net, Number}
use Rattle.fw_rule.specs.declared.table_command.TableCommand.{TableCommand}
use Rattle.fw_rule.specs.declared.table_command.TableCommand.TheVariants.{Create, Destroy, Add, Remove, Clear, SwapWith, ListEntries}
use Rattle.fw_rule.specs.declared.table_command.TableType.{TableType}
use Rattle.fw_rule.specs.declared.table_command.TableType.TheVariants.{Addresses, Numbers}
use Rattle.lookup_tables.specs.AddrTable.{network_cmp}
use Rattle.lookup_tables.specs.Entries.{value_of}
use Rattle.lookup_tables.specs.Tables.{NamedTables, name_cmp, table_named}
use Rattle.lookup_tables.specs.declared.table.Table.{Table}
use Rattle.lookup_tables.specs.declared.table.Table.TheVariants.{Addresses as AddressTable, Numbers as NumberTable}
use Rattle.rule_edits.specs.Answers.{Answer, ◌>>=◌}
use Rattle.rule_edits.specs.Lookups.{add_entry, add_key, are_alike, change_tables, clear_table, create_table, destroy_table, empty_table, existing_table, found_or_new, is_of, put_table, remove_entry_of, remove_key, swap_tables, table_without_entries, use_found, with_uses}
use Rattle.rule_edits.specs.Uses.{Use, names_table}
use Rattle.rule_edits.specs.declared.apply_fault.ApplyFault.{ApplyFault}
use Rattle.audit_laws.proofs.Configs.{table_in_range}
use Rattle.audit_laws.specs.Printable.{IsPrintableNetwork, IsPrintableNumber, IsPrintableTable}

-- tables whose entries are in their ranges
abbrev pub ArePrintable : NamedTables → Type 0
ArePrintable tables = AllByRecursion (λ named. IsPrintableTable named.1) tables

-- ---- entries

module _ {K X : Type 0} (cmp : K → K → Ordering) (P : K × X → Type 0) where
  -- an entry more, in its place
  inserted : (entries : List (K × X)) (key : K) (value : X) → ((other : K × X) → P other → P (other.0, value)) → P (key, value) → AllByRecursion P entries → AllByRecursion P (insert_entry cmp entries key value)
  inserted [] key value again one all = (one, tt)
  inserted (entry ∷ entries) key value again one all =
      let rest = inserted entries key value again one all.1 in
      elim (cmp key entry.0) as (λ order. AllByRecursion P (match_ordering order ((key, value) ∷ entry ∷ entries) ((entry.0, value) ∷ entries) (entry ∷ insert_entry cmp entries key value))) [
        | Less ↦ (one, all)
        | Equal ↦ (again entry all.0, all.1)
        | Greater ↦ (all.0, rest)
      ]

-- an entry less
removed : {K X : Type 0} (test : K → Bool) (P : K × X → Type 0) (entries : List (K × X)) → AllByRecursion P entries → AllByRecursion P (remove_entry test entries)
removed test P [] all = tt
removed test P (entry ∷ entries) all =
    let rest = removed test P entries all.1 in
    elim (test entry.0) as (λ b. AllByRecursion P (cond b entries (entry ∷ remove_entry test entries))) [ true ↦ all.1 | false ↦ (all.0, rest) ]

-- a table under its name
pub put : (tables : NamedTables) (name : List ℕ) (table : Table) → IsPrintableTable table → ArePrintable tables → ArePrintable (put_table tables name table)
put tables name table one all = inserted name_cmp (λ named. IsPrintableTable named.1) tables name table (λ other is. one) one all

-- ---- answers

-- what is answered where nothing is refused
answered : {X : Type 0} (made after : X) → (let answer : Answer X = Ok made in answer) ≡ Ok after → made ≡ after
answered made after is = cc

if_ok : {X : Type 0} (test : Bool) (fault : ApplyFault) (made after : X) (P : X → Type 0) → P made → (let answer : Answer X = if test then Err fault else Ok made in answer) ≡ Ok after → P after
if_ok true fault made after P one is = absurd (cc)
if_ok false fault made after P one is = subst P (answered made after is) one

-- and the other way round
ok_if : {X : Type 0} (test : Bool) (fault : ApplyFault) (made after : X) (P : X → Type 0) → P made → (let answer : Answer X = if test then Ok made else Err fault in answer) ≡ Ok after → P after
ok_if true fault made after P one is = subst P (answered made after is) one
ok_if false fault made after P one is = absurd (cc)

-- the second step's, of what the first one answers
pub behind : {X Y : Type 0} (first : Answer X) (next : X → Answer Y) (after : Y) (P : X → Type 0) (Q : Y → Type 0) → ((x : X) → first ≡ Ok x → P x) → ((x : X) → P x → next x ≡ Ok after → Q after) → (first >>= next) ≡ Ok after → Q after
behind (Err fault) next after P Q one two is = absurd (cc)
behind (Ok x) next after P Q one two is = two x (one x refl) is

-- ---- tables

empty_in_range : (kind : TableType) → IsPrintableTable (empty_table kind)
empty_in_range Addresses = tt
empty_in_range Numbers = tt

cleared : (table : Table) → IsPrintableTable (table_without_entries table)
cleared (AddressTable entries) = tt
cleared (NumberTable entries) = tt

-- the table that has to be there is in its ranges
there : (found : Option Table) → IfSome found IsPrintableTable → (table : Table) → existing_table found ≡ Ok table → IsPrintableTable table
there None all table is = absurd (cc)
there (Some other) all table is = subst IsPrintableTable (answered other table is) all

new_or_there : (found : Option Table) → IfSome found IsPrintableTable → IsPrintableTable (found_or_new found)
new_or_there None all = tt
new_or_there (Some table) all = all

key_added : (table : Table) (key : Key) (value : ℕ) → IsPrintableTable table → IsKey key → IsValue value → (after : Table) → add_key table key value ≡ Ok after → IsPrintableTable after
key_added (AddressTable entries) (Net prefix) value all in_range fits after is =
    if_ok (is_some (value_of network_cmp entries prefix)) _ _ after IsPrintableTable
    (inserted network_cmp IsPrintableNetwork entries prefix value (λ other one. record { bits = one.bits; value = fits }) (record { bits = in_range; value = fits }) all) is
key_added (AddressTable entries) (Number n) value all in_range fits after is = absurd (cc)
key_added (NumberTable entries) (Net prefix) value all in_range fits after is = absurd (cc)
key_added (NumberTable entries) (Number n) value all in_range fits after is =
    if_ok (is_some (value_of nat_cmp entries n)) _ _ after IsPrintableTable
    (inserted nat_cmp IsPrintableNumber entries n value (λ other one. record { key = one.key; value = fits }) (record { key = in_range; value = fits }) all) is

key_removed : (table : Table) (key : Key) → IsPrintableTable table → (after : Table) → remove_key table key ≡ Ok after → IsPrintableTable after
key_removed (AddressTable entries) (Net prefix) all after is = ok_if (is_some (value_of network_cmp entries prefix)) _ _ after IsPrintableTable (removed _ IsPrintableNetwork entries all) is
key_removed (AddressTable entries) (Number n) all after is = absurd (cc)
key_removed (NumberTable entries) (Net prefix) all after is = absurd (cc)
key_removed (NumberTable entries) (Number n) all after is = ok_if (is_some (value_of nat_cmp entries n)) _ _ after IsPrintableTable (removed _ IsPrintableNumber entries all) is

used : (tables : NamedTables) (u : Use) (found : Option Table) → ArePrintable tables → (after : NamedTables) → use_found tables u found ≡ Ok after → ArePrintable after
used tables u None all after is = subst ArePrintable (answered _ after is) (put tables u.name (empty_table u.kind) (empty_in_range u.kind) all)
used tables u (Some table) all after is = ok_if (is_of u.kind table) _ _ after ArePrintable all is

-- the tables that a rule uses, and those that there were
pub uses_made : (tables : NamedTables) (uses : List Use) → ArePrintable tables → (after : NamedTables) → with_uses tables uses ≡ Ok after → ArePrintable after
uses_made tables [] all after is = subst ArePrintable (answered tables after is) all
uses_made tables (u ∷ uses) all after is =
    behind (use_found tables u (table_named tables u.name)) _ after ArePrintable ArePrintable (used tables u (table_named tables u.name) all) (λ made one. uses_made made uses one after) is

-- ---- commands

both_put : (tables : NamedTables) (name other : List ℕ) (first second : Table) → IsPrintableTable first → IsPrintableTable second → ArePrintable tables → ArePrintable (put_table (put_table tables name second) other first)
both_put tables name other first second one two all = put (put_table tables name second) other first one (put tables name second two all)

-- what a command on a table leaves
pub tables_kept : (tables : NamedTables) (rules : List Rule) (name : List ℕ) (command : TableCommand) → ArePrintable tables → IsTableCommand command → (after : NamedTables) → change_tables tables rules name command ≡ Ok after → ArePrintable after
unfolding create_table destroy_table add_entry remove_entry_of clear_table swap_tables
tables_kept tables rules name (Create kind) all in_range after is =
    if_ok (is_some (table_named tables name)) _ _ after ArePrintable (put tables name (empty_table kind) (empty_in_range kind) all) is
tables_kept tables rules name Destroy all in_range after is =
    behind (existing_table (table_named tables name)) _ after (λ table. Unit {0}) ArePrintable (λ table is. tt)
    (λ table one. if_ok (list_any (names_table name) rules) _ _ after ArePrintable (removed _ (λ named. IsPrintableTable named.1) tables all)) is
tables_kept tables rules name (Add key value) all in_range after is =
    behind (add_key (found_or_new (table_named tables name)) key value) _ after IsPrintableTable ArePrintable
    (key_added (found_or_new (table_named tables name)) key value (new_or_there (table_named tables name) (table_in_range tables name all)) in_range.0 in_range.1)
    (λ table one is. subst ArePrintable (answered _ after is) (put tables name table one all)) is
tables_kept tables rules name (Remove key) all in_range after is =
    behind (existing_table (table_named tables name)) _ after IsPrintableTable ArePrintable (there (table_named tables name) (table_in_range tables name all))
    (λ table one. behind (remove_key table key) _ after IsPrintableTable ArePrintable (key_removed table key one) (λ rest left is. subst ArePrintable (answered _ after is) (put tables name rest left all))) is
tables_kept tables rules name Clear all in_range after is =
    behind (existing_table (table_named tables name)) _ after (λ table. Unit {0}) ArePrintable (λ table is. tt)
    (λ table one is. subst ArePrintable (answered _ after is) (put tables name (table_without_entries table) (cleared table) all)) is
tables_kept tables rules name (SwapWith other) all in_range after is =
    behind (existing_table (table_named tables name)) _ after IsPrintableTable ArePrintable (there (table_named tables name) (table_in_range tables name all))
    (λ first one. behind (existing_table (table_named tables other)) _ after IsPrintableTable ArePrintable (there (table_named tables other) (table_in_range tables other all))
    (λ second two. ok_if (are_alike first second) _ _ after ArePrintable (both_put tables name other first second one two all))) is
tables_kept tables rules name ListEntries all in_range after is = subst ArePrintable (answered tables after is) all
