-- Each number of a command is in its range.
use Rattle.std.proofs.Common.{◌<◌, ◌^◌, ℕ, Bool, true, false, Option, Some, None, List, [], ◌∷◌, Result, arith}
use Rattle.std.specs.Prelude.{IfOk, bit_or, codes, ◌&&◌}
use Rattle.std.specs.List.{AllByRecursion}
use Rattle.std.proofs.lemmas.Nat.{or_of_32}
use Rattle.std.proofs.Math.Pow.{pow_mono}
use Rattle.fw_base.specs.Prefix.{IsNetwork}
use Rattle.fw_rule.specs.declared.setting.Setting.{Setting}
use Rattle.fw_rule.specs.declared.setting.Setting.TheVariants.{Ack, Syn, Fin, Rst, Udp, Short, Max, Keep}
use Rattle.fw_rule.specs.declared.table_command.TableCommand.{TableCommand}
use Rattle.fw_rule.specs.Settings.{IsInRange}
use Rattle.fw_rule.specs.WellFormed.{IsFromTo, IsNumber, IsSet, IsValue, IsKey, IsTableCommand, IsWellFormed}
use Rattle.ipfw_parser.specs.Reading.{Word, Fault, ◌>>=◌, first, words_behind_word, same}
use Rattle.ipfw_parser.specs.Numbers.{number, set_number}
use Rattle.ipfw_parser.specs.Names.{table_name}
use Rattle.ipfw_parser.specs.Addresses.{prefix, part_before, part_behind}
use Rattle.ipfw_parser.specs.Addresses6.{has_colon}
use Rattle.ipfw_parser.specs.Rules.{set_behind}
use Rattle.fw_command.specs.Ends.{first_number}
use Rattle.fw_command.specs.SetCommands.{set_bit, ends_sets, more_sets, sets, enable, disable_end, disable, move_rule_command, move_set_command, move_words, swap_sets_command, set_command}
use Rattle.fw_command.specs.TableCommands.{has_dot, key, table_type, type_behind, create, value, add_entry_command, remove_entry, swap_with, table_command, table}
use Rattle.fw_command.specs.SettingCommands.{setting, least, most, without_prefix, set_to, assignment, sysctl}
use Rattle.fw_command.specs.Commands.{numbers, delete_set_command, delete, zero_command, addresses, local, command}
use Rattle.fw_command.proofs.OnResults.{any, on_if, finished_on, each_on}
use Rattle.ipfw_parser.proofs.Forms.Numbers.{number_on, set_on}
use Rattle.ipfw_parser.proofs.Forms.Items.{prefix_on}
use Rattle.ipfw_parser.proofs.Forms.Following.{on_bind}

-- the first word, whatever it is
after_first : {Y : Type 0} (end : ℕ) (words : List Word) (f : Word × List Word → Result Y Fault) (Q : Y → Type 0) → ((next : Word × List Word) → IfOk (f next) Q) → IfOk (first end words >>= f) Q
after_first end words f Q each = on_bind (first end words) f (λ _. Unit {0}) Q (any (first end words)) (λ next u. each next)

-- a number that is read of the next word is in its range
pub first_number_on : (least most end : ℕ) (words : List Word) → IfOk (first_number least most end words) (λ r. IsFromTo least most r.0)
unfolding first_number
first_number_on least most end words =
    after_first end words _ (λ r. IsFromTo least most r.0) (λ next.
    on_bind (number least most next.0) _ (IsFromTo least most) (λ r. IsFromTo least most r.0) (number_on least most next.0) (λ n p. p))

set_behind_on : (end : ℕ) (words : List Word) → IfOk (set_behind end words) (λ r. IsSet r.0)
unfolding set_behind
set_behind_on end words =
    after_first end words _ (λ r. IsSet r.0) (λ next. on_bind (set_number next.0) _ IsSet (λ r. IsSet r.0) (set_on next.0) (λ n p. p))

after_word : {Y : Type 0} (name : List ℕ) (end : ℕ) (words : List Word) (f : List Word → Result Y Fault) (Q : Y → Type 0) → ((rest : List Word) → IfOk (f rest) Q) → IfOk (words_behind_word name end words >>= f) Q
after_word name end words f Q each = on_bind (words_behind_word name end words) f (λ _. Unit {0}) Q (any (words_behind_word name end words)) (λ rest u. each rest)

-- a mask of sets
abbrev IsMask : ℕ → Type 0
IsMask mask = mask < 2 ^ 32

set_bit_on : (word : Word) → IfOk (set_bit word) IsMask
unfolding set_bit
set_bit_on word = on_bind (set_number word) _ IsSet IsMask (set_on word) (λ n p. omega (arith, pow_mono {i = n} {j = 31} p))

more_sets_on : (to_enable : Bool) (mask : ℕ) (words : List Word) → IsMask mask → IfOk (more_sets to_enable mask words) (λ r. IsMask r.0)
unfolding more_sets
more_sets_on to_enable mask [] small = small
more_sets_on to_enable mask (word ∷ words) small =
    on_if (ends_sets to_enable word.text) _ _ (λ r. IsMask r.0) small
    (on_bind (set_bit word) _ IsMask (λ r. IsMask r.0) (set_bit_on word) (λ bit p. more_sets_on to_enable (bit_or mask bit) words (or_of_32 mask bit small p)))

sets_on : (to_enable : Bool) (end : ℕ) (words : List Word) → IfOk (sets to_enable end words) (λ r. IsMask r.0)
unfolding sets
sets_on to_enable end words =
    after_first end words _ (λ r. IsMask r.0) (λ next.
    on_bind (set_bit next.0) _ IsMask (λ r. IsMask r.0) (set_bit_on next.0) (λ bit p. more_sets_on to_enable bit next.1 p))

enable_on : (disabled end : ℕ) (words : List Word) → IsMask disabled → IfOk (enable disabled end words) IsWellFormed
unfolding enable
enable_on disabled end words small =
    on_bind (sets false end words) _ (λ r. IsMask r.0) IsWellFormed (sets_on false end words) (λ enabled p. (omega arith, omega arith))

disable_end_on : (disabled end : ℕ) (words : List Word) → IsMask disabled → IfOk (disable_end disabled end words) IsWellFormed
unfolding disable_end
disable_end_on disabled end [] small = (omega arith, omega arith)
disable_end_on disabled end (word ∷ words) small = enable_on disabled end words small

disable_on : (end : ℕ) (words : List Word) → IfOk (disable end words) IsWellFormed
unfolding disable
disable_on end words = on_bind (sets true end words) _ (λ r. IsMask r.0) IsWellFormed (sets_on true end words) (λ disabled p. disable_end_on disabled.0 end disabled.1 p)

move_rule_command_on : (end : ℕ) (words : List Word) → IfOk (move_rule_command end words) IsWellFormed
unfolding move_rule_command
move_rule_command_on end words =
    on_bind (first_number 1 65535 end words) _ (λ r. IsNumber r.0) IsWellFormed (first_number_on 1 65535 end words) (λ which p.
    after_word (codes "to") end which.1 _ IsWellFormed (λ rest.
    on_bind (set_behind end rest) _ (λ r. IsSet r.0) IsWellFormed (set_behind_on end rest) (λ target q. finished_on _ target.1 IsWellFormed (p, q))))

move_set_command_on : (end : ℕ) (words : List Word) → IfOk (move_set_command end words) IsWellFormed
unfolding move_set_command
move_set_command_on end words =
    on_bind (set_behind end words) _ (λ r. IsSet r.0) IsWellFormed (set_behind_on end words) (λ which p.
    after_word (codes "to") end which.1 _ IsWellFormed (λ rest.
    on_bind (set_behind end rest) _ (λ r. IsSet r.0) IsWellFormed (set_behind_on end rest) (λ target q. finished_on _ target.1 IsWellFormed (p, q))))

move_words_on : (end : ℕ) (words : List Word) → IfOk (move_words end words) IsWellFormed
unfolding move_words
move_words_on end words =
    after_first end words _ IsWellFormed (λ next. on_if (same next.0.text (codes "rule")) _ _ IsWellFormed (move_rule_command_on end next.1) (move_set_command_on end words))

swap_sets_command_on : (end : ℕ) (words : List Word) → IfOk (swap_sets_command end words) IsWellFormed
unfolding swap_sets_command
swap_sets_command_on end words =
    on_bind (set_behind end words) _ (λ r. IsSet r.0) IsWellFormed (set_behind_on end words) (λ one p.
    on_bind (set_behind end one.1) _ (λ r. IsSet r.0) IsWellFormed (set_behind_on end one.1) (λ other q. finished_on _ other.1 IsWellFormed (p, q)))

set_command_on : (end : ℕ) (words : List Word) → IfOk (set_command end words) IsWellFormed
unfolding set_command
set_command_on end words =
    after_first end words _ IsWellFormed (λ next.
    on_if (same next.0.text (codes "disable")) _ _ IsWellFormed (disable_on end next.1)
    (on_if (same next.0.text (codes "enable")) _ _ IsWellFormed (enable_on 0 end next.1 (omega arith))
    (on_if (same next.0.text (codes "move")) _ _ IsWellFormed (move_words_on end next.1)
    (on_if (same next.0.text (codes "swap")) _ _ IsWellFormed (swap_sets_command_on end next.1) tt))))

key_on : (word : Word) → IfOk (key word) IsKey
unfolding key
key_on word =
    on_if (has_dot word.text && has_colon word.text) _ _ IsKey tt
    (on_if (has_dot word.text) _ _ IsKey
    (on_bind (prefix word) _ (λ n. IsNetwork n × (n.address < 2 ^ 32)) IsKey (prefix_on word) (λ n p. p.0.within))
    (on_bind (number 0 4294967295 word) _ (IsFromTo 0 4294967295) IsKey (number_on 0 4294967295 word) (λ n p. p.most_ge)))

-- a command on a table, before the words that are left
abbrev IsMade : TableCommand × List Word → Type 0
IsMade made = IsTableCommand made.0

type_behind_on : (end : ℕ) (words : List Word) → IfOk (type_behind end words) IsMade
unfolding type_behind
type_behind_on end words =
    after_first end words _ IsMade (λ next. on_bind (table_type next.0) _ (λ _. Unit {0}) IsMade (any (table_type next.0)) (λ kind u. tt))

create_on : (end : ℕ) (words : List Word) → IfOk (create end words) IsMade
unfolding create
create_on end [] = tt
create_on end (word ∷ words) = on_if (same word.text (codes "type")) _ _ IsMade (type_behind_on end words) tt

value_on : (words : List Word) → IfOk (value words) (λ r. IsValue r.0)
unfolding value
value_on [] = omega arith
value_on (word ∷ words) = on_bind (number 0 4294967295 word) _ (IsFromTo 0 4294967295) (λ r. IsValue r.0) (number_on 0 4294967295 word) (λ n p. p.most_ge)

add_entry_command_on : (end : ℕ) (words : List Word) → IfOk (add_entry_command end words) IsMade
unfolding add_entry_command
add_entry_command_on end words =
    after_first end words _ IsMade (λ next.
    on_bind (key next.0) _ IsKey IsMade (key_on next.0) (λ at p.
    on_bind (value next.1) _ (λ r. IsValue r.0) IsMade (value_on next.1) (λ found q. (p, q))))

remove_entry_on : (end : ℕ) (words : List Word) → IfOk (remove_entry end words) IsMade
unfolding remove_entry
remove_entry_on end words = after_first end words _ IsMade (λ next. on_bind (key next.0) _ IsKey IsMade (key_on next.0) (λ at p. p))

swap_with_on : (end : ℕ) (words : List Word) → IfOk (swap_with end words) IsMade
unfolding swap_with
swap_with_on end words =
    after_first end words _ IsMade (λ next. on_bind (table_name next.0) _ (λ _. Unit {0}) IsMade (any (table_name next.0)) (λ name u. tt))

table_command_on : (end : ℕ) (words : List Word) → IfOk (table_command end words) IsMade
unfolding table_command
table_command_on end words =
    after_first end words _ IsMade (λ next.
    on_if (same next.0.text (codes "create")) _ _ IsMade (create_on end next.1)
    (on_if (same next.0.text (codes "destroy")) _ _ IsMade tt
    (on_if (same next.0.text (codes "flush")) _ _ IsMade tt
    (on_if (same next.0.text (codes "list")) _ _ IsMade tt
    (on_if (same next.0.text (codes "add")) _ _ IsMade (add_entry_command_on end next.1)
    (on_if (same next.0.text (codes "delete")) _ _ IsMade (remove_entry_on end next.1)
    (on_if (same next.0.text (codes "swap")) _ _ IsMade (swap_with_on end next.1) tt)))))))

table_on : (end : ℕ) (words : List Word) → IfOk (table end words) IsWellFormed
unfolding table
table_on end words =
    after_first end words _ IsWellFormed (λ named.
    on_bind (table_name named.0) _ (λ _. Unit {0}) IsWellFormed (any (table_name named.0)) (λ name u.
    on_bind (table_command end named.1) _ IsMade IsWellFormed (table_command_on end named.1) (λ made p. finished_on _ made.1 IsWellFormed p)))

in_range : (which : Setting) (n : ℕ) → IsFromTo (least which) (most which) n → IsInRange which n
in_range Ack n p = record { least = p.least_le; most = p.most_ge }
in_range Syn n p = record { least = p.least_le; most = p.most_ge }
in_range Fin n p = record { least = p.least_le; most = p.most_ge }
in_range Rst n p = record { least = p.least_le; most = p.most_ge }
in_range Udp n p = record { least = p.least_le; most = p.most_ge }
in_range Short n p = record { least = p.least_le; most = p.most_ge }
in_range Max n p = record { least = p.least_le; most = p.most_ge }
in_range Keep n p = p.most_ge

abbrev IsAssigned : Setting × ℕ → Type 0
IsAssigned found = IsInRange found.0 found.1

set_to_on : (column : ℕ) (which : Option Setting) (text : Option (List ℕ)) → IfOk (set_to column which text) IsAssigned
set_to_on column None None = tt
set_to_on column None (Some text) = tt
set_to_on column (Some which) None = tt
set_to_on column (Some which) (Some text) =
    on_bind (number (least which) (most which) (record { column = column; text = text })) _ (IsFromTo (least which) (most which)) IsAssigned (number_on (least which) (most which) (record { column = column; text = text })) (λ n p. in_range which n p)

sysctl_on : (end : ℕ) (words : List Word) → IfOk (sysctl end words) IsWellFormed
unfolding sysctl assignment
sysctl_on end words =
    after_first end words _ IsWellFormed (λ next.
    on_bind (assignment next.0) _ IsAssigned IsWellFormed (set_to_on next.0.column (setting (part_before 61 (without_prefix next.0.text))) (part_behind 61 (without_prefix next.0.text))) (λ found p. finished_on _ next.1 IsWellFormed p))

numbers_on : (words : List Word) → IfOk (numbers words) (AllByRecursion IsNumber)
unfolding numbers
numbers_on words = each_on (number 1 65535) IsNumber (λ word. number_on 1 65535 word) words

delete_set_command_on : (end : ℕ) (words : List Word) → IfOk (delete_set_command end words) IsWellFormed
unfolding delete_set_command
delete_set_command_on end words = on_bind (set_behind end words) _ (λ r. IsSet r.0) IsWellFormed (set_behind_on end words) (λ which p. finished_on _ which.1 IsWellFormed p)

delete_on : (end : ℕ) (words : List Word) → IfOk (delete end words) IsWellFormed
unfolding delete
delete_on end words =
    after_first end words _ IsWellFormed (λ next.
    on_if (same next.0.text (codes "set")) _ _ IsWellFormed (delete_set_command_on end next.1)
    (on_bind (numbers words) _ (AllByRecursion IsNumber) IsWellFormed (numbers_on words) (λ found p. p)))

zero_on : (words : List Word) → IfOk (zero_command words) IsWellFormed
unfolding zero_command
zero_on words = on_bind (numbers words) _ (AllByRecursion IsNumber) IsWellFormed (numbers_on words) (λ found p. p)

local_on : (end : ℕ) (words : List Word) → IfOk (local end words) IsWellFormed
unfolding local
local_on end words = after_first end words _ IsWellFormed (λ next. on_bind (addresses words) _ (λ _. Unit {0}) IsWellFormed (any (addresses words)) (λ found u. tt))

-- each command that is read has its numbers in their ranges
pub command_on : (end : ℕ) (word : Word) (words : List Word) → IfOk (command end word words) IsWellFormed
unfolding command
command_on end word words =
    on_if (same word.text (codes "delete")) _ _ IsWellFormed (delete_on end words)
    (on_if (same word.text (codes "flush")) _ _ IsWellFormed (finished_on _ words IsWellFormed tt)
    (on_if (same word.text (codes "zero")) _ _ IsWellFormed (zero_on words)
    (on_if (same word.text (codes "list")) _ _ IsWellFormed (finished_on _ words IsWellFormed tt)
    (on_if (same word.text (codes "set")) _ _ IsWellFormed (set_command_on end words)
    (on_if (same word.text (codes "table")) _ _ IsWellFormed (table_on end words)
    (on_if (same word.text (codes "sysctl")) _ _ IsWellFormed (sysctl_on end words)
    (on_if (same word.text (codes "local")) _ _ IsWellFormed (local_on end words) tt)))))))
