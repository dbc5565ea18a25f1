-- Each fault of a line stands at a byte that may not stand there, where a word begins, or at the end.
use Rattle.std.proofs.Common.{◌≡◌, ℕ, zero, suc, Bool, true, false, Option, Some, None, Result, Ok, Err, List, [], ◌∷◌, length, map, drop, codes, refl, sym, subst, inl, inr}
use Rattle.std.specs.Prelude.{IfErr, bit_or, ◌&&◌}
use Rattle.fw_lex.specs.Words.{before_comment, first_bad, tokens_of}
use Rattle.fw_rule.specs.declared.setting.Setting.{Setting}
use Rattle.fw_rule.specs.declared.command.Command.TheVariants.{MoveRule, MoveSet}
use Rattle.ipfw_parser.specs.Reading.{Word, Fault, ◌>>=◌, same, words_behind_word, word_at}
use Rattle.ipfw_parser.specs.Numbers.{number, set_number}
use Rattle.ipfw_parser.specs.Names.{table_name}
use Rattle.ipfw_parser.specs.Addresses.{prefix, address as address_number, part_before, part_behind}
use Rattle.ipfw_parser.specs.Addresses6.{has_colon}
use Rattle.ipfw_parser.specs.Rules.{set_behind, rule_in, end_column}
use Rattle.ipfw_parser.specs.Places.{IsColumn}
use Rattle.ipfw_parser.proofs.Places.Words.{At, Told, Within, Any, Rest, bind_at, if_at, bind_told, if_told, bind_word, told_more, rest_more, all_words, one_less, after_first, number_at, set_at, name_at, address_at, prefix_at}
use Rattle.ipfw_parser.proofs.Places.Rules.{expected_in, set_behind_in, rule_stands}
use Rattle.fw_command.specs.Ends.{result_at_end, first_number, each_word}
use Rattle.fw_command.specs.SetCommands.{set_bit, ends_sets, more_sets, sets, enable, disable_end, disable, move_rule_command, move_set_command, move_words, swap_sets_command, set_command}
use Rattle.fw_command.specs.TableCommands.{has_dot, key, table_type, type_behind, create, value, add_entry_command, remove_entry, swap_with, table_command, table}
use Rattle.fw_command.specs.SettingCommands.{setting, least, most, without_prefix, set_to, assignment, sysctl}
use Rattle.fw_command.specs.Commands.{numbers, delete_set_command, delete, zero_command, local_address, addresses, local, command}
use Rattle.fw_command.specs.Statements.{live_statement, after_count, after_statement, statement, addition, words_say, says_unless, says}
use Rattle.fw_command.specs.declared.statement.Statement.{Statement}
use Rattle.fw_command.specs.declared.statement.Statement.TheVariants.{Live}
use Rattle.fw_command.specs.Laws.{IsFaultColumn, FaultsHaveTheirColumns}

finished_in : {X : Type 0} (x : X) (end : ℕ) (words : List Word) → Told end words Any (result_at_end x words)
unfolding result_at_end
finished_in x end [] = tt
finished_in x end (word ∷ words) = inl refl

first_number_in : (least_number most_number end : ℕ) (words : List Word) → Told end words (Rest end words) (first_number least_number most_number end words)
unfolding first_number
first_number_in least_number most_number end words =
    after_first end words _ (Rest end words) (λ next here more.
    bind_word end words next.0.column (number least_number most_number next.0) _ (Rest end words) here (number_at least_number most_number next.0) (λ n. more))

each_word_in : {X : Type 0} (read : Word → Result X Fault) → ((word : Word) → At word.column (read word)) → (end : ℕ) (words : List Word) → Told end words Any (each_word read words)
unfolding each_word
each_word_in read on end [] = tt
each_word_in read on end (word ∷ words) =
    bind_word end (word ∷ words) word.column (read word) _ Any (inl refl) (on word) (λ x.
    bind_told end (word ∷ words) (each_word read words) _ Any Any (told_more end words (word ∷ words) (each_word read words) (one_less end word words) (each_word_in read on end words)) (λ xs u. tt))

numbers_in : (end : ℕ) (words : List Word) → Told end words Any (numbers words)
unfolding numbers
numbers_in end words = each_word_in (number 1 65535) (number_at 1 65535) end words

local_address_at : (word : Word) → At word.column (local_address word)
unfolding local_address
local_address_at word = bind_at word.column (address_number word) _ (address_at word) (λ a. tt)

addresses_in : (end : ℕ) (words : List Word) → Told end words Any (addresses words)
unfolding addresses
addresses_in end words = each_word_in local_address local_address_at end words

delete_set_command_in : (end : ℕ) (words : List Word) → Told end words Any (delete_set_command end words)
unfolding delete_set_command
delete_set_command_in end words =
    bind_told end words (set_behind end words) _ (Rest end words) Any (set_behind_in end words) (λ which more. told_more end which.1 words _ more (finished_in _ end which.1))

delete_in : (end : ℕ) (words : List Word) → Told end words Any (delete end words)
unfolding delete
delete_in end words =
    after_first end words _ Any (λ next here more.
    if_told end words (same next.0.text (codes "set")) (delete_set_command end next.1) _ Any (told_more end next.1 words (delete_set_command end next.1) more (delete_set_command_in end next.1))
    (bind_told end words (numbers words) _ Any Any (numbers_in end words) (λ found u. tt)))

zero_in : (end : ℕ) (words : List Word) → Told end words Any (zero_command words)
unfolding zero_command
zero_in end words = bind_told end words (numbers words) _ Any Any (numbers_in end words) (λ found u. tt)

local_in : (end : ℕ) (words : List Word) → Told end words Any (local end words)
unfolding local
local_in end words = after_first end words _ Any (λ next here more. bind_told end words (addresses words) _ Any Any (addresses_in end words) (λ found u. tt))

set_bit_at : (word : Word) → At word.column (set_bit word)
unfolding set_bit
set_bit_at word = bind_at word.column (set_number word) _ (set_at word) (λ n. tt)

more_sets_in : (to_enable : Bool) (mask end : ℕ) (words : List Word) → Told end words (Rest end words) (more_sets to_enable mask words)
unfolding more_sets
more_sets_in to_enable mask end [] = all_words end []
more_sets_in to_enable mask end (word ∷ words) =
    if_told end (word ∷ words) (ends_sets to_enable word.text) (Ok (mask, word ∷ words)) _ (Rest end (word ∷ words)) (all_words end (word ∷ words))
    (bind_word end (word ∷ words) word.column (set_bit word) _ (Rest end (word ∷ words)) (inl refl) (set_bit_at word) (λ bit.
    rest_more end words (word ∷ words) (more_sets to_enable (bit_or mask bit) words) (one_less end word words) (more_sets_in to_enable (bit_or mask bit) end words)))

sets_in : (to_enable : Bool) (end : ℕ) (words : List Word) → Told end words (Rest end words) (sets to_enable end words)
unfolding sets
sets_in to_enable end words =
    after_first end words _ (Rest end words) (λ next here more.
    bind_word end words next.0.column (set_bit next.0) _ (Rest end words) here (set_bit_at next.0) (λ bit.
    rest_more end next.1 words (more_sets to_enable bit next.1) more (more_sets_in to_enable bit end next.1)))

enable_in : (disabled end : ℕ) (words : List Word) → Told end words Any (enable disabled end words)
unfolding enable
enable_in disabled end words = bind_told end words (sets false end words) _ (Rest end words) Any (sets_in false end words) (λ enabled more. tt)

disable_end_in : (disabled end : ℕ) (words : List Word) → Told end words Any (disable_end disabled end words)
unfolding disable_end
disable_end_in disabled end [] = tt
disable_end_in disabled end (word ∷ words) = told_more end words (word ∷ words) (enable disabled end words) (one_less end word words) (enable_in disabled end words)

disable_in : (end : ℕ) (words : List Word) → Told end words Any (disable end words)
unfolding disable
disable_in end words =
    bind_told end words (sets true end words) _ (Rest end words) Any (sets_in true end words) (λ disabled more.
    told_more end disabled.1 words (disable_end disabled.0 end disabled.1) more (disable_end_in disabled.0 end disabled.1))

-- `to` and a set behind what was read
to_set_in : {X : Type 0} (end : ℕ) (words : List Word) (made : ℕ → X) → Told end words Any (words_behind_word (codes "to") end words >>= λ rest. set_behind end rest >>= λ target. result_at_end (made target.0) target.1)
to_set_in end words made =
    bind_told end words (words_behind_word (codes "to") end words) _ (λ rest. Within end rest words) Any (expected_in (codes "to") end words) (λ rest in_rest.
    told_more end rest words _ in_rest (bind_told end rest (set_behind end rest) _ (Rest end rest) Any (set_behind_in end rest) (λ target more.
    told_more end target.1 rest (result_at_end (made target.0) target.1) more (finished_in (made target.0) end target.1))))

move_rule_command_in : (end : ℕ) (words : List Word) → Told end words Any (move_rule_command end words)
unfolding move_rule_command
move_rule_command_in end words =
    bind_told end words (first_number 1 65535 end words) _ (Rest end words) Any (first_number_in 1 65535 end words) (λ which more. told_more end which.1 words _ more (to_set_in end which.1 (λ n. MoveRule which.0 n)))

move_set_command_in : (end : ℕ) (words : List Word) → Told end words Any (move_set_command end words)
unfolding move_set_command
move_set_command_in end words =
    bind_told end words (set_behind end words) _ (Rest end words) Any (set_behind_in end words) (λ which more. told_more end which.1 words _ more (to_set_in end which.1 (λ n. MoveSet which.0 n)))

move_words_in : (end : ℕ) (words : List Word) → Told end words Any (move_words end words)
unfolding move_words
move_words_in end words =
    after_first end words _ Any (λ next here more.
    if_told end words (same next.0.text (codes "rule")) (move_rule_command end next.1) (move_set_command end words) Any (told_more end next.1 words (move_rule_command end next.1) more (move_rule_command_in end next.1)) (move_set_command_in end words))

swap_sets_command_in : (end : ℕ) (words : List Word) → Told end words Any (swap_sets_command end words)
unfolding swap_sets_command
swap_sets_command_in end words =
    bind_told end words (set_behind end words) _ (Rest end words) Any (set_behind_in end words) (λ one more.
    told_more end one.1 words _ more (bind_told end one.1 (set_behind end one.1) _ (Rest end one.1) Any (set_behind_in end one.1) (λ other less.
    told_more end other.1 one.1 _ less (finished_in _ end other.1))))

set_command_in : (end : ℕ) (words : List Word) → Told end words Any (set_command end words)
unfolding set_command
set_command_in end words =
    after_first end words _ Any (λ next here more.
    if_told end words (same next.0.text (codes "disable")) (disable end next.1) _ Any (told_more end next.1 words (disable end next.1) more (disable_in end next.1))
    (if_told end words (same next.0.text (codes "enable")) (enable 0 end next.1) _ Any (told_more end next.1 words (enable 0 end next.1) more (enable_in 0 end next.1))
    (if_told end words (same next.0.text (codes "move")) (move_words end next.1) _ Any (told_more end next.1 words (move_words end next.1) more (move_words_in end next.1))
    (if_told end words (same next.0.text (codes "swap")) (swap_sets_command end next.1) _ Any (told_more end next.1 words (swap_sets_command end next.1) more (swap_sets_command_in end next.1)) here))))

key_at : (word : Word) → At word.column (key word)
unfolding key
key_at word =
    if_at word.column (has_dot word.text && has_colon word.text) _ _ refl
    (if_at word.column (has_dot word.text) _ _ (bind_at word.column (prefix word) _ (prefix_at word) (λ n. tt))
    (bind_at word.column (number 0 4294967295 word) _ (number_at 0 4294967295 word) (λ n. tt)))

table_type_at : (word : Word) → At word.column (table_type word)
unfolding table_type
table_type_at word =
    if_at word.column (same word.text (codes "addr")) _ _ tt
    (if_at word.column (same word.text (codes "number")) _ _ tt refl)

type_behind_in : (end : ℕ) (words : List Word) → Told end words (Rest end words) (type_behind end words)
unfolding type_behind
type_behind_in end words =
    after_first end words _ (Rest end words) (λ next here more. bind_word end words next.0.column (table_type next.0) _ (Rest end words) here (table_type_at next.0) (λ kind. more))

create_in : (end : ℕ) (words : List Word) → Told end words (Rest end words) (create end words)
unfolding create
create_in end [] = all_words end []
create_in end (word ∷ words) =
    if_told end (word ∷ words) (same word.text (codes "type")) (type_behind end words) _ (Rest end (word ∷ words)) (rest_more end words (word ∷ words) (type_behind end words) (one_less end word words) (type_behind_in end words)) (all_words end (word ∷ words))

value_in : (end : ℕ) (words : List Word) → Told end words (Rest end words) (value words)
unfolding value
value_in end [] = all_words end []
value_in end (word ∷ words) =
    bind_word end (word ∷ words) word.column (number 0 4294967295 word) _ (Rest end (word ∷ words)) (inl refl) (number_at 0 4294967295 word) (λ n. one_less end word words)

add_entry_command_in : (end : ℕ) (words : List Word) → Told end words (Rest end words) (add_entry_command end words)
unfolding add_entry_command
add_entry_command_in end words =
    after_first end words _ (Rest end words) (λ next here more.
    bind_word end words next.0.column (key next.0) _ (Rest end words) here (key_at next.0) (λ at.
    rest_more end next.1 words _ more (bind_told end next.1 (value next.1) _ (Rest end next.1) (Rest end next.1) (value_in end next.1) (λ found less. less))))

remove_entry_in : (end : ℕ) (words : List Word) → Told end words (Rest end words) (remove_entry end words)
unfolding remove_entry
remove_entry_in end words =
    after_first end words _ (Rest end words) (λ next here more. bind_word end words next.0.column (key next.0) _ (Rest end words) here (key_at next.0) (λ at. more))

swap_with_in : (end : ℕ) (words : List Word) → Told end words (Rest end words) (swap_with end words)
unfolding swap_with
swap_with_in end words =
    after_first end words _ (Rest end words) (λ next here more. bind_word end words next.0.column (table_name next.0) _ (Rest end words) here (name_at next.0) (λ name. more))

table_command_in : (end : ℕ) (words : List Word) → Told end words (Rest end words) (table_command end words)
unfolding table_command
table_command_in end words =
    after_first end words _ (Rest end words) (λ next here more.
    if_told end words (same next.0.text (codes "create")) (create end next.1) _ (Rest end words) (rest_more end next.1 words (create end next.1) more (create_in end next.1))
    (if_told end words (same next.0.text (codes "destroy")) _ _ (Rest end words) more
    (if_told end words (same next.0.text (codes "flush")) _ _ (Rest end words) more
    (if_told end words (same next.0.text (codes "list")) _ _ (Rest end words) more
    (if_told end words (same next.0.text (codes "add")) (add_entry_command end next.1) _ (Rest end words) (rest_more end next.1 words (add_entry_command end next.1) more (add_entry_command_in end next.1))
    (if_told end words (same next.0.text (codes "delete")) (remove_entry end next.1) _ (Rest end words) (rest_more end next.1 words (remove_entry end next.1) more (remove_entry_in end next.1))
    (if_told end words (same next.0.text (codes "swap")) (swap_with end next.1) _ (Rest end words) (rest_more end next.1 words (swap_with end next.1) more (swap_with_in end next.1)) here)))))))

table_in : (end : ℕ) (words : List Word) → Told end words Any (table end words)
unfolding table
table_in end words =
    after_first end words _ Any (λ named here more.
    bind_word end words named.0.column (table_name named.0) _ Any here (name_at named.0) (λ name.
    told_more end named.1 words _ more (bind_told end named.1 (table_command end named.1) _ (Rest end named.1) Any (table_command_in end named.1) (λ made less.
    told_more end made.1 named.1 _ less (finished_in _ end made.1)))))

set_to_at : (column : ℕ) (which : Option Setting) (text : Option (List ℕ)) → At column (set_to column which text)
set_to_at column None None = refl
set_to_at column None (Some text) = refl
set_to_at column (Some which) None = refl
set_to_at column (Some which) (Some text) =
    bind_at column (number (least which) (most which) (record { column = column; text = text })) _ (number_at (least which) (most which) (record { column = column; text = text })) (λ n. tt)

assignment_at : (word : Word) → At word.column (assignment word)
unfolding assignment
assignment_at word = set_to_at word.column (setting (part_before 61 (without_prefix word.text))) (part_behind 61 (without_prefix word.text))

sysctl_in : (end : ℕ) (words : List Word) → Told end words Any (sysctl end words)
unfolding sysctl
sysctl_in end words =
    after_first end words _ Any (λ next here more.
    bind_word end words next.0.column (assignment next.0) _ Any here (assignment_at next.0) (λ found.
    told_more end next.1 words _ more (finished_in _ end next.1)))

-- a command behind its first word
command_in : (end : ℕ) (word : Word) (words : List Word) → Told end (word ∷ words) Any (command end word words)
unfolding command
command_in end word words =
    if_told end (word ∷ words) (same word.text (codes "delete")) (delete end words) _ Any (behind_word (delete end words) (delete_in end words))
    (if_told end (word ∷ words) (same word.text (codes "flush")) _ _ Any (behind_word _ (finished_in _ end words))
    (if_told end (word ∷ words) (same word.text (codes "zero")) (zero_command words) _ Any (behind_word (zero_command words) (zero_in end words))
    (if_told end (word ∷ words) (same word.text (codes "list")) _ _ Any (behind_word _ (finished_in _ end words))
    (if_told end (word ∷ words) (same word.text (codes "set")) (set_command end words) _ Any (behind_word (set_command end words) (set_command_in end words))
    (if_told end (word ∷ words) (same word.text (codes "table")) (table end words) _ Any (behind_word (table end words) (table_in end words))
    (if_told end (word ∷ words) (same word.text (codes "sysctl")) (sysctl end words) _ Any (behind_word (sysctl end words) (sysctl_in end words))
    (if_told end (word ∷ words) (same word.text (codes "local")) (local end words) _ Any (behind_word (local end words) (local_in end words)) (inl refl))))))))
  where
    behind_word : {X : Type 0} (r : Result X Fault) → Told end words Any r → Told end (word ∷ words) Any r
    behind_word r told = told_more end words (word ∷ words) r (one_less end word words) told

live_in : (live : Bool) (end : ℕ) (word : Word) (words : List Word) → Told end (word ∷ words) Any (live_statement live word words)
unfolding live_statement
live_in true end word words = inl refl
live_in false end word words = told_more end words (word ∷ words) (result_at_end Live words) (one_less end word words) (finished_in Live end words)

after_in : (live : Bool) (end : ℕ) (word : Word) (words : List Word) → Told end (word ∷ words) Any (after_statement live end word words)
unfolding after_statement after_count
after_in false end word words = inl refl
after_in true end word words =
    told_more end words (word ∷ words) _ (one_less end word words) (bind_told end words (first_number 0 33554432 end words) _ (Rest end words) Any (first_number_in 0 33554432 end words) (λ count more.
    told_more end count.1 words _ more (finished_in _ end count.1)))

statement_in : (live : Bool) (end : ℕ) (word : Word) (words : List Word) → Told end (word ∷ words) Any (statement live end word words)
unfolding statement
statement_in live end word words =
    if_told end (word ∷ words) (same word.text (codes "live")) (live_statement live word words) _ Any (live_in live end word words)
    (if_told end (word ∷ words) (same word.text (codes "after")) (after_statement live end word words) _ Any (after_in live end word words)
    (bind_told end (word ∷ words) (command end word words) _ Any Any (command_in end word words) (λ found u. tt)))

-- a column of the words behind the first ones is one of all words
behind_some : (end k column : ℕ) (words : List Word) → IsColumn end (drop k words) column → IsColumn end words column
behind_some end zero column words here = here
behind_some end (suc k) column [] here = here
behind_some end (suc k) column (word ∷ words) here = inr (behind_some end k column words here)

of_err : {X : Type 0} (end k : ℕ) (words : List Word) (r : Result X Fault) → IfErr r (λ fault. IsColumn end (drop k words) fault.column) → Told end words Any r
of_err end k words (Ok x) p = tt
of_err end k words (Err fault) p = behind_some end k fault.column words p

addition_in : (line : List ℕ) → Told (end_column (length (before_comment line)) (tokens_of line)) (map (word_at line) (tokens_of line)) Any (addition line)
unfolding addition
addition_in line =
    let end = end_column (length (before_comment line)) (tokens_of line) in
    let words = map (word_at line) (tokens_of line) in
    bind_told end words (rule_in line (tokens_of line) 1) _ Any Any (of_err end 1 words (rule_in line (tokens_of line) 1) (rule_stands line (tokens_of line) 1)) (λ draft u. tt)

words_in_line : (live : Bool) (line : List ℕ) (words : List Word) → words ≡ map (word_at line) (tokens_of line) → Told (end_column (length (before_comment line)) (tokens_of line)) words Any (words_say live line words)
unfolding words_say
words_in_line live line [] all = tt
words_in_line live line (word ∷ words) all =
    let end = end_column (length (before_comment line)) (tokens_of line) in
    if_told end (word ∷ words) (same word.text (codes "add")) (addition line) _ Any (subst (λ ws. Told end ws Any (addition line)) (sym all) (addition_in line)) (statement_in live end word words)

told_err : (line : List ℕ) (r : Result Statement Fault) → Told (end_column (length (before_comment line)) (tokens_of line)) (map (word_at line) (tokens_of line)) Any r → IfErr r (λ fault. IsFaultColumn line fault None)
told_err line (Ok s) p = tt
told_err line (Err fault) p = p

unless_stands : (live : Bool) (line : List ℕ) (bad : Option ℕ) → IfErr (says_unless live line bad) (λ fault. IsFaultColumn line fault bad)
unless_stands live line (Some at) = (refl, refl)
unless_stands live line None = told_err line (words_say live line (map (word_at line) (tokens_of line))) (words_in_line live line (map (word_at line) (tokens_of line)) refl)

-- a line's fault has the column of its first bad byte, else of a word, or one past the last word
pub columns_are : FaultsHaveTheirColumns
unfolding says
columns_are live line = unless_stands live line (first_bad (before_comment line))
