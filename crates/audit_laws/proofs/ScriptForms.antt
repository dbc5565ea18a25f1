-- The commands of a script are as the grammar yields them.
use Rattle.std.proofs.Common.{◌≡◌, ◌≤◌, ℕ, suc, Bool, true, false, Option, None, Some, List, [], ◌∷◌, Result, Ok, Err, length, map, arith, if◌then◌else◌, refl, subst}
use Rattle.std.specs.Prelude.{IfOk, is_some, codes, nat_lt}
use Rattle.std.specs.List.{AllByRecursion}
use Rattle.std.proofs.lemmas.Bool.Decides.{nat_tests}
use Rattle.fw_lex.specs.Words.{before_comment, first_bad, tokens_of}
use Rattle.fw_rule.specs.WellFormed.{IsDraft, IsWellFormed}
use Rattle.fw_rule.specs.declared.command.Command.TheVariants.{Add}
use Rattle.ipfw_parser.specs.Forms.{IsDraftForm}
use Rattle.ipfw_parser.specs.Names.{is_name, table_name}
use Rattle.ipfw_parser.specs.Reading.{Word, Fault, ◌>>=◌, same, first, word_at, words_behind_word}
use Rattle.ipfw_parser.specs.Rules.{rule_in, end_column, set_behind}
use Rattle.ipfw_parser.proofs.Forms.Drafts.{drafts_are}
use Rattle.ipfw_parser.proofs.Forms.Following.{on_bind}
use Rattle.ipfw_parser.proofs.Forms.Items.{table_name_on}
use Rattle.ipfw_parser.proofs.Forms.Rules.{rule_in_on}
use Rattle.fw_command.specs.Commands.{addresses, command, delete, delete_set_command, local, numbers, zero_command}
use Rattle.fw_command.specs.Ends.{first_number}
use Rattle.fw_command.specs.Lines.{lines_of}
use Rattle.fw_command.specs.Scripts.{allowed_statement, first_place, next_place, script_from, script_of, statement_at, with_command, with_line_number, with_statement}
use Rattle.fw_command.specs.SetCommands.{disable, disable_end, enable, move_rule_command, move_set_command, move_words, set_command, sets, swap_sets_command}
use Rattle.fw_command.specs.SettingCommands.{assignment, sysctl}
use Rattle.fw_command.specs.Statements.{addition, after_count, after_statement, live_statement, says, says_unless, statement, words_say}
use Rattle.fw_command.specs.TableCommands.{table, table_command}
use Rattle.fw_command.specs.declared.script.Line.{Line}
use Rattle.fw_command.specs.declared.script.Pace.{Pace}
use Rattle.fw_command.specs.declared.script.Script.{Script}
use Rattle.fw_command.specs.declared.script_fault.ScriptFault.{ScriptFault}
use Rattle.fw_command.specs.declared.script_fault.ScriptFault.TheVariants.{TooLong, TooManyLines}
use Rattle.fw_command.proofs.InRange.{command_on}
use Rattle.fw_command.proofs.OnResults.{any, finished_on, on_if}
use Rattle.fw_command.proofs.ScriptInRange.{on_then}
use Rattle.audit_laws.specs.Formed.{HasNamesInForm, IsFormed, IsFormedLine, IsFormedScript, IsFormedStep, ScriptsAreFormed}

-- ---- commands

-- whatever is read first
after_any : {X Y : Type 0} (r : Result X Fault) (f : X → Result Y Fault) (Q : Y → Type 0) → ((x : X) → IfOk (f x) Q) → IfOk (r >>= f) Q
after_any r f Q each = on_bind r f (λ _. Unit {0}) Q (any r) (λ x u. each x)

delete_on : (end : ℕ) (words : List Word) → IfOk (delete end words) HasNamesInForm
unfolding delete delete_set_command
delete_on end words =
    after_any (first end words) _ HasNamesInForm (λ next.
    on_if (same next.0.text (codes "set")) _ _ HasNamesInForm (after_any (set_behind end next.1) _ HasNamesInForm (λ which. finished_on _ which.1 HasNamesInForm tt))
    (after_any (numbers words) _ HasNamesInForm (λ found. tt)))

zero_on : (words : List Word) → IfOk (zero_command words) HasNamesInForm
unfolding zero_command
zero_on words = after_any (numbers words) _ HasNamesInForm (λ found. tt)

local_on : (end : ℕ) (words : List Word) → IfOk (local end words) HasNamesInForm
unfolding local
local_on end words = after_any (first end words) _ HasNamesInForm (λ next. after_any (addresses words) _ HasNamesInForm (λ found. tt))

sysctl_on : (end : ℕ) (words : List Word) → IfOk (sysctl end words) HasNamesInForm
unfolding sysctl
sysctl_on end words = after_any (first end words) _ HasNamesInForm (λ next. after_any (assignment next.0) _ HasNamesInForm (λ found. finished_on _ next.1 HasNamesInForm tt))

table_on : (end : ℕ) (words : List Word) → IfOk (table end words) HasNamesInForm
unfolding table
table_on end words =
    after_any (first end words) _ HasNamesInForm (λ named.
    on_bind (table_name named.0) _ (λ name. is_name 63 name ≡ true) HasNamesInForm (table_name_on named.0) (λ name form.
    after_any (table_command end named.1) _ HasNamesInForm (λ made. finished_on _ made.1 HasNamesInForm form)))

move_words_on : (end : ℕ) (words : List Word) → IfOk (move_words end words) HasNamesInForm
unfolding move_words move_rule_command move_set_command
move_words_on end words =
    after_any (first end words) _ HasNamesInForm (λ next.
    on_if (same next.0.text (codes "rule")) _ _ HasNamesInForm
    (after_any (first_number 1 65535 end next.1) _ HasNamesInForm (λ which.
    after_any (words_behind_word (codes "to") end which.1) _ HasNamesInForm (λ rest.
    after_any (set_behind end rest) _ HasNamesInForm (λ target. finished_on _ target.1 HasNamesInForm tt))))
    (after_any (set_behind end words) _ HasNamesInForm (λ which.
    after_any (words_behind_word (codes "to") end which.1) _ HasNamesInForm (λ rest.
    after_any (set_behind end rest) _ HasNamesInForm (λ target. finished_on _ target.1 HasNamesInForm tt)))))

enable_on : (disabled end : ℕ) (words : List Word) → IfOk (enable disabled end words) HasNamesInForm
unfolding enable
enable_on disabled end words = after_any (sets false end words) _ HasNamesInForm (λ enabled. tt)

disable_end_on : (disabled end : ℕ) (words : List Word) → IfOk (disable_end disabled end words) HasNamesInForm
unfolding disable_end
disable_end_on disabled end [] = tt
disable_end_on disabled end (word ∷ words) = enable_on disabled end words

disable_on : (end : ℕ) (words : List Word) → IfOk (disable end words) HasNamesInForm
unfolding disable
disable_on end words = after_any (sets true end words) _ HasNamesInForm (λ disabled. disable_end_on disabled.0 end disabled.1)

swap_sets_on : (end : ℕ) (words : List Word) → IfOk (swap_sets_command end words) HasNamesInForm
unfolding swap_sets_command
swap_sets_on end words =
    after_any (set_behind end words) _ HasNamesInForm (λ one. after_any (set_behind end one.1) _ HasNamesInForm (λ other. finished_on _ other.1 HasNamesInForm tt))

set_on : (end : ℕ) (words : List Word) → IfOk (set_command end words) HasNamesInForm
unfolding set_command
set_on end words =
    after_any (first end words) _ HasNamesInForm (λ next.
    on_if (same next.0.text (codes "disable")) _ _ HasNamesInForm (disable_on end next.1)
    (on_if (same next.0.text (codes "enable")) _ _ HasNamesInForm (enable_on 0 end next.1)
    (on_if (same next.0.text (codes "move")) _ _ HasNamesInForm (move_words_on end next.1)
    (on_if (same next.0.text (codes "swap")) _ _ HasNamesInForm (swap_sets_on end next.1) tt))))

names_on : (end : ℕ) (word : Word) (words : List Word) → IfOk (command end word words) HasNamesInForm
unfolding command
names_on end word words =
    on_if (same word.text (codes "delete")) _ _ HasNamesInForm (delete_on end words)
    (on_if (same word.text (codes "flush")) _ _ HasNamesInForm (finished_on _ words HasNamesInForm tt)
    (on_if (same word.text (codes "zero")) _ _ HasNamesInForm (zero_on words)
    (on_if (same word.text (codes "list")) _ _ HasNamesInForm (finished_on _ words HasNamesInForm tt)
    (on_if (same word.text (codes "set")) _ _ HasNamesInForm (set_on end words)
    (on_if (same word.text (codes "table")) _ _ HasNamesInForm (table_on end words)
    (on_if (same word.text (codes "sysctl")) _ _ HasNamesInForm (sysctl_on end words)
    (on_if (same word.text (codes "local")) _ _ HasNamesInForm (local_on end words) tt)))))))

-- what holds of a value twice over
both_on : {X E : Type 0} (r : Result X E) (P Q R : X → Type 0) → ((x : X) → P x → Q x → R x) → IfOk r P → IfOk r Q → IfOk r R
both_on (Ok x) P Q R make p q = make x p q
both_on (Err e) P Q R make p q = tt

formed_on : (end : ℕ) (word : Word) (words : List Word) → IfOk (command end word words) IsFormed
formed_on end word words =
    both_on (command end word words) IsWellFormed HasNamesInForm IsFormed (λ made numbers names. record { numbers = numbers; names = names }) (command_on end word words) (names_on end word words)

-- ---- lines

-- all commands of a script are formed
record AreFormed (script : Script) : Type 0 where
  before : AllByRecursion IsFormedLine script.before
  live : AllByRecursion IsFormedStep script.live

command_formed : (live : Bool) (line : Line) (script : Script) → IsFormedLine line → AreFormed script → AreFormed (with_command live line script)
command_formed false line script p q = record { before = (p, q.before); live = q.live }
command_formed true line script p q = record { before = q.before; live = (p, q.live) }

-- what a function takes, first and second: the types of these aren't named outside of their crate
abbrev first_taken : {X Y Z : Type 0} → (X → Y → Z) → Type 0
first_taken {X} {Y} {Z} f = X

abbrev second_taken : {X Y Z : Type 0} → (X → Y → Z) → Type 0
second_taken {X} {Y} {Z} f = Y

-- the place of a line, and what it says
abbrev LinePlace : Type 0
LinePlace = first_taken next_place

abbrev Said : Type 0
Said = second_taken next_place

-- a line says what keeps the commands of a script formed
abbrev IsSaid : Said → Type 0
IsSaid s = (place : LinePlace) (script : Script) → AreFormed script → AreFormed (with_statement place s script)

live_on : (live : Bool) (word : Word) (words : List Word) → IfOk (live_statement live word words) IsSaid
unfolding live_statement
live_on live word words = on_if live _ _ IsSaid tt (finished_on _ words IsSaid (λ place script q. q))

after_on : (live : Bool) (end : ℕ) (word : Word) (words : List Word) → IfOk (after_statement live end word words) IsSaid
unfolding after_statement after_count
after_on live end word words = on_if live _ _ IsSaid (after_any (first_number 0 33554432 end words) _ IsSaid (λ count. finished_on _ count.1 IsSaid (λ place script q. record { before = q.before; live = (tt, q.live) }))) tt

statement_on : (live : Bool) (end : ℕ) (word : Word) (words : List Word) → IfOk (statement live end word words) IsSaid
unfolding statement
statement_on live end word words =
    on_if (same word.text (codes "live")) _ _ IsSaid (live_on live word words)
    (on_if (same word.text (codes "after")) _ _ IsSaid (after_on live end word words)
    (on_bind (command end word words) _ IsFormed IsSaid (formed_on end word words) (λ found p place script q. command_formed (is_some place.live) (record { line = place.line; command = found }) script p q)))

added_on : (line : List ℕ) → IfOk (rule_in line (tokens_of line) 1) (λ draft. IsFormed (Add draft))
added_on line =
    both_on (rule_in line (tokens_of line) 1) IsDraft IsDraftForm (λ draft. IsFormed (Add draft)) (λ draft numbers names. record { numbers = numbers; names = names })
    (drafts_are line (tokens_of line) 1) (rule_in_on line (tokens_of line) 1)

addition_on : (line : List ℕ) → IfOk (addition line) IsSaid
unfolding addition
addition_on line = on_bind (rule_in line (tokens_of line) 1) _ (λ draft. IsFormed (Add draft)) IsSaid (added_on line) (λ draft p place script q. command_formed (is_some place.live) (record { line = place.line; command = Add draft }) script p q)

words_on : (live : Bool) (line : List ℕ) (words : List Word) → IfOk (words_say live line words) IsSaid
unfolding words_say
words_on live line [] = λ place script q. q
words_on live line (word ∷ words) =
    on_if (same word.text (codes "add")) _ _ IsSaid (addition_on line) (statement_on live (end_column (length (before_comment line)) (tokens_of line)) word words)

unless_on : (live : Bool) (line : List ℕ) (bad : Option ℕ) → IfOk (says_unless live line bad) IsSaid
unless_on live line (Some at) = tt
unless_on live line None = words_on live line (map (word_at line) (tokens_of line))

says_on : (live : Bool) (line : List ℕ) → IfOk (says live line) IsSaid
unfolding says
says_on live line = unless_on live line (first_bad (before_comment line))

-- ---- scripts

numbered_on : (number : ℕ) (said : Result Said Fault) → IfOk said IsSaid → IfOk (with_line_number number said) IsSaid
numbered_on number (Ok s) p = p
numbered_on number (Err fault) p = tt

-- what may stand there is what was said
same_said : (pace : Pace) (place : LinePlace) (said other : Said) → allowed_statement pace place said ≡ Ok other → said ≡ other
same_said pace place said other is = grind arith

allowed_on : (pace : Pace) (place : LinePlace) (said : Said) → IsSaid said → IfOk (allowed_statement pace place said) IsSaid
allowed_on pace place said p = by_answer (allowed_statement pace place said) refl
  where
    by_answer : (r : Result Said ScriptFault) → allowed_statement pace place said ≡ r → IfOk r IsSaid
    by_answer (Err fault) is = tt
    by_answer (Ok other) is = subst IsSaid (same_said pace place said other is) p

statement_at_on : (pace : Pace) (place : LinePlace) (line : List ℕ) → IfOk (statement_at pace place line) IsSaid
unfolding statement_at
statement_at_on pace place line =
    on_then (with_line_number place.line (says (is_some place.live) line)) _ IsSaid IsSaid (numbered_on place.line (says (is_some place.live) line) (says_on (is_some place.live) line)) (λ s p. allowed_on pace place s p)

-- a line puts at most one command or `after` behind `live`
one_more : (place : LinePlace) (said : Said) (script : Script) → length (with_statement place said script).live ≤ suc (length script.live)
one_more place said script = grind arith

-- all commands of these lines, of which no more than there are lines stand behind `live`
record AreSaid (lines : ℕ) (script : Script) : Type 0 where
  formed : AreFormed script
  few : length script.live ≤ lines

script_on : (pace : Pace) (place : LinePlace) (lines : List (List ℕ)) → IfOk (script_from pace place lines) (AreSaid (length lines))
unfolding script_from
script_on pace place [] = record { formed = record { before = tt; live = tt }; few = omega arith }
script_on pace place (line ∷ lines) =
    on_then (statement_at pace place line) _ IsSaid (AreSaid (suc (length lines))) (statement_at_on pace place line) (λ s p.
    on_then (script_from pace (next_place place s) lines) _ (AreSaid (length lines)) (AreSaid (suc (length lines))) (script_on pace (next_place place s) lines) (λ script q.
    record { formed = p place script q.formed; few = omega (arith, q.few, one_more place s script) }))

few_enough : (most : ℕ) (r : Result Script ScriptFault) → most ≤ 65536 → IfOk r (AreSaid most) → IfOk r IsFormedScript
few_enough most (Ok script) low p = record { before = p.formed.before; live = p.formed.live; few = omega (arith, low, p.few) }
few_enough most (Err fault) low p = tt

-- each script has its commands as the grammar yields them
pub scripts_are_formed : ScriptsAreFormed
unfolding script_of
scripts_are_formed pace bytes = by_size (nat_lt 1048576 (length bytes))
  where
    by_lines : (b : Bool) → nat_lt 65536 (length (lines_of bytes)) ≡ b → IfOk (let r : Result Script ScriptFault = if b then Err TooManyLines else script_from pace first_place (lines_of bytes) in r) IsFormedScript
    by_lines true is = tt
    by_lines false is = few_enough (length (lines_of bytes)) (script_from pace first_place (lines_of bytes)) (grind (arith, nat_tests)) (script_on pace first_place (lines_of bytes))

    by_size : (b : Bool) → IfOk (let r : Result Script ScriptFault = if b then Err TooLong else if nat_lt 65536 (length (lines_of bytes)) then Err TooManyLines else script_from pace first_place (lines_of bytes) in r) IsFormedScript
    by_size true = tt
    by_size false = by_lines (nat_lt 65536 (length (lines_of bytes))) refl
