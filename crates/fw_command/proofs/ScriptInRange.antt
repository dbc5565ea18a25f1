-- Each number of a script's commands is in its range.
use Rattle.std.proofs.Common.{◌≤◌, ℕ, Bool, true, false, Option, Some, None, List, [], ◌∷◌, Result, Ok, Err, length, map}
use Rattle.std.specs.Prelude.{IfOk, IfErr, is_some, codes, ◌&&◌, nat_le}
use Rattle.fw_lex.specs.Words.{before_comment, first_bad, tokens_of}
use Rattle.fw_rule.specs.WellFormed.{IsFromTo, IsDraft, IsWellFormed}
use Rattle.ipfw_parser.specs.Reading.{Word, Fault, same, word_at}
use Rattle.ipfw_parser.specs.Rules.{rule_in, end_column}
use Rattle.fw_command.specs.Ends.{first_number}
use Rattle.fw_command.specs.Commands.{command}
use Rattle.fw_command.specs.Statements.{live_statement, after_count, after_statement, statement, addition, words_say, says_unless, says}
use Rattle.fw_command.specs.Scripts as scripts
use Rattle.fw_command.specs.Scripts.{with_line_number, allowed_statement, statement_at, next_place, with_command, with_statement, script_from, Reads}
use Rattle.ipfw_parser.proofs.Forms.Drafts.{drafts_are}
use Rattle.fw_command.specs.WellFormed.{IsLine, IsScript}
use Rattle.fw_command.specs.declared.script.Pace.{Pace}
use Rattle.fw_command.specs.declared.script.Pace.TheVariants.{Serial, Live as LivePace}
use Rattle.fw_command.specs.declared.statement.Place.{Place}
use Rattle.fw_command.specs.declared.script.Line.{Line}
use Rattle.fw_command.specs.declared.statement.Statement.{Statement}
use Rattle.fw_command.specs.declared.statement.Statement.TheVariants.{Nothing, Order, Live, After}
use Rattle.fw_command.specs.declared.script.Script.{Script}
use Rattle.fw_command.specs.declared.script_fault.ScriptFault.{ScriptFault}
use Rattle.fw_command.specs.declared.script_fault.ScriptFault.TheVariants.{TooLong, TooManyLines, Parse, PaceInLive, TooManyLive, OutOfMemory}
use Rattle.ipfw_parser.proofs.Forms.Following.{on_bind}
use Rattle.fw_command.proofs.OnResults.{on_if, finished_on}
use Rattle.fw_command.proofs.InRange.{first_number_on, command_on}

abbrev IsStatement : Statement → Type 0
IsStatement (Order command) = IsWellFormed command
IsStatement (After column count) = count ≤ 33554432
IsStatement Nothing = Unit {0}
IsStatement Live = Unit {0}

live_statement_on : (live : Bool) (word : Word) (words : List Word) → IfOk (live_statement live word words) IsStatement
unfolding live_statement
live_statement_on live word words = on_if live _ _ IsStatement tt (finished_on _ words IsStatement tt)

after_count_on : (column end : ℕ) (words : List Word) → IfOk (after_count column end words) IsStatement
unfolding after_count
after_count_on column end words =
    on_bind (first_number 0 33554432 end words) _ (λ r. IsFromTo 0 33554432 r.0) IsStatement (first_number_on 0 33554432 end words) (λ count p. finished_on _ count.1 IsStatement p.most_ge)

after_statement_on : (live : Bool) (end : ℕ) (word : Word) (words : List Word) → IfOk (after_statement live end word words) IsStatement
unfolding after_statement
after_statement_on live end word words = on_if live _ _ IsStatement (after_count_on word.column end words) tt

statement_on : (live : Bool) (end : ℕ) (word : Word) (words : List Word) → IfOk (statement live end word words) IsStatement
unfolding statement
statement_on live end word words =
    on_if (same word.text (codes "live")) _ _ IsStatement (live_statement_on live word words)
    (on_if (same word.text (codes "after")) _ _ IsStatement (after_statement_on live end word words)
    (on_bind (command end word words) _ IsWellFormed IsStatement (command_on end word words) (λ found p. p)))

addition_on : (line : List ℕ) → IfOk (addition line) IsStatement
unfolding addition
addition_on line = on_bind (rule_in line (tokens_of line) 1) _ IsDraft IsStatement (drafts_are line (tokens_of line) 1) (λ draft p. p)

words_say_on : (live : Bool) (line : List ℕ) (words : List Word) → IfOk (words_say live line words) IsStatement
unfolding words_say
words_say_on live line [] = tt
words_say_on live line (word ∷ words) =
    on_if (same word.text (codes "add")) _ _ IsStatement (addition_on line) (statement_on live (end_column (length (before_comment line)) (tokens_of line)) word words)

says_unless_on : (live : Bool) (line : List ℕ) (bad : Option ℕ) → IfOk (says_unless live line bad) IsStatement
says_unless_on live line (Some at) = tt
says_unless_on live line None = words_say_on live line (map (word_at line) (tokens_of line))

says_on : (live : Bool) (line : List ℕ) → IfOk (says live line) IsStatement
unfolding says
says_on live line = says_unless_on live line (first_bad (before_comment line))

-- what the second step gives has its property, where it has it for each value of the first
pub on_then : {X Y : Type 0} (r : Result X ScriptFault) (f : X → Result Y ScriptFault) (P : X → Type 0) (Q : Y → Type 0) → IfOk r P → ((x : X) → P x → IfOk (f x) Q) → IfOk (scripts.◌>>=◌ r f) Q
on_then (Ok x) f P Q p q = q x p
on_then (Err e) f P Q p q = tt

with_line_number_on : (number : ℕ) (said : Result Statement Fault) → IfOk said IsStatement → IfOk (with_line_number number said) IsStatement
with_line_number_on number (Ok s) p = p
with_line_number_on number (Err fault) p = tt

allowed_statement_on : (pace : Pace) (place : Place) (s : Statement) → IsStatement s → IfOk (allowed_statement pace place s) IsStatement
allowed_statement_on Serial place Nothing p = p
allowed_statement_on Serial place (Order command) p = on_if (is_some place.live && nat_le 4096 place.ran) _ _ IsStatement tt p
allowed_statement_on Serial place Live p = p
allowed_statement_on Serial place (After column count) p = p
allowed_statement_on LivePace place Nothing p = p
allowed_statement_on LivePace place (Order command) p = on_if (is_some place.live && nat_le 4096 place.ran) _ _ IsStatement tt p
allowed_statement_on LivePace place Live p = p
allowed_statement_on LivePace place (After column count) p = tt

statement_at_on : (pace : Pace) (place : Place) (line : List ℕ) → IfOk (statement_at pace place line) IsStatement
unfolding statement_at
statement_at_on pace place line =
    on_then (with_line_number place.line (says (is_some place.live) line)) _ IsStatement IsStatement (with_line_number_on place.line (says (is_some place.live) line) (says_on (is_some place.live) line)) (λ s p. allowed_statement_on pace place s p)

with_command_on : (live : Bool) (line : Line) (script : Script) → IsLine line → IsScript script → IsScript (with_command live line script)
with_command_on false line script p q = record { before = (p, q.before); live = q.live }
with_command_on true line script p q = record { before = q.before; live = (p, q.live) }

with_statement_on : (place : Place) (s : Statement) (script : Script) → IsStatement s → IsScript script → IsScript (with_statement place s script)
with_statement_on place Nothing script p q = q
with_statement_on place (Order command) script p q = with_command_on (is_some place.live) (record { line = place.line; command = command }) script p q
with_statement_on place Live script p q = q
with_statement_on place (After column count) script p q = record { before = q.before; live = (p, q.live) }

-- a script that is read of lines has its commands' numbers in their ranges
pub script_from_on : (pace : Pace) (place : Place) (lines : List (List ℕ)) → IfOk (script_from pace place lines) IsScript
unfolding script_from
script_from_on pace place [] = record { before = tt; live = tt }
script_from_on pace place (line ∷ lines) =
    on_then (statement_at pace place line) _ IsStatement IsScript (statement_at_on pace place line) (λ s p.
    on_then (script_from pace (next_place place s) lines) _ IsScript IsScript (script_from_on pace (next_place place s) lines) (λ script q. with_statement_on place s script p q))

-- what holds of the script that the definition gives holds of the one that was answered
pub on_reads : {X : Type 0} (result script : Result X ScriptFault) (P : X → Type 0) → Reads result script → IfOk script P → IfOk result P
on_reads (Ok x) script P reads p = rw (← reads) at p
on_reads (Err e) script P reads p = tt

-- what holds of the definition's fault holds of the one that was answered, where it holds of want of memory
pub on_faults : {X : Type 0} (result script : Result X ScriptFault) (P : ScriptFault → Type 0) → P OutOfMemory → Reads result script → IfErr script P → IfErr result P
on_faults (Ok x) script P memory reads p = tt
on_faults (Err TooLong) script P memory reads p = rw (← reads) at p
on_faults (Err TooManyLines) script P memory reads p = rw (← reads) at p
on_faults (Err (Parse line column kind)) script P memory reads p = rw (← reads) at p
on_faults (Err (PaceInLive line column)) script P memory reads p = rw (← reads) at p
on_faults (Err TooManyLive) script P memory reads p = rw (← reads) at p
on_faults (Err OutOfMemory) script P memory reads p = memory
