-- A script is its lines: what it has stands on them, and it has what they say.
use Rattle.std.proofs.Common.{◌≡◌, ℕ, zero, suc, ◌+◌, ◌<◌, ◌≤◌, Bool, true, false, ◌&&◌, nat_le, nat_lt, Option, Some, None, List, [], ◌∷◌, Result, Ok, Err, length, map, codes, refl, sym, ap, ◌∙◌, subst, arith}
use Rattle.std.specs.Prelude.{IfOk, IfSome, is_some, slice_get}
use Rattle.std.proofs.lemmas.Bool.{lt-ltb, le-ltb}
use Rattle.fw_lex.specs.Words.{before_comment, first_bad, tokens_of}
use Rattle.ipfw_parser.specs.Reading.{Word, Fault, same, word_at}
use Rattle.ipfw_parser.specs.Rules.{rule_in, end_column}
use Rattle.fw_command.specs.Ends.{first_number}
use Rattle.fw_command.specs.Commands.{command}
use Rattle.fw_command.specs.Lines.{lines_of}
use Rattle.fw_command.specs.Statements.{live_statement, after_count, after_statement, statement, addition, words_say, says_unless, says}
use Rattle.fw_command.specs.Scripts as scripts
use Rattle.fw_command.specs.Scripts.{with_line_number, allowed_statement, statement_at, next_place, with_command, with_statement, script_from, script_of, first_place}
use Rattle.fw_command.specs.Laws.{Says, Stands, CommandsStand, StepStands, StepsStand, LiveStands, AreOnTheirLines, is_behind, HasOrder, IsHeld, Holds, IsOfItsLines, CommandsStandOnTheirLines}
use Rattle.fw_command.specs.declared.script.Pace.{Pace}
use Rattle.fw_command.specs.declared.script.Pace.TheVariants.{Serial, Live as LivePace}
use Rattle.fw_command.specs.declared.statement.Place.{Place}
use Rattle.fw_command.specs.declared.script.Line.{Line}
use Rattle.fw_command.specs.declared.script.Step.{Step}
use Rattle.fw_command.specs.declared.script.Step.TheVariants.{Run, After as Wait}
use Rattle.fw_command.specs.declared.statement.Statement.{Statement}
use Rattle.fw_command.specs.declared.statement.Statement.TheVariants.{Nothing, Order, Live, After}
use Rattle.fw_command.specs.declared.script.Script.{Script}
use Rattle.fw_command.specs.declared.script_fault.ScriptFault.{ScriptFault}
use Rattle.ipfw_parser.proofs.Forms.Following.{on_bind}
use Rattle.fw_command.proofs.OnResults.{any, on_if, finished_on}
use Rattle.fw_command.proofs.ScriptSteps.{next_line}
use Rattle.fw_command.proofs.ScriptInRange.{on_then}

-- `live` stands where it didn't stand before, and `after` behind it
abbrev pub IsPlaced : Bool → Statement → Type 0
IsPlaced live Nothing = Unit {0}
IsPlaced live (Order found) = Unit {0}
IsPlaced live Live = live ≡ false
IsPlaced live (After column count) = live ≡ true

live_placed : (live : Bool) (word : Word) (words : List Word) → IfOk (live_statement live word words) (IsPlaced live)
unfolding live_statement
live_placed true word words = tt
live_placed false word words = finished_on Live words (IsPlaced false) refl

after_placed : (live : Bool) (end : ℕ) (word : Word) (words : List Word) → IfOk (after_statement live end word words) (IsPlaced live)
unfolding after_statement after_count
after_placed false end word words = tt
after_placed true end word words =
    on_bind (first_number 0 33554432 end words) _ (λ _. Unit {0}) (IsPlaced true) (any (first_number 0 33554432 end words)) (λ count u. finished_on _ count.1 (IsPlaced true) refl)

statement_placed : (live : Bool) (end : ℕ) (word : Word) (words : List Word) → IfOk (statement live end word words) (IsPlaced live)
unfolding statement
statement_placed live end word words =
    on_if (same word.text (codes "live")) _ _ (IsPlaced live) (live_placed live word words)
    (on_if (same word.text (codes "after")) _ _ (IsPlaced live) (after_placed live end word words)
    (on_bind (command end word words) _ (λ _. Unit {0}) (IsPlaced live) (any (command end word words)) (λ found u. tt)))

addition_placed : (live : Bool) (line : List ℕ) → IfOk (addition line) (IsPlaced live)
unfolding addition
addition_placed live line = on_bind (rule_in line (tokens_of line) 1) _ (λ _. Unit {0}) (IsPlaced live) (any (rule_in line (tokens_of line) 1)) (λ draft u. tt)

words_placed : (live : Bool) (line : List ℕ) (words : List Word) → IfOk (words_say live line words) (IsPlaced live)
unfolding words_say
words_placed live line [] = tt
words_placed live line (word ∷ words) =
    on_if (same word.text (codes "add")) _ _ (IsPlaced live) (addition_placed live line) (statement_placed live (end_column (length (before_comment line)) (tokens_of line)) word words)

unless_placed : (live : Bool) (line : List ℕ) (bad : Option ℕ) → IfOk (says_unless live line bad) (IsPlaced live)
unless_placed live line (Some at) = tt
unless_placed live line None = words_placed live line (map (word_at line) (tokens_of line))

says_placed : (live : Bool) (line : List ℕ) → IfOk (says live line) (IsPlaced live)
unfolding says
says_placed live line = unless_placed live line (first_bad (before_comment line))

of_said : (live : Bool) (r : Result Statement Fault) (s : Statement) → IfOk r (IsPlaced live) → r ≡ Ok s → IsPlaced live s
of_said live (Ok t) s placed e = let is : t ≡ s = cc in subst (IsPlaced live) is placed
of_said live (Err f) s placed e = cc

-- a statement that was read stands where it may
pub placed_at : (place : Place) (line : List ℕ) (s : Statement) → says (is_some place.live) line ≡ Ok s → IsPlaced (is_some place.live) s
placed_at place line s said = of_said (is_some place.live) (says (is_some place.live) line) s (says_placed (is_some place.live) line) said

-- one line more in front
says_behind : (live : Bool) (from next : ℕ) (first : List ℕ) (lines : List (List ℕ)) (number : ℕ) (s : Statement) → next ≡ from + 1 → Says live next lines number s → Says live from (first ∷ lines) number s
says_behind live from next first lines number s is told =
    record { place = suc told.place; text = told.text; number_is = omega (arith, told.number_is); there = told.there; statement_is = told.statement_is }

stands_behind : (live_at : Option ℕ) (live : Bool) (from next : ℕ) (first : List ℕ) (lines : List (List ℕ)) (number : ℕ) (s : Statement) → next ≡ from + 1 → Stands live_at live next lines number s → Stands live_at live from (first ∷ lines) number s
stands_behind live_at live from next first lines number s is told = (told.0, says_behind live from next first lines number s is told.1)

commands_behind : (live_at : Option ℕ) (from next : ℕ) (first : List ℕ) (lines : List (List ℕ)) (least : ℕ) (commands : List Line) → next ≡ from + 1 → CommandsStand live_at next lines least commands → CommandsStand live_at from (first ∷ lines) least commands
commands_behind live_at from next first lines least [] is told = tt
commands_behind live_at from next first lines least (line ∷ commands) is told =
    (told.0, (stands_behind live_at false from next first lines line.line (Order line.command) is told.1.0, commands_behind live_at from next first lines (line.line + 1) commands is told.1.1))

step_behind : (live_at : Option ℕ) (from next : ℕ) (first : List ℕ) (lines : List (List ℕ)) (number : ℕ) (step : Step) → next ≡ from + 1 → StepStands live_at next lines number step → StepStands live_at from (first ∷ lines) number step
step_behind live_at from next first lines number (Run line) is told = (told.0, stands_behind live_at true from next first lines number (Order line.command) is told.1)
step_behind live_at from next first lines number (Wait count) is told = (told.0, stands_behind live_at true from next first lines number (After told.0 count) is told.1)

steps_behind : (live_at : Option ℕ) (from next : ℕ) (first : List ℕ) (lines : List (List ℕ)) (least : ℕ) (steps : List Step) → next ≡ from + 1 → StepsStand live_at next lines least steps → StepsStand live_at from (first ∷ lines) least steps
steps_behind live_at from next first lines least [] is told = tt
steps_behind live_at from next first lines least (step ∷ steps) is told =
    (told.0, (told.1.0, (step_behind live_at from next first lines told.0 step is told.1.1.0, steps_behind live_at from next first lines (told.0 + 1) steps is told.1.1.1)))

all_behind : (from next : ℕ) (first : List ℕ) (lines : List (List ℕ)) (least : ℕ) (script : Script) → next ≡ from + 1 → AreOnTheirLines next lines least script → AreOnTheirLines from (first ∷ lines) least script
all_behind from next first lines least script is all = record {
  before = commands_behind script.live_at from next first lines least script.before is all.before;
  live = steps_behind script.live_at from next first lines least script.live is all.live;
}

-- what stands behind one line stands behind each earlier one
commands_earlier : (live_at : Option ℕ) (from : ℕ) (lines : List (List ℕ)) (less least : ℕ) (commands : List Line) → less ≤ least → CommandsStand live_at from lines least commands → CommandsStand live_at from lines less commands
commands_earlier live_at from lines less least [] lower told = tt
commands_earlier live_at from lines less least (line ∷ commands) lower told = (omega (arith, lower, told.0), told.1)

steps_earlier : (live_at : Option ℕ) (from : ℕ) (lines : List (List ℕ)) (less least : ℕ) (steps : List Step) → less ≤ least → StepsStand live_at from lines least steps → StepsStand live_at from lines less steps
steps_earlier live_at from lines less least [] lower told = tt
steps_earlier live_at from lines less least (step ∷ steps) lower told = (told.0, (omega (arith, lower, told.1.0), told.1.1))

all_earlier : (from : ℕ) (lines : List (List ℕ)) (less least : ℕ) (script : Script) → less ≤ least → AreOnTheirLines from lines least script → AreOnTheirLines from lines less script
all_earlier from lines less least script lower all = record {
  before = commands_earlier script.live_at from lines less least script.before lower all.before;
  live = steps_earlier script.live_at from lines less least script.live lower all.live;
}

allowed_statement_same : (pace : Pace) (place : Place) (s : Statement) → IfOk (allowed_statement pace place s) (λ t. s ≡ t)
allowed_statement_same Serial place Nothing = refl
allowed_statement_same Serial place (Order found) = on_if (is_some place.live && nat_le 4096 place.ran) _ _ (λ t. Order found ≡ t) tt refl
allowed_statement_same Serial place Live = refl
allowed_statement_same Serial place (After column count) = refl
allowed_statement_same LivePace place Nothing = refl
allowed_statement_same LivePace place (Order found) = on_if (is_some place.live && nat_le 4096 place.ran) _ _ (λ t. Order found ≡ t) tt refl
allowed_statement_same LivePace place Live = refl
allowed_statement_same LivePace place (After column count) = tt

ok_same : {E : Type 0} (r : Result Statement E) (s : Statement) → IfOk r (λ t. s ≡ t) → IfOk r (λ t. let a : Result Statement Fault = Ok s in let b : Result Statement Fault = Ok t in a ≡ b)
ok_same (Ok t) s same_one = ap Ok same_one
ok_same (Err e) s same_one = tt

placed_says : (pace : Pace) (place : Place) (said : Result Statement Fault) → IfOk (scripts.◌>>=◌ (with_line_number place.line said) (allowed_statement pace place)) (λ s. said ≡ Ok s)
placed_says pace place (Ok s) = ok_same (allowed_statement pace place s) s (allowed_statement_same pace place s)
placed_says pace place (Err fault) = tt

-- a statement that may stand at its place is what the line says
pub statement_at_says : (pace : Pace) (place : Place) (line : List ℕ) → IfOk (statement_at pace place line) (λ s. says (is_some place.live) line ≡ Ok s)
unfolding statement_at
statement_at_says pace place line = placed_says pace place (says (is_some place.live) line)

-- what the line in front says
first_says : (live : Bool) (from : ℕ) (text : List ℕ) (lines : List (List ℕ)) (s : Statement) → says live text ≡ Ok s → Says live from (text ∷ lines) from s
first_says live from text lines s said = record { place = 0; text = text; number_is = omega arith; there = refl; statement_is = said }

with_command_stands : (live : Bool) (from : ℕ) (lines : List (List ℕ)) (line : Line) (script : Script) → Stands script.live_at live from lines line.line (Order line.command) → AreOnTheirLines from lines (line.line + 1) script
    → AreOnTheirLines from lines line.line (with_command live line script)
with_command_stands false from lines line script told all = record {
  before = (omega arith, (told, all.before));
  live = steps_earlier script.live_at from lines line.line (line.line + 1) script.live (omega arith) all.live;
}
with_command_stands true from lines line script told all = record {
  before = commands_earlier script.live_at from lines line.line (line.line + 1) script.before (omega arith) all.before;
  live = (line.line, (omega arith, ((refl, told), all.live)));
}

with_statement_stands : (place : Place) (s : Statement) (text : List ℕ) (lines : List (List ℕ)) (script : Script) → says (is_some place.live) text ≡ Ok s → IsPlaced (is_some place.live) s
    → is_behind script.live_at place.line ≡ is_some place.live → AreOnTheirLines place.line (text ∷ lines) (place.line + 1) script → AreOnTheirLines place.line (text ∷ lines) place.line (with_statement place s script)
with_statement_stands place Nothing text lines script said placed behind all = all_earlier place.line (text ∷ lines) place.line (place.line + 1) script (omega arith) all
with_statement_stands place (Order found) text lines script said placed behind all =
    with_command_stands (is_some place.live) place.line (text ∷ lines) (record { line = place.line; command = found }) script (behind, first_says (is_some place.live) place.line text lines (Order found) said) all
with_statement_stands place Live text lines script said placed behind all = all_earlier place.line (text ∷ lines) place.line (place.line + 1) script (omega arith) all
with_statement_stands place (After column count) text lines script said placed behind all = record {
  before = commands_earlier script.live_at place.line (text ∷ lines) place.line (place.line + 1) script.before (omega arith) all.before;
  live = (place.line, (omega arith, ((column, (behind ∙ placed, first_says true place.line text lines (After column count) (ap (λ live. says live text) (sym placed) ∙ said))), all.live)));
}

-- the line of `live`, where it stood before the first of the lines, or stands among them
abbrev pub LiveFrom : Option ℕ → ℕ → List (List ℕ) → Option ℕ → Type 0
LiveFrom (Some at) from lines live_at = live_at ≡ Some at
LiveFrom None from lines live_at = LiveStands from lines live_at

live_behind : (from next : ℕ) (first : List ℕ) (lines : List (List ℕ)) (live_at : Option ℕ) → next ≡ from + 1 → LiveStands next lines live_at → LiveStands from (first ∷ lines) live_at
live_behind from next first lines None is told = tt
live_behind from next first lines (Some number) is told = says_behind false from next first lines number Live is told

from_behind : (live : Option ℕ) (from next : ℕ) (first : List ℕ) (lines : List (List ℕ)) (live_at : Option ℕ) → next ≡ from + 1 → LiveFrom live next lines live_at → LiveFrom live from (first ∷ lines) live_at
from_behind (Some at) from next first lines live_at is told = told
from_behind None from next first lines live_at is told = live_behind from next first lines live_at is told

-- the line `live` itself
live_here : (live : Option ℕ) (from : ℕ) (text : List ℕ) (lines : List (List ℕ)) (live_at : Option ℕ) → says (is_some live) text ≡ Ok Live → is_some live ≡ false → live_at ≡ Some from → LiveFrom live from (text ∷ lines) live_at
live_here None from text lines live_at said none is = subst (LiveStands from (text ∷ lines)) (sym is) (first_says false from text lines Live said)
live_here (Some at) from text lines live_at said none is = cc

-- the line of `live` for the lines from a place on, where it is so for those behind it
pub next_live : (place : Place) (s : Statement) (text : List ℕ) (lines : List (List ℕ)) (live_at : Option ℕ) → says (is_some place.live) text ≡ Ok s → IsPlaced (is_some place.live) s
    → LiveFrom (next_place place s).live (next_place place s).line lines live_at → LiveFrom place.live place.line (text ∷ lines) live_at
next_live place Nothing text lines live_at said placed told = from_behind place.live place.line (place.line + 1) text lines live_at refl told
next_live place (Order found) text lines live_at said placed told = from_behind place.live place.line (place.line + 1) text lines live_at refl told
next_live place Live text lines live_at said placed told = live_here place.live place.line text lines live_at said placed told
next_live place (After column count) text lines live_at said placed told = from_behind place.live place.line (place.line + 1) text lines live_at refl told

-- whether `live` stands on an earlier line is whether it stood before these lines
pub behind_is : (live : Option ℕ) (from : ℕ) (lines : List (List ℕ)) (live_at : Option ℕ) → IfSome live (λ at. at < from) → LiveFrom live from lines live_at → is_behind live_at from ≡ is_some live
behind_is (Some at) from lines live_at less told = ap (λ o. is_behind o from) told ∙ lt-ltb at from less
behind_is None from lines None less told = refl
behind_is None from lines (Some number) less told = le-ltb number from (omega (arith, told.number_is))

-- the script has all that the other has
record Extends (old new : Script) : Type 0 where
  live_at : new.live_at ≡ old.live_at
  before : (line : Line) (k : ℕ) → slice_get old.before k ≡ Some line → (j : ℕ) × (slice_get new.before j ≡ Some line)
  live : (step : Step) (k : ℕ) → slice_get old.live k ≡ Some step → (j : ℕ) × (slice_get new.live j ≡ Some step)

same_script : (script : Script) → Extends script script
same_script script = record { live_at = refl; before = λ line k e. (k, e); live = λ step k e. (k, e) }

with_command_extends : (live : Bool) (line : Line) (script : Script) → Extends script (with_command live line script)
with_command_extends false line script = record { live_at = refl; before = λ other k e. (suc k, e); live = λ step k e. (k, e) }
with_command_extends true line script = record { live_at = refl; before = λ other k e. (k, e); live = λ step k e. (suc k, e) }

with_statement_extends : (place : Place) (s : Statement) (script : Script) → Extends script (with_statement place s script)
with_statement_extends place Nothing script = same_script script
with_statement_extends place (Order found) script = with_command_extends (is_some place.live) (record { line = place.line; command = found }) script
with_statement_extends place Live script = same_script script
with_statement_extends place (After column count) script = record { live_at = refl; before = λ line k e. (k, e); live = λ step k e. (suc k, e) }

order_more : (live : Bool) (old new : Script) (line : Line) → Extends old new → HasOrder live old line → HasOrder live new line
order_more false old new line more has = more.before line has.0 has.1
order_more true old new line more has = more.live (Run line) has.0 has.1

held_more : (old new : Script) (number : ℕ) (s : Statement) → Extends old new → IsHeld old number s → IsHeld new number s
held_more old new number Nothing more held = tt
held_more old new number (Order found) more held =
    subst (λ at. HasOrder (is_behind at number) new (record { line = number; command = found })) (sym more.live_at) (order_more (is_behind old.live_at number) old new (record { line = number; command = found }) more held)
held_more old new number Live more held = more.live_at ∙ held
held_more old new number (After column count) more held = more.live (Wait count) held.0 held.1

holds_more : (old new : Script) (number : ℕ) (text : List ℕ) → Extends old new → Holds old number text → Holds new number text
holds_more old new number text more told = record {
  statement = told.statement;
  statement_is = ap (λ at. says (is_behind at number) text) more.live_at ∙ told.statement_is;
  held = held_more old new number told.statement more told.held;
}

-- what the line in front says is in the script
order_here : (live : Bool) (line : Line) (script : Script) → HasOrder live (with_command live line script) line
order_here false line script = (0, refl)
order_here true line script = (0, refl)

held_here : (place : Place) (s : Statement) (script : Script) → is_behind script.live_at place.line ≡ is_some place.live → (s ≡ Live → script.live_at ≡ Some place.line) → IsHeld (with_statement place s script) place.line s
held_here place Nothing script behind live = tt
held_here place (Order found) script behind live =
    let line : Line = record { line = place.line; command = found } in
    subst (λ b. HasOrder b (with_statement place (Order found) script) line) (sym (ap (λ at. is_behind at place.line) (with_statement_extends place (Order found) script).live_at ∙ behind)) (order_here (is_some place.live) line script)
held_here place Live script behind live = live refl
held_here place (After column count) script behind live = (0, refl)

-- where the line in front is `live`, it is the one
pub live_next : (place : Place) (s : Statement) (lines : List (List ℕ)) (live_at : Option ℕ) → LiveFrom (next_place place s).live (next_place place s).line lines live_at → s ≡ Live → live_at ≡ Some place.line
live_next place Nothing lines live_at told e = cc
live_next place (Order found) lines live_at told e = cc
live_next place Live lines live_at told e = told
live_next place (After column count) lines live_at told e = cc

-- what is read from this place on
record IsRead (place : Place) (lines : List (List ℕ)) (script : Script) : Type 0 where
  stands : AreOnTheirLines place.line lines place.line script
  live : LiveFrom place.live place.line lines script.live_at
  holds : (k : ℕ) (text : List ℕ) → slice_get lines k ≡ Some text → Holds script (place.line + k) text

holds_first : (place : Place) (s : Statement) (text : List ℕ) (lines : List (List ℕ)) (script : Script) → IfSome place.live (λ at. at < place.line) → says (is_some place.live) text ≡ Ok s → IsPlaced (is_some place.live) s
    → IsRead (next_place place s) lines script → Holds (with_statement place s script) (place.line + 0) text
holds_first place s text lines script less said placed read =
    let behind = behind_is place.live place.line (text ∷ lines) script.live_at less (next_live place s text lines script.live_at said placed read.live) in
    let same_live = (with_statement_extends place s script).live_at in
    let number : place.line ≡ place.line + 0 = omega arith in
    subst (λ n. Holds (with_statement place s script) n text) number (record {
      statement = s;
      statement_is = ap (λ at. says (is_behind at place.line) text) same_live ∙ ap (λ b. says b text) behind ∙ said;
      held = held_here place s script behind (live_next place s lines script.live_at read.live);
    })

-- what holds where two texts are the same
pub some_text : {P : Type 0} (text other : List ℕ) → Some text ≡ Some other → (text ≡ other → P) → P
some_text text other e then_so = then_so cc

holds_each : (place : Place) (s : Statement) (first : List ℕ) (lines : List (List ℕ)) (script : Script) → IfSome place.live (λ at. at < place.line) → says (is_some place.live) first ≡ Ok s → IsPlaced (is_some place.live) s
    → IsRead (next_place place s) lines script → (k : ℕ) (text : List ℕ) → slice_get (first ∷ lines) k ≡ Some text → Holds (with_statement place s script) (place.line + k) text
holds_each place s first lines script less said placed read zero text e =
    some_text first text e (λ is. subst (λ t. Holds (with_statement place s script) (place.line + 0) t) is (holds_first place s first lines script less said placed read))
holds_each place s first lines script less said placed read (suc k) text e =
    let number : (next_place place s).line + k ≡ place.line + suc k = omega (arith, next_line place s) in
    subst (λ n. Holds (with_statement place s script) n text) number (holds_more script (with_statement place s script) ((next_place place s).line + k) text (with_statement_extends place s script) (read.holds k text e))

later : (live : Option ℕ) (line : ℕ) → IfSome live (λ at. at < line) → IfSome live (λ at. at < line + 1)
later None line less = tt
later (Some at) line less = omega (arith, less)

-- `live` stood before the next line too
pub next_less : (place : Place) (s : Statement) → IfSome place.live (λ at. at < place.line) → IfSome (next_place place s).live (λ at. at < (next_place place s).line)
next_less place Nothing less = later place.live place.line less
next_less place (Order found) less = later place.live place.line less
next_less place Live less = omega arith
next_less place (After column count) less = later place.live place.line less

-- `live` may stand on no line behind those before
pub none_left : (live : Option ℕ) (from : ℕ) (lines : List (List ℕ)) → LiveFrom live from lines live
none_left None from lines = tt
none_left (Some at) from lines = refl

no_line : (script : Script) (number k : ℕ) (text : List ℕ) → slice_get [] k ≡ Some text → Holds script number text
no_line script number k text e = cc

from_read : (pace : Pace) (place : Place) (lines : List (List ℕ)) → IfSome place.live (λ at. at < place.line) → IfOk (script_from pace place lines) (IsRead place lines)
unfolding script_from
from_read pace place [] less = record { stands = record { before = tt; live = tt }; live = none_left place.live place.line []; holds = λ k text e. no_line _ (place.line + k) k text e }
from_read pace place (line ∷ lines) less =
    on_then (statement_at pace place line) _ (λ s. says (is_some place.live) line ≡ Ok s) (IsRead place (line ∷ lines)) (statement_at_says pace place line) (λ s said.
    let placed = placed_at place line s said in
    on_then (script_from pace (next_place place s) lines) _ (IsRead (next_place place s) lines) (IsRead place (line ∷ lines)) (from_read pace (next_place place s) lines (next_less place s less)) (λ script read.
    let stands : AreOnTheirLines place.line (line ∷ lines) (place.line + 1) script =
    subst (λ n. AreOnTheirLines place.line (line ∷ lines) n script) (next_line place s) (all_behind place.line (next_place place s).line line lines (next_place place s).line script (next_line place s) read.stands) in
    let behind = behind_is place.live place.line (line ∷ lines) script.live_at less (next_live place s line lines script.live_at said placed read.live) in
    record {
      stands = with_statement_stands place s line lines script said placed behind stands;
      live = subst (LiveFrom place.live place.line (line ∷ lines)) (sym (with_statement_extends place s script).live_at) (next_live place s line lines script.live_at said placed read.live);
      holds = holds_each place s line lines script less said placed read;
    }))

of_first : (lines : List (List ℕ)) (script : Script) → IsRead first_place lines script → IsOfItsLines lines script
of_first lines script read = record { stands = read.stands; live = read.live; holds = read.holds }

read_first : (lines : List (List ℕ)) (r : Result Script ScriptFault) → IfOk r (IsRead first_place lines) → IfOk r (IsOfItsLines lines)
read_first lines (Ok script) read = of_first lines script read
read_first lines (Err e) read = tt

-- the script of a file's lines is its lines
pub all_read : (pace : Pace) (lines : List (List ℕ)) → IfOk (script_from pace first_place lines) (IsOfItsLines lines)
all_read pace lines = read_first lines (script_from pace first_place lines) (from_read pace first_place lines tt)

-- what a script has stands on its lines, and what each line says is in the script
pub commands_stand : CommandsStandOnTheirLines
unfolding script_of
commands_stand pace bytes =
    on_if (nat_lt 1048576 (length bytes)) _ _ (IsOfItsLines (lines_of bytes)) tt
    (on_if (nat_lt 65536 (length (lines_of bytes))) _ _ (IsOfItsLines (lines_of bytes)) tt (all_read pace (lines_of bytes)))
