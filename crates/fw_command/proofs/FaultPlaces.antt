-- Each fault of a script that names a line and a column stands there.
use Rattle.std.proofs.Common.{◌≡◌, ◌∙◌, ap, sym, subst, ℕ, zero, suc, ◌+◌, ◌<◌, Bool, true, false, ◌&&◌, nat_le, nat_lt, if◌then◌else◌, Option, Some, None, List, [], ◌∷◌, Result, Ok, Err, length, map, codes, refl, arith}
use Rattle.std.specs.Prelude.{IfOk, IfErr, IfSome, is_some, slice_get}
use Rattle.fw_lex.specs.Words.{before_comment, first_bad, tokens_of}
use Rattle.ipfw_parser.specs.Reading.{Word, Fault, same, word_at}
use Rattle.ipfw_parser.specs.Rules.{rule_in, end_column}
use Rattle.ipfw_parser.proofs.Forms.Following.{on_bind, on_if as on_known}
use Rattle.fw_command.specs.Ends.{first_number}
use Rattle.fw_command.specs.Commands.{command}
use Rattle.fw_command.specs.Lines.{lines_of}
use Rattle.fw_command.specs.Statements.{live_statement, after_count, after_statement, statement, addition, words_say, says_unless, says}
use Rattle.fw_command.specs.Scripts as scripts
use Rattle.fw_command.specs.Scripts.{with_line_number, allowed_statement, statement_at, next_place, script_from, script_of, first_place}
use Rattle.fw_command.specs.Laws.{is_behind, IsFaultColumn, MayStand, IsFaultless, IsFirstFaulty, IsFirstWord, SaysFault, SaysAfter, IsFaultPlace, ScriptFaultsHaveTheirPlaces}
use Rattle.fw_command.specs.declared.script.Pace.{Pace}
use Rattle.fw_command.specs.declared.script.Pace.TheVariants.{Serial, Live as LivePace}
use Rattle.fw_command.specs.declared.statement.Place.{Place}
use Rattle.fw_command.specs.declared.statement.Statement.{Statement}
use Rattle.fw_command.specs.declared.statement.Statement.TheVariants.{Nothing, Order, Live, After}
use Rattle.fw_command.specs.declared.script_fault.ScriptFault.{ScriptFault}
use Rattle.fw_command.specs.declared.script_fault.ScriptFault.TheVariants.{TooLong, TooManyLines, Parse, PaceInLive, TooManyLive, OutOfMemory}
use Rattle.fw_command.proofs.OnResults.{any, on_if, finished_on}
use Rattle.fw_command.proofs.CommandPlaces.{columns_are}
use Rattle.fw_command.proofs.ScriptInRange.{on_then}
use Rattle.fw_command.proofs.ScriptSteps.{next_line}
use Rattle.fw_command.proofs.Standing.{LiveFrom, behind_is, live_next, next_less, next_live, none_left, placed_at, some_text, statement_at_says}

-- an `after` begins in its column, as the first of the words
abbrev IsFirstAfter : List Word → Statement → Type 0
IsFirstAfter words Nothing = Unit {0}
IsFirstAfter words (Order found) = Unit {0}
IsFirstAfter words Live = Unit {0}
IsFirstAfter words (After column count) = IsFirstWord (codes "after") column words

live_first : (live : Bool) (word : Word) (words all : List Word) → IfOk (live_statement live word words) (IsFirstAfter all)
unfolding live_statement
live_first true word words all = tt
live_first false word words all = finished_on Live words (IsFirstAfter all) tt

after_first : (live : Bool) (end : ℕ) (word : Word) (words : List Word) → same word.text (codes "after") ≡ true → IfOk (after_statement live end word words) (IsFirstAfter (word ∷ words))
unfolding after_statement after_count
after_first false end word words is = tt
after_first true end word words is =
    on_bind (first_number 0 33554432 end words) _ (λ _. Unit {0}) (IsFirstAfter (word ∷ words)) (any (first_number 0 33554432 end words)) (λ count u. finished_on _ count.1 (IsFirstAfter (word ∷ words)) (is, refl))

statement_first : (live : Bool) (end : ℕ) (word : Word) (words : List Word) → IfOk (statement live end word words) (IsFirstAfter (word ∷ words))
unfolding statement
statement_first live end word words =
    on_if (same word.text (codes "live")) _ _ (IsFirstAfter (word ∷ words)) (live_first live word words (word ∷ words))
    (on_known (same word.text (codes "after")) (after_statement live end word words) _ (IsFirstAfter (word ∷ words)) (λ is. after_first live end word words is)
    (λ _. on_bind (command end word words) _ (λ _. Unit {0}) (IsFirstAfter (word ∷ words)) (any (command end word words)) (λ found u. tt)))

addition_first : (line : List ℕ) (all : List Word) → IfOk (addition line) (IsFirstAfter all)
unfolding addition
addition_first line all = on_bind (rule_in line (tokens_of line) 1) _ (λ _. Unit {0}) (IsFirstAfter all) (any (rule_in line (tokens_of line) 1)) (λ draft u. tt)

words_first : (live : Bool) (line : List ℕ) (words : List Word) → IfOk (words_say live line words) (IsFirstAfter words)
unfolding words_say
words_first live line [] = tt
words_first live line (word ∷ words) =
    on_if (same word.text (codes "add")) _ _ (IsFirstAfter (word ∷ words)) (addition_first line (word ∷ words))
    (statement_first live (end_column (length (before_comment line)) (tokens_of line)) word words)

unless_first : (live : Bool) (line : List ℕ) (bad : Option ℕ) → IfOk (says_unless live line bad) (IsFirstAfter (map (word_at line) (tokens_of line)))
unless_first live line (Some at) = tt
unless_first live line None = words_first live line (map (word_at line) (tokens_of line))

says_first : (live : Bool) (line : List ℕ) → IfOk (says live line) (IsFirstAfter (map (word_at line) (tokens_of line)))
unfolding says
says_first live line = unless_first live line (first_bad (before_comment line))

-- the same as IsFirstFaulty of the lines from a place on, where `live` may stand before them
record IsFaultyFrom (pace : Pace) (place : Place) (lines : List (List ℕ)) (number : ℕ) (P : Bool → List ℕ → Type 0) : Type 0 where
  past : ℕ
  text : List ℕ
  live_at : Option ℕ
  number_is : number ≡ place.line + past
  there : slice_get lines past ≡ Some text
  live : LiveFrom place.live place.line lines live_at
  holds : P (is_behind live_at number) text
  earlier : (k : ℕ) (other : List ℕ) → k < past → slice_get lines k ≡ Some other → IsFaultless pace live_at (place.line + k) other

-- the same as IsFaultPlace, from a place on
abbrev IsPlaceFrom : Pace → Place → List (List ℕ) → ScriptFault → Type 0
IsPlaceFrom pace place lines TooLong = Unit {0}
IsPlaceFrom pace place lines TooManyLines = Unit {0}
IsPlaceFrom pace place lines (Parse number column kind) = IsFaultyFrom pace place lines number (SaysFault (record { column = column; kind = kind }))
IsPlaceFrom pace place lines (PaceInLive number column) = (pace ≡ LivePace) × IsFaultyFrom pace place lines number (SaysAfter column)
IsPlaceFrom pace place lines TooManyLive = Unit {0}
IsPlaceFrom pace place lines OutOfMemory = Unit {0}

-- `live` stands before the lines from a place on, if it stood before
abbrev IsBefore : Place → Type 0
IsBefore place = IfSome place.live (λ at. at < place.line)

-- what holds of the line in front holds on the first line
here : (pace : Pace) (place : Place) (line : List ℕ) (lines : List (List ℕ)) (P : Bool → List ℕ → Type 0) → IsBefore place → P (is_some place.live) line → IsFaultyFrom pace place (line ∷ lines) place.line P
here pace place line lines P less p =
    let live = none_left place.live place.line (line ∷ lines) in
    record {
      past = 0;
      text = line;
      live_at = place.live;
      number_is = omega arith;
      there = refl;
      live = live;
      holds = subst (λ b. P b line) (sym (behind_is place.live place.line (line ∷ lines) place.live less live)) p;
      earlier = λ k other low e. absurd (omega (arith, low));
    }

-- the line in front has no fault
faultless_first : (pace : Pace) (place : Place) (s : Statement) (first : List ℕ) (lines : List (List ℕ)) (live_at : Option ℕ) → IsBefore place → says (is_some place.live) first ≡ Ok s → MayStand pace s
    → LiveFrom (next_place place s).live (next_place place s).line lines live_at → IsFaultless pace live_at (place.line + 0) first
faultless_first pace place s first lines live_at less said may live =
    let behind = behind_is place.live place.line (first ∷ lines) live_at less (next_live place s first lines live_at said (placed_at place first s said) live) in
    let number : place.line ≡ place.line + 0 = omega arith in
    subst (λ n. IsFaultless pace live_at n first) number (record {
      statement = s;
      statement_is = ap (λ b. says b first) behind ∙ said;
      may_stand = may;
      live = live_next place s lines live_at live;
    })

faultless_each : (pace : Pace) (place : Place) (s : Statement) (first : List ℕ) (lines : List (List ℕ)) (live_at : Option ℕ) (past : ℕ) → IsBefore place → says (is_some place.live) first ≡ Ok s → MayStand pace s
    → LiveFrom (next_place place s).live (next_place place s).line lines live_at → ((k : ℕ) (other : List ℕ) → k < past → slice_get lines k ≡ Some other → IsFaultless pace live_at ((next_place place s).line + k) other)
    → (k : ℕ) (other : List ℕ) → k < suc past → slice_get (first ∷ lines) k ≡ Some other → IsFaultless pace live_at (place.line + k) other
faultless_each pace place s first lines live_at past less said may live earlier zero other low e =
    some_text first other e (λ is. subst (λ t. IsFaultless pace live_at (place.line + 0) t) is (faultless_first pace place s first lines live_at less said may live))
faultless_each pace place s first lines live_at past less said may live earlier (suc k) other low e =
    let number : (next_place place s).line + k ≡ place.line + suc k = omega (arith, next_line place s) in
    subst (λ n. IsFaultless pace live_at n other) number (earlier k other (omega (arith, low)) e)

-- one line without a fault more in front
line_behind : (pace : Pace) (place : Place) (s : Statement) (first : List ℕ) (lines : List (List ℕ)) (number : ℕ) (P : Bool → List ℕ → Type 0) → IsBefore place → says (is_some place.live) first ≡ Ok s → MayStand pace s
    → IsFaultyFrom pace (next_place place s) lines number P → IsFaultyFrom pace place (first ∷ lines) number P
line_behind pace place s first lines number P less said may told = record {
  past = suc told.past;
  text = told.text;
  live_at = told.live_at;
  number_is = omega (arith, told.number_is, next_line place s);
  there = told.there;
  live = next_live place s first lines told.live_at said (placed_at place first s said) told.live;
  holds = told.holds;
  earlier = faultless_each pace place s first lines told.live_at told.past less said may told.live told.earlier;
}

fault_behind : (pace : Pace) (place : Place) (s : Statement) (first : List ℕ) (lines : List (List ℕ)) (fault : ScriptFault) → IsBefore place → says (is_some place.live) first ≡ Ok s → MayStand pace s → IsPlaceFrom pace (next_place place s) lines fault → IsPlaceFrom pace place (first ∷ lines) fault
fault_behind pace place s first lines TooLong less said may told = tt
fault_behind pace place s first lines TooManyLines less said may told = tt
fault_behind pace place s first lines (Parse number column kind) less said may told = line_behind pace place s first lines number _ less said may told
fault_behind pace place s first lines (PaceInLive number column) less said may told = (told.0, line_behind pace place s first lines number _ less said may told.1)
fault_behind pace place s first lines TooManyLive less said may told = tt
fault_behind pace place s first lines OutOfMemory less said may told = tt

-- the fault of either step has its place
fault_then : {X Y : Type 0} (r : Result X ScriptFault) (f : X → Result Y ScriptFault) (Q : X → Type 0) (P : ScriptFault → Type 0) → IfErr r P → IfOk r Q → ((x : X) → Q x → IfErr (f x) P) → IfErr (scripts.◌>>=◌ r f) P
fault_then (Ok x) f Q P p said q = q x said
fault_then (Err e) f Q P p said q = p

fault_if : {X : Type 0} (b : Bool) (r s : Result X ScriptFault) (P : ScriptFault → Type 0) → IfErr r P → IfErr s P → IfErr (if b then r else s) P
fault_if true r s P p q = p
fault_if false r s P p q = q

fault_weaker : {X : Type 0} (r : Result X ScriptFault) (P Q : ScriptFault → Type 0) → ((fault : ScriptFault) → P fault → Q fault) → IfErr r P → IfErr r Q
fault_weaker (Ok x) P Q more p = tt
fault_weaker (Err e) P Q more p = more e p

allowed_place : (pace : Pace) (place : Place) (line : List ℕ) (lines : List (List ℕ)) (s : Statement) → IsBefore place → says (is_some place.live) line ≡ Ok s → IsFirstAfter (map (word_at line) (tokens_of line)) s
    → IfErr (allowed_statement pace place s) (IsPlaceFrom pace place (line ∷ lines))
allowed_place Serial place line lines Nothing less said p = tt
allowed_place Serial place line lines (Order found) less said p = fault_if (is_some place.live && nat_le 4096 place.ran) _ _ (IsPlaceFrom Serial place (line ∷ lines)) tt tt
allowed_place Serial place line lines Live less said p = tt
allowed_place Serial place line lines (After column count) less said p = tt
allowed_place LivePace place line lines Nothing less said p = tt
allowed_place LivePace place line lines (Order found) less said p = fault_if (is_some place.live && nat_le 4096 place.ran) _ _ (IsPlaceFrom LivePace place (line ∷ lines)) tt tt
allowed_place LivePace place line lines Live less said p = tt
allowed_place LivePace place line lines (After column count) less said p = (refl, here LivePace place line lines (SaysAfter column) less ((count, said), p))

said_place : (pace : Pace) (place : Place) (line : List ℕ) (lines : List (List ℕ)) (said : Result Statement Fault) → IsBefore place → says (is_some place.live) line ≡ said
    → IfErr said (λ fault. IsFaultColumn line fault (first_bad (before_comment line))) → IfOk said (IsFirstAfter (map (word_at line) (tokens_of line)))
    → IfErr (scripts.◌>>=◌ (with_line_number place.line said) (allowed_statement pace place)) (IsPlaceFrom pace place (line ∷ lines))
said_place pace place line lines (Ok s) less e p q = allowed_place pace place line lines s less e q
said_place pace place line lines (Err fault) less e p q = here pace place line lines (SaysFault (record { column = fault.column; kind = fault.kind })) less (e, p)

statement_place : (pace : Pace) (place : Place) (line : List ℕ) (lines : List (List ℕ)) → IsBefore place → IfErr (statement_at pace place line) (IsPlaceFrom pace place (line ∷ lines))
unfolding statement_at
statement_place pace place line lines less =
    said_place pace place line lines (says (is_some place.live) line) less refl (columns_are (is_some place.live) line) (says_first (is_some place.live) line)

-- a statement that is read may stand at the pace
allowed_may : (pace : Pace) (place : Place) (s : Statement) → IfOk (allowed_statement pace place s) (MayStand pace)
allowed_may Serial place Nothing = tt
allowed_may Serial place (Order found) = on_if (is_some place.live && nat_le 4096 place.ran) _ _ (MayStand Serial) tt tt
allowed_may Serial place Live = tt
allowed_may Serial place (After column count) = tt
allowed_may LivePace place Nothing = tt
allowed_may LivePace place (Order found) = on_if (is_some place.live && nat_le 4096 place.ran) _ _ (MayStand LivePace) tt tt
allowed_may LivePace place Live = tt
allowed_may LivePace place (After column count) = tt

statement_may : (pace : Pace) (place : Place) (line : List ℕ) → IfOk (statement_at pace place line) (MayStand pace)
unfolding statement_at
statement_may pace place line =
    on_then (with_line_number place.line (says (is_some place.live) line)) _ (λ _. Unit {0}) (MayStand pace) (any (with_line_number place.line (says (is_some place.live) line))) (λ s u. allowed_may pace place s)

both_on : {X : Type 0} (r : Result X ScriptFault) (P Q : X → Type 0) → IfOk r P → IfOk r Q → IfOk r (λ x. P x × Q x)
both_on (Ok x) P Q p q = (p, q)
both_on (Err e) P Q p q = tt

from_place : (pace : Pace) (place : Place) (lines : List (List ℕ)) → IsBefore place → IfErr (script_from pace place lines) (IsPlaceFrom pace place lines)
unfolding script_from
from_place pace place [] less = tt
from_place pace place (line ∷ lines) less =
    fault_then (statement_at pace place line) _ (λ s. (says (is_some place.live) line ≡ Ok s) × MayStand pace s) (IsPlaceFrom pace place (line ∷ lines)) (statement_place pace place line lines less)
    (both_on (statement_at pace place line) _ (MayStand pace) (statement_at_says pace place line) (statement_may pace place line)) (λ s said.
    fault_then (script_from pace (next_place place s) lines) _ (λ _. Unit {0}) (IsPlaceFrom pace place (line ∷ lines))
    (fault_weaker (script_from pace (next_place place s) lines) (IsPlaceFrom pace (next_place place s) lines) (IsPlaceFrom pace place (line ∷ lines)) (λ fault. fault_behind pace place s line lines fault less said.0 said.1) (from_place pace (next_place place s) lines (next_less place s less)))
    (any (script_from pace (next_place place s) lines)) (λ script u. tt))

first_faulty : (pace : Pace) (lines : List (List ℕ)) (number : ℕ) (P : Bool → List ℕ → Type 0) → IsFaultyFrom pace first_place lines number P → IsFirstFaulty pace 1 lines number P
first_faulty pace lines number P told = record {
  place = told.past;
  text = told.text;
  live_at = told.live_at;
  number_is = told.number_is;
  there = told.there;
  live = told.live;
  holds = told.holds;
  earlier = told.earlier;
}

of_first : (pace : Pace) (lines : List (List ℕ)) (fault : ScriptFault) → IsPlaceFrom pace first_place lines fault → IsFaultPlace pace 1 lines fault
of_first pace lines TooLong told = tt
of_first pace lines TooManyLines told = tt
of_first pace lines (Parse number column kind) told = first_faulty pace lines number _ told
of_first pace lines (PaceInLive number column) told = (told.0, first_faulty pace lines number _ told.1)
of_first pace lines TooManyLive told = tt
of_first pace lines OutOfMemory told = tt

-- the fault of a file's lines has its place
pub all_placed : (pace : Pace) (lines : List (List ℕ)) → IfErr (script_from pace first_place lines) (IsFaultPlace pace 1 lines)
all_placed pace lines = fault_weaker (script_from pace first_place lines) (IsPlaceFrom pace first_place lines) (IsFaultPlace pace 1 lines) (of_first pace lines) (from_place pace first_place lines tt)

-- a script's fault that names a line and a column stands there
pub places_are : ScriptFaultsHaveTheirPlaces
unfolding script_of
places_are pace bytes =
    fault_if (nat_lt 1048576 (length bytes)) _ _ (IsFaultPlace pace 1 (lines_of bytes)) tt
    (fault_if (nat_lt 65536 (length (lines_of bytes))) _ _ (IsFaultPlace pace 1 (lines_of bytes)) tt (all_placed pace (lines_of bytes)))
