-- What a script's lines and commands are, in other words.
use Rattle.std.specs.Prelude.{◌≡◌, ℕ, ◌+◌, Bool, true, false, nat_lt, Option, Some, None, Ok, Err, IfOk, IfErr, IfSome, ⊤, List, [], ◌∷◌, ◌==◌, if◌then◌else◌, ◌≤◌, ◌<◌, length, map, slice_get, codes}
use Rattle.std.specs.List.{onto_first}
use Rattle.fw_lex.specs.Words.{before_comment, first_bad, tokens_of}
use Rattle.ipfw_parser.specs.declared.kind.Kind.TheVariants.{BadByte}
use Rattle.ipfw_parser.specs.Reading.{Word, Fault, same, word_at}
use Rattle.ipfw_parser.specs.Rules.{end_column}
use Rattle.ipfw_parser.specs.Places.{IsColumn}
use Rattle.fw_command.specs.Lines.{lines_of}
use Rattle.fw_command.specs.Statements.{says}
use Rattle.fw_command.specs.Scripts.{script_of}
use Rattle.fw_command.specs.declared.script.Pace.{Pace}
use Rattle.fw_command.specs.declared.script.Pace.TheVariants.{Serial, Live as LivePace}
use Rattle.fw_command.specs.declared.script.Line.{Line}
use Rattle.fw_command.specs.declared.statement.Statement.{Statement}
use Rattle.fw_command.specs.declared.statement.Statement.TheVariants.{Nothing, Order, Live, After}
use Rattle.fw_command.specs.declared.script.Step.{Step}
use Rattle.fw_command.specs.declared.script.Step.TheVariants.{Run, After as Wait}
use Rattle.fw_command.specs.declared.script.Script.{Script}
use Rattle.fw_command.specs.declared.script_fault.ScriptFault.{ScriptFault}
use Rattle.fw_command.specs.declared.script_fault.ScriptFault.TheVariants.{TooLong, TooManyLines, Parse, PaceInLive, TooManyLive, OutOfMemory}

-- byte after byte: a byte 10 ends a line, and every other byte stands before the first line of those behind it
pub record LinesGoByBytes : Type 0 where
  pub none : lines_of [] ≡ []
  pub more : (byte : ℕ) (bytes : List ℕ) → lines_of (byte ∷ bytes) ≡ (if byte == 10 then [] ∷ lines_of bytes else onto_first byte (lines_of bytes))

-- the line of this number is there and says this; the first of the lines has the number `from`
pub record Says (live : Bool) (from : ℕ) (lines : List (List ℕ)) (number : ℕ) (statement : Statement) : Type 0 where
  pub place : ℕ
  pub text : List ℕ
  pub number_is : number ≡ from + place
  pub there : slice_get lines place ≡ Some text
  pub statement_is : says live text ≡ Ok statement

-- `live` stands on an earlier line
abbrev pub is_behind : Option ℕ → ℕ → Bool
is_behind None number = false
is_behind (Some at) number = nat_lt at number

-- the line of this number says this, on this side of `live`
abbrev pub Stands : Option ℕ → Bool → ℕ → List (List ℕ) → ℕ → Statement → Type 0
Stands live_at live from lines number statement = (is_behind live_at number ≡ live) × Says live from lines number statement

-- each command before `live` stands on the line of its number, behind that of the command before it; the first at
-- `least` or behind it
abbrev pub CommandsStand : Option ℕ → ℕ → List (List ℕ) → ℕ → List Line → Type 0
CommandsStand live_at from lines least [] = ⊤
CommandsStand live_at from lines least (line ∷ commands) =
    (least ≤ line.line) × (Stands live_at false from lines line.line (Order line.command) × CommandsStand live_at from lines (line.line + 1) commands)

-- a step behind `live` stands on the line of this number: a command on that of its own, an `after` on some line
abbrev pub StepStands : Option ℕ → ℕ → List (List ℕ) → ℕ → Step → Type 0
StepStands live_at from lines number (Run line) = (number ≡ line.line) × Stands live_at true from lines number (Order line.command)
StepStands live_at from lines number (Wait count) = (column : ℕ) × Stands live_at true from lines number (After column count)

-- each step behind `live` stands on a line behind that of the step before it; the first at `least` or behind it
abbrev pub StepsStand : Option ℕ → ℕ → List (List ℕ) → ℕ → List Step → Type 0
StepsStand live_at from lines least [] = ⊤
StepsStand live_at from lines least (step ∷ steps) =
    (number : ℕ) × ((least ≤ number) × (StepStands live_at from lines number step × StepsStand live_at from lines (number + 1) steps))

-- the number of the line `live` is that of a line that says so
abbrev pub LiveStands : ℕ → List (List ℕ) → Option ℕ → Type 0
LiveStands from lines live_at = IfSome live_at (λ number. Says false from lines number Live)

-- what a script has stands on its lines, in their order
pub record AreOnTheirLines (from : ℕ) (lines : List (List ℕ)) (least : ℕ) (script : Script) : Type 0 where
  pub before : CommandsStand script.live_at from lines least script.before
  pub live : StepsStand script.live_at from lines least script.live

-- the script has the command before `live`, or behind it
abbrev pub HasOrder : Bool → Script → Line → Type 0
HasOrder false script line = (place : ℕ) × (slice_get script.before place ≡ Some line)
HasOrder true script line = (place : ℕ) × (slice_get script.live place ≡ Some (Run line))

-- what a line of this number says is in the script
abbrev pub IsHeld : Script → ℕ → Statement → Type 0
IsHeld script number Nothing = ⊤
IsHeld script number (Order command) = HasOrder (is_behind script.live_at number) script (record { line = number; command = command })
IsHeld script number Live = script.live_at ≡ Some number
IsHeld script number (After column count) = (place : ℕ) × (slice_get script.live place ≡ Some (Wait count))

-- the line of this number has no fault, and what it says is in the script
pub record Holds (script : Script) (number : ℕ) (text : List ℕ) : Type 0 where
  pub statement : Statement
  pub statement_is : says (is_behind script.live_at number) text ≡ Ok statement
  pub held : IsHeld script number statement

-- a script is its lines: what it has stands on them in their order, and it has what they say
pub record IsOfItsLines (lines : List (List ℕ)) (script : Script) : Type 0 where
  pub stands : AreOnTheirLines 1 lines 1 script
  pub live : LiveStands 1 lines script.live_at
  pub holds : (place : ℕ) (text : List ℕ) → slice_get lines place ≡ Some text → Holds script (1 + place) text

-- each command, `after` and `live` of a script is what a line says, in the order of the lines, and what each line
-- says is in the script
abbrev pub CommandsStandOnTheirLines : Type 0
CommandsStandOnTheirLines = (pace : Pace) (bytes : List ℕ) → IfOk (script_of pace bytes) (IsOfItsLines (lines_of bytes))

-- Where the fault of a line stands: at the first byte that may not stand before its comment; else where one
-- of its words begins, or one past its last word.
abbrev pub IsFaultColumn : List ℕ → Fault → Option ℕ → Type 0
IsFaultColumn line fault (Some at) = (fault.kind ≡ BadByte) × (fault.column ≡ at + 1)
IsFaultColumn line fault None = IsColumn (end_column (length (before_comment line)) (tokens_of line)) (map (word_at line) (tokens_of line)) fault.column

-- each fault of a line has its column
abbrev pub FaultsHaveTheirColumns : Type 0
FaultsHaveTheirColumns = (live : Bool) (line : List ℕ) → IfErr (says live line) (λ fault. IsFaultColumn line fault (first_bad (before_comment line)))

-- at pace Live no `after` may stand
abbrev pub MayStand : Pace → Statement → Type 0
MayStand pace Nothing = ⊤
MayStand pace (Order command) = ⊤
MayStand pace Live = ⊤
MayStand Serial (After column count) = ⊤
MayStand LivePace (After column count) = ⊥

-- the line of this number says something without a fault, and where it says `live`, this is the one that stands there
pub record IsFaultless (pace : Pace) (live_at : Option ℕ) (number : ℕ) (text : List ℕ) : Type 0 where
  pub statement : Statement
  pub statement_is : says (is_behind live_at number) text ≡ Ok statement
  pub may_stand : MayStand pace statement
  pub live : statement ≡ Live → live_at ≡ Some number

-- The line of this number is there, this holds of it on its side of `live`, and no line before it has a fault; the
-- first of the lines has the number `from`.
pub record IsFirstFaulty (pace : Pace) (from : ℕ) (lines : List (List ℕ)) (number : ℕ) (P : Bool → List ℕ → Type 0) : Type 0 where
  pub place : ℕ
  pub text : List ℕ
  pub live_at : Option ℕ
  pub number_is : number ≡ from + place
  pub there : slice_get lines place ≡ Some text
  pub live : LiveStands from lines live_at
  pub holds : P (is_behind live_at number) text
  pub earlier : (k : ℕ) (other : List ℕ) → k < place → slice_get lines k ≡ Some other → IsFaultless pace live_at (from + k) other

-- the first of the words is this one, and begins in this column
abbrev pub IsFirstWord : List ℕ → ℕ → List Word → Type 0
IsFirstWord name column [] = ⊥
IsFirstWord name column (word ∷ words) = (same word.text name ≡ true) × (column ≡ word.column)

-- the line begins with `after`, in this column
abbrev pub IsAfterColumn : ℕ → List ℕ → Type 0
IsAfterColumn column line = IsFirstWord (codes "after") column (map (word_at line) (tokens_of line))

-- the line's fault is this one, and has its column
abbrev pub SaysFault : Fault → Bool → List ℕ → Type 0
SaysFault fault live line = (says live line ≡ Err fault) × IsFaultColumn line fault (first_bad (before_comment line))

-- the line says `after`, which begins in this column
abbrev pub SaysAfter : ℕ → Bool → List ℕ → Type 0
SaysAfter column live line = ((count : ℕ) × (says live line ≡ Ok (After column count))) × IsAfterColumn column line

-- Where the fault of a script stands: the fault of a line on the first line that has one, in a column of it; an
-- `after` at pace Live on its line, where the word begins, with no fault before it. The other faults are the whole
-- script's.
abbrev pub IsFaultPlace : Pace → ℕ → List (List ℕ) → ScriptFault → Type 0
IsFaultPlace pace from lines TooLong = ⊤
IsFaultPlace pace from lines TooManyLines = ⊤
IsFaultPlace pace from lines (Parse number column kind) = IsFirstFaulty pace from lines number (SaysFault (record { column = column; kind = kind }))
IsFaultPlace pace from lines (PaceInLive number column) = (pace ≡ LivePace) × IsFirstFaulty pace from lines number (SaysAfter column)
IsFaultPlace pace from lines TooManyLive = ⊤
IsFaultPlace pace from lines OutOfMemory = ⊤

-- each fault of a script that a line has is that of its first line with one, in its column
abbrev pub ScriptFaultsHaveTheirPlaces : Type 0
ScriptFaultsHaveTheirPlaces = (pace : Pace) (bytes : List ℕ) → IfErr (script_of pace bytes) (IsFaultPlace pace 1 (lines_of bytes))
