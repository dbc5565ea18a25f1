-- A script: the commands of its lines before `live` and the steps behind it, or the first fault.
use Rattle.std.specs.Prelude.{◌≡◌, ℕ, ◌+◌, Bool, true, false, ◌&&◌, nat_le, nat_lt, if◌then◌else◌, Some, None, is_some, Result, Ok, Err, List, [], ◌∷◌, length}
use Rattle.ipfw_parser.specs.declared.parse_fault.ParseFault.{ParseFault}
use Rattle.ipfw_parser.specs.declared.parse_fault.ParseFault.TheVariants.{At, OutOfMemory as NoMemory}
use Rattle.ipfw_parser.specs.Reading.{Fault}
use Rattle.fw_command.specs.Lines.{lines_of}
use Rattle.fw_command.specs.Statements.{says}
use Rattle.fw_command.specs.declared.statement.Statement.{Statement}
use Rattle.fw_command.specs.declared.statement.Statement.TheVariants.{Nothing, Order, Live, After}
use Rattle.fw_command.specs.declared.script.Pace.{Pace}
use Rattle.fw_command.specs.declared.script.Pace.TheVariants.{Serial, Live as LivePace}
use Rattle.fw_command.specs.declared.statement.Place.{Place}
use Rattle.fw_command.specs.declared.script.Line.{Line}
use Rattle.fw_command.specs.declared.script.Step.TheVariants.{Run, After as AfterPackets}
use Rattle.fw_command.specs.declared.script.Script.{Script}
use Rattle.fw_command.specs.declared.script_fault.ScriptFault.{ScriptFault}
use Rattle.fw_command.specs.declared.script_fault.ScriptFault.TheVariants.{TooLong, TooManyLines, Parse, PaceInLive, TooManyLive, OutOfMemory}

infixl 10 ◌>>=◌
-- the second step on what the first gives, or the first fault
abbrev pub ◌>>=◌ : {X Y : Type 0} → Result X ScriptFault → (X → Result Y ScriptFault) → Result Y ScriptFault
(Ok x) >>= f = f x
(Err e) >>= f = Err e

-- a line's fault, with the line's number
abbrev pub with_line_number : ℕ → Result Statement Fault → Result Statement ScriptFault
with_line_number number (Ok statement) = Ok statement
with_line_number number (Err fault) = Err (Parse number fault.column fault.kind)

-- behind `live` no `after` stands at pace Live, and there are at most 4,096 commands
abbrev pub allowed_statement : Pace → Place → Statement → Result Statement ScriptFault
allowed_statement LivePace place (After column count) = Err (PaceInLive place.line column)
allowed_statement Serial place (After column count) = Ok (After column count)
allowed_statement pace place (Order command) = if is_some place.live && nat_le 4096 place.ran then Err TooManyLive else Ok (Order command)
allowed_statement pace place Nothing = Ok Nothing
allowed_statement pace place Live = Ok Live

-- what a line at this place says, or its fault
unfoldable pub statement_at : Pace → Place → List ℕ → Result Statement ScriptFault
statement_at pace place line = with_line_number place.line (says (is_some place.live) line) >>= allowed_statement pace place

-- the place of the line behind one that says this
abbrev pub next_place : Place → Statement → Place
next_place place Nothing = record { line = place.line + 1; live = place.live; ran = place.ran }
next_place place (Order command) = record { line = place.line + 1; live = place.live; ran = if is_some place.live then place.ran + 1 else place.ran }
next_place place Live = record { line = place.line + 1; live = Some place.line; ran = place.ran }
next_place place (After column count) = record { line = place.line + 1; live = place.live; ran = place.ran }

-- the command, before those of the script behind it
abbrev pub with_command : Bool → Line → Script → Script
with_command false line script = record { before = line ∷ script.before; live_at = script.live_at; live = script.live }
with_command true line script = record { before = script.before; live_at = script.live_at; live = Run line ∷ script.live }

-- what the line at this place says, before the script behind it
abbrev pub with_statement : Place → Statement → Script → Script
with_statement place Nothing script = script
with_statement place (Order command) script = with_command (is_some place.live) (record { line = place.line; command = command }) script
with_statement place Live script = script
with_statement place (After column count) script = record { before = script.before; live_at = script.live_at; live = AfterPackets count ∷ script.live }

-- the script of the lines from this place on
unfoldable pub script_from : Pace → Place → List (List ℕ) → Result Script ScriptFault
script_from pace place [] = Ok (record { before = []; live_at = place.live; live = [] })
script_from pace place (line ∷ lines) = do
  statement ← statement_at pace place line
  script ← script_from pace (next_place place statement) lines
  Ok (with_statement place statement script)

-- the place of a script's first line
abbrev pub first_place : Place
first_place = record { line = 1; live = None; ran = 0 }

-- a script of at most 1,048,576 bytes and 65,536 lines
unfoldable pub script_of : Pace → List ℕ → Result Script ScriptFault
script_of pace bytes =
    if nat_lt 1048576 (length bytes) then Err TooLong
    else if nat_lt 65536 (length (lines_of bytes)) then Err TooManyLines
    else script_from pace first_place (lines_of bytes)

-- What a call answered is what the script comes to, unless memory ran out.
abbrev pub Reads : {X : Type 0} → Result X ScriptFault → Result X ScriptFault → Type 0
Reads (Err OutOfMemory) script = Unit {0}
Reads result script = result ≡ script

-- the same of a line, told of what the parser answered
abbrev pub IsOnLine : ℕ → Result Statement ParseFault → Result Statement ScriptFault → Type 0
IsOnLine number (Ok statement) result = result ≡ Ok statement
IsOnLine number (Err (At column kind)) result = result ≡ Err (Parse number column kind)
IsOnLine number (Err NoMemory) result = result ≡ Err OutOfMemory
