-- The commands behind `live` between the records: they run in order; behind a line `after N` the next waits
-- until N records in all were taken, and runs before the next record (this project's own).
use Rattle.std.specs.Prelude.{◌≡◌, ℕ, nat_le, if◌then◌else◌, Option, Some, None, List, [], ◌∷◌, ◌++◌}
use Rattle.fw_command.specs.declared.script.Line.{Line}
use Rattle.fw_command.specs.declared.script.Step.{Step}
use Rattle.fw_command.specs.declared.script.Step.TheVariants.{Run, After}
use Rattle.fw_command.specs.Steps.{all_lines}

-- the lines that run before the next record where so many were taken
abbrev pub due_lines : ℕ → List Step → List Line
due_lines taken [] = []
due_lines taken (Run line ∷ steps) = line ∷ due_lines taken steps
due_lines taken (After count ∷ steps) = if nat_le count taken then due_lines taken steps else []

-- the steps that wait behind them
abbrev pub waiting_steps : ℕ → List Step → List Step
waiting_steps taken [] = []
waiting_steps taken (Run line ∷ steps) = waiting_steps taken steps
waiting_steps taken (After count ∷ steps) = if nat_le count taken then waiting_steps taken steps else After count ∷ steps

-- these steps are the last ones of those
abbrev pub AreLast : List Step → List Step → Type 0
AreLast new old = (passed : List Step) × (old ≡ passed ++ new)

-- This line is due where so many records were taken, and these steps are behind it.
pub record GivesDue (taken : ℕ) (old : List Step) (line : Line) (new : List Step) : Type 0 where
  pub due : due_lines taken old ≡ line ∷ due_lines taken new
  pub waiting : waiting_steps taken old ≡ waiting_steps taken new
  pub all : all_lines old ≡ line ∷ all_lines new
  pub last : AreLast (Run line ∷ new) old

-- No line is due where so many records were taken, and these steps wait.
pub record NoneIsDue (taken : ℕ) (old new : List Step) : Type 0 where
  pub due : due_lines taken old ≡ []
  pub waiting : waiting_steps taken old ≡ new
  pub all : all_lines old ≡ all_lines new
  pub last : AreLast new old

-- this line is the next, whatever it waits for, and these steps are behind it
pub record GivesRest (old : List Step) (line : Line) (new : List Step) : Type 0 where
  pub all : all_lines old ≡ line ∷ all_lines new
  pub last : AreLast (Run line ∷ new) old

-- no line is left, and no step
pub record NoneIsLeft (old new : List Step) : Type 0 where
  pub all : all_lines old ≡ []
  pub steps : new ≡ []

-- the next line that is due, or that none is
abbrev pub IsNextDue : ℕ → List Step → List Step → Option Line → Type 0
IsNextDue taken old new None = NoneIsDue taken old new
IsNextDue taken old new (Some line) = GivesDue taken old line new

-- the next line, or that none is left
abbrev pub IsNextLeft : List Step → List Step → Option Line → Type 0
IsNextLeft old new None = NoneIsLeft old new
IsNextLeft old new (Some line) = GivesRest old line new
