-- What a report's text is; why a text is none, and which line of it is the first that none has there.
use Rattle.std.specs.Prelude.{◌≡◌, ⊤, ℕ, ◌⊎◌, Err, IsOk, List, ◌++◌, length}
use Rattle.report_values.specs.Captures.{HaveEnds, IsBehindCaptures, IsUnfitCapture, captures_lines}
use Rattle.report_values.specs.Lines.{line_number}
use Rattle.report_values.specs.Sections.{sections}
use Rattle.report_values.specs.declared.capture.Capture.{Capture}
use Rattle.report_values.specs.declared.report.ReportError.{ReportError}
use Rattle.report_values.specs.declared.report.ReportError.TheVariants.{Line, OutOfMemory}
use Rattle.report_values.specs.declared.unfit.Unfit.{Unfit}
use Rattle.report_values.specs.declared.unfit.Unfit.TheVariants as unfit

-- a text is the lines of these captures, and behind them stands this
pub record HasCaptures (text : List ℕ) (captures : List Capture) (behind : List ℕ) : Type 0 where
  pub lines : text ≡ captures_lines 1 captures ++ behind
  pub ends : HaveEnds 1 captures
  pub no_more : IsBehindCaptures behind

-- A text is a report: the lines of these captures, and behind them this, which is its sections, whole.
pub record IsReport (text : List ℕ) (captures : List Capture) (behind : List ℕ) : Type 0 where
  pub front : HasCaptures text captures behind
  pub whole : IsOk (sections (length captures) behind)

-- The captures fit, and of the sections behind them the line with which this rest begins is the first that doesn't.
pub record IsUnfitSection (text at : List ℕ) : Type 0 where
  pub captures : List Capture
  pub behind : List ℕ
  pub before : HasCaptures text captures behind
  pub unfit : sections (length captures) behind ≡ Err at

-- With this rest begins the first line that is none that a report has there.
abbrev pub IsUnfitAt : List ℕ → List ℕ → Type 0
IsUnfitAt text at = IsUnfitCapture text at ⊎ IsUnfitSection text at

-- the same of what reading answers; want of memory needs no cause
abbrev pub HasUnfit : List ℕ → Unfit → Type 0
HasUnfit text (unfit.At from) = IsUnfitAt text from.now
HasUnfit text unfit.OutOfMemory = ⊤

-- The line of this number is the first that is none that a report has there.
pub record IsUnfitLine (text : List ℕ) (line : ℕ) : Type 0 where
  pub rest : List ℕ
  pub unfit : IsUnfitAt text rest
  pub number : line ≡ line_number text rest

-- why a text isn't read as a report; want of memory needs no cause
abbrev pub HasCause : List ℕ → ReportError → Type 0
HasCause text (Line line) = IsUnfitLine text line
HasCause text OutOfMemory = ⊤
