-- What is shown: its text, its status, and what the sink takes of it.
use Rattle.std.specs.Prelude.{◌≡◌, ◌≢◌, ℕ, List, Result, ◌⊎◌}
use Rattle.fw_base.specs.Texts.{SinkState, WritesText}
use Rattle.report_page.specs.Pieces.{page_text}
use Rattle.replay_setup.specs.Outcomes.{Writes}
use Rattle.replay_setup.specs.Outside.{Output}
use Rattle.view_driver.specs.MovesText.{compared_text}
use Rattle.view_driver.specs.ReviewText.{review_status, reviewed_text}
use Rattle.view_driver.specs.TroubleText.{trouble_status, trouble_text}
use Rattle.view_driver.specs.declared.shown.Shown.{Shown}
use Rattle.view_driver.specs.declared.shown.Shown.TheVariants.{Moves, Page, Script, Trouble}

-- a text of what is shown
abbrev pub IsTextOf : Shown → List ℕ → Type 0
IsTextOf (Moves compared) text = text ≡ compared_text compared.now
IsTextOf (Page pieces) text = text ≡ page_text pieces.now
IsTextOf (Script reviewed) text = text ≡ reviewed_text reviewed.faults.now reviewed.findings.now
IsTextOf (Trouble trouble) text = text ≡ trouble_text trouble

-- the status that it is written with
abbrev pub shown_status : Shown → ℕ
shown_status (Moves compared) = 0
shown_status (Page pieces) = 0
shown_status (Script reviewed) = review_status reviewed.faults.now reviewed.findings.now
shown_status (Trouble trouble) = trouble_status trouble

-- a text of what is shown was written
pub record WritesShown {T E : Type 0} (old new : SinkState) (shown : Shown) (result : Result T E) : Type 0 where
  pub text : List ℕ
  pub is_text : IsTextOf shown text
  pub writes : WritesText old new text result

module _ {K : Type 0} (output : Output K) where
  -- a text of what is shown was to be written with its status, which isn't that of want of memory
  pub record Shows (sink sinkAfter : K) (shown : Shown) (got : ℕ) : Type 0 where
    pub text : List ℕ
    pub is_text : IsTextOf shown text
    pub has_text : shown_status shown ≢ 6
    pub writes : Writes output sink sinkAfter (shown_status shown) got text

  -- memory ran out and nothing was written, or it was shown
  abbrev pub ShowsIfMemory : K → K → Shown → ℕ → Type 0
  ShowsIfMemory sink sinkAfter shown got = ((got ≡ 6) × (sinkAfter ≡ sink)) ⊎ Shows sink sinkAfter shown got
