-- The lines that the report has for the captures' records.
use Rattle.std.specs.Prelude.{◌≡◌, ℕ, Option, Bool, false, not, ◌&&◌, nat_le, List, [], ◌∷◌, ◌++◌, filter, length, map, sum_by}
use Rattle.fw_command.specs.Lines.{lines_of}
use Rattle.fw_command.specs.declared.script.Step.{Step}
use Rattle.report_texts.specs.DocketText.{captures_text}
use Rattle.report_texts.specs.Recorded.{Recorded}
use Rattle.report_texts.specs.Report.{report_text}
use Rattle.report_texts.specs.declared.capture_end.CaptureEnd.{CaptureEnd}
use Rattle.report_texts.specs.declared.ends.LineAnswer.{LineAnswer}
use Rattle.fw_rule.specs.declared.command.Command.{Command}
use Rattle.fw_world.specs.Inputs.{Input}
use Rattle.fw_world.specs.Legal.{IsLegal}
use Rattle.fw_world.specs.RecordValue.{RecordValue}
use Rattle.rule_chain.specs.Configuration.{Configuration}
use Rattle.capture_tracks.specs.Reading.{track_inputs}
use Rattle.capture_tracks.specs.Replay.{IsReplay}
use Rattle.capture_tracks.specs.declared.opened.OpenedCapture.{OpenedCapture}
use Rattle.capture_tracks.specs.declared.replayed.Replayed.{Replayed}

-- The line begins with a digit. In the report's first section these are the lines of records, which begin with
-- the capture's number; those of a capture's end begin with a word.
abbrev pub begins_with_digit : List ℕ → Bool
begins_with_digit [] = false
begins_with_digit (byte ∷ rest) = nat_le 48 byte && nat_le byte 57

-- the lines of records
abbrev pub verdict_lines : List ℕ → List (List ℕ)
verdict_lines text = filter begins_with_digit (lines_of text)

-- the lines of captures' ends
abbrev pub other_lines : List ℕ → List (List ℕ)
other_lines text = filter (λ line. not (begins_with_digit line)) (lines_of text)

-- how many records the captures have
abbrev pub input_count : List (List Input) → ℕ
input_count inputs = sum_by length inputs

-- what is reported of a record, with these hits of caches
abbrev pub recorded_with : List ℕ → RecordValue → Recorded
recorded_with hits r = record { editions = r.editions; journal = r.journal; dockets = r.dockets; tallies = r.tallies; trackers = r.trackers; hits = hits }

-- The report begins with a section that has one verdict line for each record of the captures, and besides them
-- one line for each capture's end.
pub record PrintsEachRecord (inputs : List (List Input)) (section text : List ℕ) : Type 0 where
  pub behind : List ℕ
  pub begins : text ≡ section ++ behind
  pub verdicts : length (verdict_lines section) ≡ input_count inputs
  pub ends : length (other_lines section) ≡ length inputs

-- printed verdict lines are as many as records, whatever the answers, the hits of caches and the journal flag
abbrev pub VerdictLinesAreRecords : Type 0
VerdictLinesAreRecords = (first : Configuration) (commands : List Command) (inputs : List (List Input)) (r : RecordValue) (hits : List ℕ)
    (ends : List CaptureEnd) (answers : List LineAnswer) (journal : Bool) → IsLegal first commands inputs r → length ends ≡ length inputs
    → PrintsEachRecord inputs (captures_text 1 r.dockets ends) (report_text (recorded_with hits r) ends answers journal)

module _ {S : Type 0} (left : S → Option (List ℕ)) (faults : S → ℕ) where
  -- the report of a replay has a verdict line for each record that was read of its captures, whatever the answers
  abbrev pub ReplaysPrintEachRecord : Type 0
  ReplaysPrintEachRecord = (config : Configuration) (steps : List Step) (cache : Option ℕ) (captures : List (OpenedCapture S)) (r : Replayed S) (hits : List ℕ) (answers : List LineAnswer) (journal : Bool)
      → (replay : IsReplay left faults config steps cache captures r)
      → PrintsEachRecord (map track_inputs replay.tracks) (captures_text 1 r.record.dockets r.ends.captures) (report_text (recorded_with hits r.record) r.ends.captures answers journal)
