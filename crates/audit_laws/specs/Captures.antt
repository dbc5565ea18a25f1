-- Captures whose bytes are told, and what is recorded of them.
use Rattle.std.specs.Prelude.{◌≡◌, ℕ, ◌<◌, ◌≤◌, IsSomeAnd, Option, List, [], ◌++◌, length, map}
use Rattle.std.specs.List.{AllByRecursion}
use Rattle.capture_tracks.specs.Commands.{lines_outcome}
use Rattle.capture_tracks.specs.Reading.{AllRead, Track, track_inputs}
use Rattle.capture_tracks.specs.Replay.{limit_for}
use Rattle.capture_tracks.specs.declared.opened.OpenedCapture.{OpenedCapture}
use Rattle.fw_command.specs.declared.script.Step.{Step}
use Rattle.report_texts.specs.declared.capture_end.CaptureEnd.{CaptureEnd}
use Rattle.report_texts.specs.declared.ends.LineAnswer.{LineAnswer}
use Rattle.fw_world.specs.Legal.{IsLegal}
use Rattle.fw_world.specs.RecordValue.{RecordValue}
use Rattle.rule_chain.specs.Configuration.{Configuration}
use Rattle.audit_laws.specs.Completeness.{IsReported}
use Rattle.audit_laws.specs.Formed.{IsFormedStep}
use Rattle.audit_laws.specs.Printable.{IsPrintableAnswer, IsPrintableConfig}

-- the contents of a file: numbers below 256
abbrev pub AreBytes : List ℕ → Type 0
AreBytes bytes = AllByRecursion (λ byte. byte < 256) bytes

-- what a script gives: a first configuration, answers before `live`, and steps behind it
pub record IsFromScript (config : Configuration) (answers : List LineAnswer) (steps : List Step) : Type 0 where
  pub printable : IsPrintableConfig config
  pub listings : AllByRecursion (λ answer. IsPrintableAnswer answer.answer) answers
  pub formed : AllByRecursion IsFormedStep steps
  pub few : length steps ≤ 65536

module _ {S : Type 0} (left : S → Option (List ℕ)) (faults : S → ℕ) where
  -- there are at most 16 captures, and their sources tell the bytes that they have left
  pub record HaveToldBytes (captures : List (OpenedCapture S)) : Type 0 where
    pub few : length captures ≤ 16
    pub told : AllByRecursion (λ capture. IsSomeAnd (left capture.source) AreBytes) captures

  -- A legal record of a script and of what was read of such captures, whose lanes had no cache, has a report whose lines
  -- are in their ranges.
  abbrev pub RecordsAreReported : Type 0
  RecordsAreReported = (config : Configuration) (first : List LineAnswer) (steps : List Step) (captures : List (OpenedCapture S)) (sources : List S) (tracks : List Track) (ends : List CaptureEnd) (r : RecordValue)
      → IsFromScript config first steps → HaveToldBytes captures → AllRead left faults (limit_for (length captures)) captures sources tracks ends
      → IsLegal config (lines_outcome config steps).accepted (map track_inputs tracks) r → r.hits ≡ []
      → IsReported config steps (map track_inputs tracks) r ends (first ++ (lines_outcome config steps).answers)
