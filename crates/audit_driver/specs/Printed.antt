-- The report that is printed of a legal record of a script and of captures, and an audit of it.
use Rattle.std.specs.Prelude.{◌≡◌, ℕ, ◌≤◌, Some, Ok, List, [], ◌∷◌, length, ⊤}
use Rattle.std.specs.List.{AllByRecursion}
use Rattle.audit_laws.specs.Captures.{AreBytes}
use Rattle.capture_tracks.specs.declared.opened.OpenedCapture.{OpenedCapture}
use Rattle.command_words.specs.Words.{CaptureNames}
use Rattle.command_words.specs.declared.invocation.Mode.TheVariants.{Serial}
use Rattle.fw_base.specs.Faults.{Rose}
use Rattle.fw_base.specs.Pairs.{Pair, take_named}
use Rattle.report_texts.specs.declared.capture_end.CaptureEnd.{CaptureEnd}
use Rattle.fw_world.specs.RecordValue.{RecordValue}
use Rattle.replay_setup.specs.FirstEdition.{first_edition}
use Rattle.replay_setup.specs.InMemory.{known_left, no_failures}
use Rattle.replay_setup.specs.Openings.{port_of}
use Rattle.replay_setup.specs.Outside.{Files, Output}
use Rattle.replay_setup.specs.FirstEdition.{pace_of}
use Rattle.replay_setup.specs.declared.first_edition.FirstEdition.{FirstEdition}
use Rattle.replay_setup.specs.declared.outcome.Outcome.{Outcome}
use Rattle.audit_driver.specs.AuditNames.{AuditNames}
use Rattle.audit_driver.specs.Found.{HasLegalRecord, text_of}

-- The report is what is printed, with its journal and without a cache, of a legal record of the script and of captures that
-- hold these bytes, which were read to their ends or faults, and of their ends and answers. No read failed.
pub record IsPrinted (edition : FirstEdition) (captures : List (OpenedCapture (List ℕ))) (report : List ℕ) : Type 0 where
  pub record_of : RecordValue
  pub ends : List CaptureEnd
  pub rests : List (List ℕ)
  pub has : HasLegalRecord known_left no_failures edition captures rests record_of ends
  pub uncached : record_of.hits ≡ []
  pub text : report ≡ text_of edition record_of ends

-- Each capture's name stands in the told list, behind what the names before it took out, and these are the captures with
-- the bytes that stand there.
abbrev pub AreUnder : List CaptureNames → List Pair → List (OpenedCapture (List ℕ)) → Type 0
AreUnder [] told [] = ⊤
AreUnder [] told (capture ∷ captures) = ⊥
AreUnder (names ∷ others) told [] = ⊥
AreUnder (names ∷ others) told (capture ∷ captures) =
    (capture.port ≡ port_of names) × (behind : List Pair) × (take_named names.name told ≡ Some ((names.name, capture.source), behind)) × AreUnder others behind captures

-- The script of this name stands in the told list and gives an edition, the captures stand behind it, and the report is
-- what is printed of them.
pub record IsReportOf (script_name : List ℕ) (names : List CaptureNames) (told : List Pair) (report : List ℕ) : Type 0 where
  pub script : List ℕ
  pub behind : List Pair
  pub script_stands : take_named script_name told ≡ Some ((script_name, script), behind)
  pub script_short : length script ≤ 1048576
  pub edition : FirstEdition
  pub first : first_edition (pace_of Serial) script ≡ Ok edition
  pub captures : List (OpenedCapture (List ℕ))
  pub captures_stand : AreUnder names behind captures
  pub printed : IsPrinted edition captures report

module _ {K S L : Type 0} (output : Output K) (files : Files L S) where
  -- The library tells its list, in which the names stand. What stands under the report's name is what is printed of the
  -- script and of the captures, which are files of bytes, and isn't too long. No count rose.
  pub record IsPrintedAudit (names : AuditNames) (library libraryAfter : L) (sink sinkAfter : K) (outcome : Outcome S) : Type 0 where
    pub before : List Pair
    pub told : files.pairs library ≡ Some before
    pub report : List ℕ
    pub between : List Pair
    pub report_stands : take_named names.report before ≡ Some ((names.report, report), between)
    pub report_short : length report ≤ 1073741824
    pub is : IsReportOf names.script names.captures between report
    pub bytes : AllByRecursion (λ capture. AreBytes capture.source) is.captures
    pub library_quiet : Rose (files.faults library) (files.faults libraryAfter) → ⊥
    pub sources_quiet : AllByRecursion (λ source. files.failures source ≡ 0) outcome.sources.items
    pub sink_quiet : Rose (output.faults sink) (output.faults sinkAfter) → ⊥
