-- A capture beside a report: it is read to its end, and the audit meets each of its records, to the first that isn't as
-- the report tells it.
use Rattle.std.specs.Prelude.{◌≡◌, ℕ, ◌-◌, Option, None, Some, List, [], ◌∷◌, ◌++◌, length, map, replicate}
use Rattle.capture_tracks.specs.Reading as reading
use Rattle.capture_tracks.specs.Reading.{Origin, IsRead, input_of, track_inputs}
use Rattle.capture_tracks.specs.Tracks.{IsTrack, IsSettled, held_record_of, source_at}
use Rattle.capture_tracks.specs.declared.opened.OpenedCapture.{OpenedCapture}
use Rattle.capture_tracks.specs.declared.track.Track.{Track}
use Rattle.fw_command.specs.declared.script.Step.{Step}
use Rattle.fw_world.specs.Inputs.{Input}
use Rattle.pcap_read.specs.Reading.{Captured}
use Rattle.rule_chain.specs.Configuration.{Configuration}
use Rattle.run_audit.specs.Audit.{AuditValue, IsAuditOf}
use Rattle.run_audit.specs.declared.audit_fault.AuditFault.{AuditFault}
use Rattle.capture_audits.specs.declared.capture_audit.CaptureAudit.{CaptureAudit}
use Rattle.capture_audits.specs.declared.capture_audit.Work.{Work}

-- what a report is audited beside: what the script gives, and the report
pub record Subject : Type 0 where
  pub config : Configuration
  pub steps : List Step
  pub report : List ℕ

-- the records that were met: those of the captures before, those of this one, and none of so many captures behind it
abbrev pub inputs_at : List (List Input) → List Input → ℕ → List (List Input)
inputs_at before own behind = before ++ own ∷ replicate behind []

-- an audit of this subject, of these records
abbrev pub IsOf : Subject → List (List Input) → AuditValue → Type 0
IsOf subject inputs audit = IsAuditOf subject.config subject.steps subject.report inputs audit

-- which capture is audited: where its records come from, and how many captures stand before and behind it
pub record Place (S : Type 0) : Type 0 where
  pub limit : ℕ
  pub opened : OpenedCapture S
  pub origin : Origin
  pub before : List (List Input)
  pub behind : ℕ

module _ {S : Type 0} where
  -- records of this capture as inputs of its lane
  abbrev pub own_inputs : Place S → List Captured → List Input
  own_inputs at records = map (input_of at.origin.link at.origin.port) records

module _ {S : Type 0} (left : S → Option (List ℕ)) (faults : S → ℕ) where
  -- some records of some capture were read
  pub record HasTrack (track : Track S) : Type 0 where
    pub limit : ℕ
    pub opened : OpenedCapture S
    pub origin : Origin
    pub done : List Captured
    pub tracked : IsTrack left faults limit opened track done origin
    pub settled : IsSettled left faults track

  -- These records of that capture were met, and those behind them are still to come.
  pub record IsAtWork (subject : Subject) (at : Place S) (done : List Captured) (work : Work S) : Type 0 where
    pub tracked : IsTrack left faults at.limit at.opened work.track done at.origin
    pub settled : IsSettled left faults work.track
    pub stands : IsOf subject (inputs_at at.before (own_inputs at done) at.behind) work.audit

  -- more records were met
  pub record MeetsMore (subject : Subject) (at : Place S) (done : List Captured) (work : Work S) : Type 0 where
    pub more : List Captured
    pub at_work : IsAtWork subject at (done ++ more) work

  -- more records were met, whatever was met before by this lane, and the audit goes on
  abbrev pub TakesMore : ℕ → Work S → Work S → Type 0
  TakesMore lane old new = (subject : Subject) (at : Place S) (done : List Captured)
      → length at.before ≡ lane - 1 → IsAtWork subject at done old → MeetsMore subject at done new

  -- All records of the capture were met, and they are as the report tells them.
  pub record HasMet (subject : Subject) (at : Place S) (done : List Captured) (work : Work S) : Type 0 where
    pub more : List Captured
    pub at_work : IsAtWork subject at (done ++ more) work
    pub none : held_record_of work.track ≡ None

  -- The record that the track holds was met too, and the audit came to a fault there.
  pub record HasStopped (subject : Subject) (at : Place S) (done : List Captured) (work : Work S) : Type 0 where
    pub more : List Captured
    pub last : Captured
    pub tracked : IsTrack left faults at.limit at.opened work.track (done ++ more) at.origin
    pub held : held_record_of work.track ≡ Some last
    pub stands : IsOf subject (inputs_at at.before (own_inputs at ((done ++ more) ++ last ∷ [])) at.behind) work.audit

  -- what the meeting of all records comes to, by the fault that the audit came to, if it did
  abbrev pub ComesTo : Subject → Place S → List Captured → Work S → Option AuditFault → Type 0
  ComesTo subject at done work None = HasMet subject at done work
  ComesTo subject at done work (Some fault) = HasStopped subject at done work

  -- more records were met, whatever was met before by this lane
  abbrev pub MeetsAll : ℕ → Work S → Work S → Type 0
  MeetsAll lane old new = (subject : Subject) (at : Place S) (done : List Captured)
      → length at.before ≡ lane - 1 → IsAtWork subject at done old → ComesTo subject at done new new.audit.fault

  -- The capture was read to its end or its fault, and the audit met its records.
  pub record MeetsCapture (subject : Subject) (limit : ℕ) (opened : OpenedCapture S) (before : List (List Input)) (behind : ℕ) (one : CaptureAudit S) : Type 0 where
    pub told : reading.Track
    pub port : told.port ≡ opened.port
    pub read : IsRead left faults limit opened.source one.source told one.end
    pub stands : IsOf subject (inputs_at before (track_inputs told) behind) one.audit

  -- The audit met records of the capture, the last of which, or memory, stopped it.
  pub record StopsAtCapture (subject : Subject) (limit : ℕ) (opened : OpenedCapture S) (before : List (List Input)) (behind : ℕ) (one : CaptureAudit S) : Type 0 where
    pub track : Track S
    pub origin : Origin
    pub done : List Captured
    pub last : Captured
    pub tracked : IsTrack left faults limit opened track done origin
    pub held : held_record_of track ≡ Some last
    pub source : one.source ≡ source_at track
    pub stands : IsOf subject (inputs_at before (map (input_of origin.link origin.port) (done ++ last ∷ [])) behind) one.audit

  -- what the audit of a capture comes to, by the fault that it came to, if it did
  abbrev pub ComesThrough : Subject → ℕ → OpenedCapture S → List (List Input) → ℕ → CaptureAudit S → Option AuditFault → Type 0
  ComesThrough subject limit opened before behind one None = MeetsCapture subject limit opened before behind one
  ComesThrough subject limit opened before behind one (Some fault) = StopsAtCapture subject limit opened before behind one

  -- this lane's capture was audited, behind whatever was met of the captures before
  abbrev pub AuditsCapture : ℕ → ℕ → OpenedCapture S → AuditValue → CaptureAudit S → Type 0
  AuditsCapture lane limit opened old one = (subject : Subject) (before : List (List Input)) (behind : ℕ)
      → length before ≡ lane - 1 → IsOf subject (inputs_at before [] behind) old → ComesThrough subject limit opened before behind one one.audit.fault
