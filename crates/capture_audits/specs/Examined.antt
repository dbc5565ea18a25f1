-- Captures that are audited in their order, to the first that stops the audit.
use Rattle.std.specs.Prelude.{◌≡◌, ℕ, suc, ◌+◌, ◌≤◌, Bool, true, false, Option, None, Some, List, [], ◌∷◌, ◌++◌, length, map, replicate}
use Rattle.std.specs.List.{list_any}
use Rattle.capture_tracks.specs.Reading as reading
use Rattle.capture_tracks.specs.Reading.{AllRead, IsRead, Origin, input_of, track_inputs}
use Rattle.capture_tracks.specs.Replay.{limit_for}
use Rattle.capture_tracks.specs.Tracks.{IsTrack, held_record_of, source_at}
use Rattle.capture_tracks.specs.declared.opened.OpenedCapture.{OpenedCapture}
use Rattle.capture_tracks.specs.declared.track.Track.{Track}
use Rattle.report_texts.specs.CaptureEnds.{is_unread}
use Rattle.report_texts.specs.declared.capture_end.CaptureEnd.{CaptureEnd}
use Rattle.fw_world.specs.Inputs.{Input}
use Rattle.pcap_read.specs.Reading.{Captured}
use Rattle.capture_tracks.specs.Replay.{sources_of}
use Rattle.run_audit.specs.Audit.{AuditValue}
use Rattle.run_audit.specs.declared.audit_fault.AuditFault.{AuditFault}
use Rattle.capture_audits.specs.CaptureAudit.{Subject, IsOf, inputs_at}
use Rattle.capture_audits.specs.declared.examined.Examined.{Examined}

-- so many captures more can be audited, where the audit wasn't stopped
pub record CanGoOn {S : Type 0} (more : ℕ) (e : Examined S) : Type 0 where
  pub clear : e.audit.fault ≡ None
  pub room : length e.ends.items + more ≤ length e.audit.dockets
  pub few : length e.audit.dockets ≤ 16
  pub ordered : e.audit.lane ≤ length e.ends.items + 1

-- so many captures more can be audited or passed by
abbrev pub HasRoom : {S : Type 0} → ℕ → Examined S → Type 0
HasRoom more e = e.stopped ≡ false → CanGoOn more e

module _ {S : Type 0} (left : S → Option (List ℕ)) (faults : S → ℕ) where
  -- These captures were read to their ends or faults, and the audit met their records; so many captures stand behind them.
  pub record HasMetAll (subject : Subject) (limit behind : ℕ) (opened : List (OpenedCapture S)) (e : Examined S) : Type 0 where
    pub tracks : List reading.Track
    pub read : AllRead left faults limit opened e.sources.items tracks e.ends.items
    pub stands : IsOf subject (map track_inputs tracks ++ replicate behind []) e.audit

  -- The captures before one were read to their ends or faults, and none of their sources failed; that one gave some
  -- records, the last of which is this one; those behind it, and so many more, weren't read. These are their sources, and
  -- their records as inputs.
  pub record HasGiven (limit more : ℕ) (opened : List (OpenedCapture S)) (sources : List S) (inputs : List (List Input)) : Type 0 where
    pub before : List (OpenedCapture S)
    pub one : OpenedCapture S
    pub behind : List (OpenedCapture S)
    pub split : opened ≡ before ++ one ∷ behind
    pub sources_before : List S
    pub tracks : List reading.Track
    pub ends : List CaptureEnd
    pub read : AllRead left faults limit before sources_before tracks ends
    pub quiet : list_any is_unread ends ≡ false
    pub track : Track S
    pub origin : Origin
    pub done : List Captured
    pub last : Captured
    pub tracked : IsTrack left faults limit one track done origin
    pub held : held_record_of track ≡ Some last
    pub sources_behind : List S
    pub untouched : sources_behind ≡ sources_of behind
    pub given_back : sources ≡ sources_before ++ source_at track ∷ sources_behind
    pub all : length sources ≡ length opened
    pub given : inputs ≡ inputs_at (map track_inputs tracks) (map (input_of origin.link origin.port) (done ++ last ∷ [])) (length behind + more)

  -- The audit was stopped: by the last of these records, or for want of memory.
  pub record IsStoppedByFault (subject : Subject) (limit more : ℕ) (opened : List (OpenedCapture S)) (e : Examined S) : Type 0 where
    pub inputs : List (List Input)
    pub given : HasGiven limit more opened e.sources.items inputs
    pub stands : IsOf subject inputs e.audit

  -- The captures before one were read to their ends or faults, and none of their sources failed; the source of that one
  -- failed. Those behind it weren't read.
  pub record FailsAtOne (limit : ℕ) (opened : List (OpenedCapture S)) (sources : List S) (place : ℕ) : Type 0 where
    pub before : List (OpenedCapture S)
    pub one : OpenedCapture S
    pub behind : List (OpenedCapture S)
    pub split : opened ≡ before ++ one ∷ behind
    pub stands : length before ≡ place
    pub sources_before : List S
    pub tracks : List reading.Track
    pub ends : List CaptureEnd
    pub read_before : AllRead left faults limit before sources_before tracks ends
    pub quiet : list_any is_unread ends ≡ false
    pub source : S
    pub sources_behind : List S
    pub untouched : sources_behind ≡ sources_of behind
    pub given_back : sources ≡ sources_before ++ source ∷ sources_behind
    pub same_place : length sources_before ≡ place
    pub told : reading.Track
    pub port : told.port ≡ one.port
    pub end : CaptureEnd
    pub read : IsRead left faults limit one.source source told end
    pub unread : is_unread end ≡ true
    pub all : length sources ≡ length opened

  -- The source of the capture that was read last failed. The audit met the records that it gave, behind those of the
  -- captures before; so many captures stand behind the opened ones.
  pub record IsStoppedByRead (subject : Subject) (limit more : ℕ) (opened : List (OpenedCapture S)) (e : Examined S) : Type 0 where
    pub place : ℕ
    pub fails : FailsAtOne limit opened e.sources.items place
    pub read : length e.ends.items ≡ place + 1
    pub stands : IsOf subject (inputs_at (map track_inputs fails.tracks) (track_inputs fails.told) (length fails.behind + more)) e.audit

  -- what stopped it, by the fault that the audit came to, if it did
  abbrev pub IsStopped : Subject → ℕ → ℕ → List (OpenedCapture S) → Examined S → Option AuditFault → Type 0
  IsStopped subject limit more opened e None = IsStoppedByRead subject limit more opened e
  IsStopped subject limit more opened e (Some fault) = IsStoppedByFault subject limit more opened e

  -- no source of these captures failed, and the audit goes on
  pub record GoesOn (subject : Subject) (limit behind : ℕ) (opened : List (OpenedCapture S)) (e : Examined S) : Type 0 where
    pub clear : e.audit.fault ≡ None
    pub quiet : list_any is_unread e.ends.items ≡ false
    pub met : HasMetAll subject limit behind opened e

  -- these captures were audited, or passed by where the audit was stopped
  abbrev pub HasExamined : Subject → ℕ → ℕ → List (OpenedCapture S) → Examined S → Bool → Type 0
  HasExamined subject limit behind opened e false = GoesOn subject limit behind opened e
  HasExamined subject limit behind opened e true = IsStopped subject limit behind opened e e.audit.fault

  -- one capture more was audited or passed by
  pub record ExaminesNext (limit : ℕ) (one : OpenedCapture S) (old new : Examined S) : Type 0 where
    pub next : (subject : Subject) (behind : ℕ) (opened : List (OpenedCapture S)) → HasExamined subject limit (suc behind) opened old old.stopped
        → HasExamined subject limit behind (opened ++ one ∷ []) new new.stopped
    pub room : (more : ℕ) → HasRoom (suc more) old → HasRoom more new

  -- all of these captures were audited, or passed by behind the one that stopped the audit
  abbrev pub ExaminesAll : List (OpenedCapture S) → AuditValue → Examined S → Type 0
  ExaminesAll opened audit e = (subject : Subject) → IsOf subject (replicate (length opened) []) audit
      → HasExamined subject (limit_for (length opened)) 0 opened e e.stopped
