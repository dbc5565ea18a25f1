-- What was met so far, and that the audit and the track go on; each record takes up room of the track.
use Rattle.std.proofs.Common.{◌≡◌, ◌≤◌, None, length}
use Rattle.capture_tracks.specs.Tracks.{room_of}
use Rattle.capture_audits.specs.CaptureAudit.{HasTrack, TakesMore}
use Rattle.capture_audits.proofs.capture_audit.meet_all.Given as goal

abbrev pub invariant-loop-taken : goal.invariant-loop-taken
invariant-loop-taken g l = record {
  takes : TakesMore g.S.Source.left g.S.Source.faults l.fn.lane l.fn.work (record { track = l.track; audit = l.audit });
  has : HasTrack g.S.Source.left g.S.Source.faults l.track;
  clear : l.audit.fault ≡ None;
  captures : length l.audit.dockets ≡ length l.fn.work.audit.dockets;
  ordered : l.audit.lane ≤ l.fn.lane;
}

abbrev pub decreases-loop-taken : goal.decreases-loop-taken
decreases-loop-taken g l = room_of l.track
