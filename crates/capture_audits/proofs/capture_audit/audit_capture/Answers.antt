use Rattle.std.proofs.Common.{refl}
use Rattle.capture_audits.proofs.CaptureWork.{audits_capture, begins_track}
use Rattle.capture_audits.proofs.capture_audit.audit_capture.Goals as goal

pub meet_all-track-requires-clause-track : goal.meet_all-track-requires-clause-track
meet_all-track-requires-clause-track g c = begins_track g.S.Source.left g.S.Source.faults c.args.limit c.args.opened c.in_ok-track.track c.in_ok-track.ensures

pub returns-clause-audited : goal.returns-clause-audited
returns-clause-audited g c =
    audits_capture g.S.Source.left g.S.Source.faults c.args.lane c.args.limit c.args.opened c.args.audit c.in_ok-track.track c.meet_all-track.result.track c.meet_all-track.result.audit _ c.in_ok-track.ensures c.meet_all-track.ensures.met refl c.close-source.ensures.source c.close-source.ensures.end
