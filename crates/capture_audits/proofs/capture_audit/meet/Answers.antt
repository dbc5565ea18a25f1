use Rattle.std.proofs.Common.{ap}
use Rattle.capture_tracks.specs.Reading.{input_for}
use Rattle.capture_audits.proofs.CaptureWork.{meets_so}
use Rattle.capture_audits.proofs.capture_audit.meet.Goals as goal

pub returns-in-Ip-clause-met : goal.returns-in-Ip-clause-met
returns-in-Ip-clause-met c = λ config steps report.
    meets_so config steps report c.args.lane _ _ c.args.audit.now c.judge.new.self (ap (input_for c.args.taken.port.now c.args.taken.record.second) c.in-Ip.ensures) (c.judge.ensures.met config steps report)

pub returns-in-Other-clause-met : goal.returns-in-Other-clause-met
returns-in-Other-clause-met c = λ config steps report.
    meets_so config steps report c.args.lane _ _ c.args.audit.now c.skip.new.self (ap (input_for c.args.taken.port.now c.args.taken.record.second) c.in-Other.ensures) (c.skip.ensures.met config steps report)

pub returns-in-Malformed-clause-met : goal.returns-in-Malformed-clause-met
returns-in-Malformed-clause-met c = λ config steps report.
    meets_so config steps report c.args.lane _ _ c.args.audit.now c.skip-in-Malformed.new.self (ap (input_for c.args.taken.port.now c.args.taken.record.second) c.in-Malformed.ensures) (c.skip-in-Malformed.ensures.met config steps report)
