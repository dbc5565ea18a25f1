use Rattle.std.proofs.Common.{◌∙◌, ap, arith, refl, sym}
use Rattle.std.specs.Option.{option_map}
use Rattle.capture_tracks.specs.Taken.{taken_input}
use Rattle.capture_audits.proofs.CaptureWork.{takes_none, takes_one, tracks_on, all_met, all_stopped, no_fault, some_fault}
use Rattle.capture_audits.proofs.capture_audit.meet_all.Goals as goal

pub loop-taken-init : goal.loop-taken-init
loop-taken-init g c = record {
  takes = takes_none g.S.Source.left g.S.Source.faults c.args.lane c.args.work;
  has = c.requires.track;
  clear = c.requires.clear;
  captures = refl;
  ordered = c.requires.ordered;
}

pub loop-taken-smaller : goal.loop-taken-smaller
loop-taken-smaller g c = (tracks_on g.S.Source.left g.S.Source.faults c.loop-taken.track c.advance.new.self _ (sym c.in-Some.ensures.input) c.advance.ensures c.loop-taken.invariant.has).1

pub loop-taken-preserved : goal.loop-taken-preserved
loop-taken-preserved g c = record {
  takes = takes_one g.S.Source.left g.S.Source.faults c.args.lane c.args.work c.loop-taken.track c.advance.new.self c.loop-taken.audit c.meet.new.audit _ (sym c.in-Some.ensures.input) c.advance.ensures (λ subject. c.meet.ensures.met subject.config subject.steps subject.report) c.loop-taken.invariant.takes;
  has = (tracks_on g.S.Source.left g.S.Source.faults c.loop-taken.track c.advance.new.self _ (sym c.in-Some.ensures.input) c.advance.ensures c.loop-taken.invariant.has).0;
  clear = no_fault c.meet.new.audit.fault c.meet.result c.meet.ensures.answer (sym c.is_err.ensures.value ∙ c.if-is_err.false);
  captures = c.meet.ensures.captures ∙ c.loop-taken.invariant.captures;
  ordered = omega (arith, c.meet.ensures.lane);
}

pub returns-then-is_err-clause-met : goal.returns-then-is_err-clause-met
returns-then-is_err-clause-met g c =
    let (fault, is) = some_fault c.meet.new.audit.fault c.meet.result c.meet.ensures.answer (sym c.is_err.ensures.value ∙ c.if-is_err.true) in
    all_stopped g.S.Source.left g.S.Source.faults c.args.lane c.args.work c.loop-taken.track c.loop-taken.audit c.meet.new.audit _ fault (sym c.in-Some.ensures.input) (λ subject. c.meet.ensures.met subject.config subject.steps subject.report) is c.loop-taken.invariant.takes

pub returns-clause-met : goal.returns-clause-met
returns-clause-met g c =
    all_met g.S.Source.left g.S.Source.faults c.args.lane c.args.work c.loop-taken.track c.loop-taken.audit (sym c.held.ensures.input ∙ ap (option_map taken_input) c.in_default.is) c.loop-taken.invariant.clear c.loop-taken.invariant.takes
