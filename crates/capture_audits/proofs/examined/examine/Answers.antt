use Rattle.std.proofs.Common.{◌≡◌, ◌∙◌, ℕ, ap, arith, length, refl, subst}
use Rattle.capture_tracks.specs.Replay.{limit_for}
use Rattle.capture_audits.specs.Examined.{ExaminesNext}
use Rattle.capture_audits.proofs.Examining.{front_none, front_more, front_room, front_all, no_items}
use Rattle.capture_audits.proofs.examined.examine.Goals as goal

pub loop-capture-init : goal.loop-capture-init
loop-capture-init g c =
    front_none g.S.Source.left g.S.Source.faults c.args.opened.items c.reverse.new.self.items c.args.audit _ c.reverse.ensures.items refl refl c.new.ensures.items c.new-2.ensures.items c.requires.clear c.requires.captures c.requires.few c.requires.lane

pub examine_next-requires-clause-room : goal.examine_next-requires-clause-room
examine_next-requires-clause-room g c =
    front_room g.S.Source.left g.S.Source.faults c.args.opened.items c.loop-capture.rest.items c.pop.new.self.items c.in-Some.capture c.args.audit c.loop-capture.examined c.in-Some.ensures.items c.loop-capture.invariant

pub loop-capture-preserved : goal.loop-capture-preserved
loop-capture-preserved g c =
    let same : c.len.result ≡ length c.args.opened.items = omega (arith, c.len.ensures, c.args.opened.ok.0) in
    front_more g.S.Source.left g.S.Source.faults c.args.opened.items c.loop-capture.rest.items c.pop.new.self.items c.in-Some.capture c.args.audit c.loop-capture.examined c.in_ok-examined.examined c.in-Some.ensures.items c.loop-capture.invariant
    (subst (λ (n : ℕ). ExaminesNext g.S.Source.left g.S.Source.faults n c.in-Some.capture c.loop-capture.examined c.in_ok-examined.examined) (c.limit_for-limit.ensures.exact ∙ ap limit_for same) c.in_ok-examined.ensures.next)

pub returns : goal.returns
returns g c = front_all g.S.Source.left g.S.Source.faults c.args.opened.items c.loop-capture.rest.items c.args.audit c.loop-capture.examined (no_items g.S.Source.left g.S.Source.faults c.loop-capture.rest.items (omega (arith, c.in_default.ensures.cases.0, c.loop-capture.rest.ok.0))) c.loop-capture.invariant
