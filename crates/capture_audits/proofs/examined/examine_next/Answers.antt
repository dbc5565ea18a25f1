use Rattle.std.proofs.Common.{◌+◌, arith, refl}
use Rattle.capture_audits.proofs.Examining.{audits_next, passes_by}
use Rattle.capture_audits.proofs.examined.examine_next.Goals as goal

pub returns-then-stopped : goal.returns-then-stopped
returns-then-stopped g c = record {
  next = passes_by g.S.Source.left g.S.Source.faults c.args.limit c.args.opened c.args.examined _ c.if-stopped.true c.if-stopped.true refl refl c.in_ok-push.ensures.items;
}

pub returns : goal.returns
returns g c = record {
  next = audits_next g.S.Source.left g.S.Source.faults c.args.limit c.args.opened c.args.examined _ (c.len.result + 1) c.in_ok-audit.field-0 c.if-stopped.false (c.requires.room c.if-stopped.false) (omega (arith, c.len.ensures, c.args.examined.ends.ok.0))
      c.in_ok-audit.ensures.audited c.in_ok-audit.ensures.captures c.in_ok-audit.ensures.lane refl c.in_ok-push-2.ensures.items c.in_ok-push-3.ensures.items c.is_stopped-stopped.ensures;
}
