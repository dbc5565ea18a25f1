use Rattle.std.proofs.Common.{◌≤◌, length, map, subst, arith}
use Rattle.command_words.specs.Invocation.{capture_names}
use Rattle.audit_driver.specs.Found.{ConcludesAudit}
use Rattle.audit_driver.specs.declared.audit_result.AuditResult.{AuditResult}
use Rattle.audit_driver.proofs.Conclusions.{was_examined, read_some, is_an_audit, stopped_there, concluded_there}
use Rattle.audit_driver.proofs.audit_command.audit_captures.Goals as goal
use Rattle.audit_driver.proofs.audit_command.audit_captures.Goals.{then-stopped+in_ok-result-in-Ok, else-stopped+in_ok-result-in-Ok-2}

pub stop-requires-clause-some : goal.stop-requires-clause-some
stop-requires-clause-some g c = λ none.
    let few = c.requires.few in
    let count = c.len-2.ensures in
    let has = was_examined g.S.Source.left g.S.Source.faults c.args.first c.args.report.items c.args.opened.items _ c.in_ok-audit-in-Ok.field-0 _ _ c.as_slice.ensures (omega (arith, few, count)) c.in-Ok.ensures.opened c.in_ok-audit-in-Ok.ensures in
    let some = (read_some g.S.Source.left g.S.Source.faults c.args.first c.args.report.items c.args.opened.items c.in_ok-audit-in-Ok.field-0 c.if-stopped.true has none).0 in
    let is = c.len-then-stopped.ensures in
    omega (arith, some, is)

pub stop-requires-clause-named : goal.stop-requires-clause-named
stop-requires-clause-named g c = λ none.
    let few = c.requires.few in
    let count = c.len-2.ensures in
    let named = c.requires.named in
    let has = was_examined g.S.Source.left g.S.Source.faults c.args.first c.args.report.items c.args.opened.items _ c.in_ok-audit-in-Ok.field-0 _ _ c.as_slice.ensures (omega (arith, few, count)) c.in-Ok.ensures.opened c.in_ok-audit-in-Ok.ensures in
    let most = (read_some g.S.Source.left g.S.Source.faults c.args.first c.args.report.items c.args.opened.items c.in_ok-audit-in-Ok.field-0 c.if-stopped.true has none).1 in
    let is = c.len-then-stopped.ensures in
    omega (arith, most, is, named)

pub conclude-requires : goal.conclude-requires
conclude-requires g c =
    let few = c.requires.few in
    let count = c.len-2.ensures in
    is_an_audit g.S.Source.left g.S.Source.faults c.args.first c.args.report.items c.args.opened.items c.in_ok-audit-in-Ok.field-0 c.if-stopped.false
    (was_examined g.S.Source.left g.S.Source.faults c.args.first c.args.report.items c.args.opened.items _ c.in_ok-audit-in-Ok.field-0 _ _ c.as_slice.ensures (omega (arith, few, count)) c.in-Ok.ensures.opened c.in_ok-audit-in-Ok.ensures)

pub returns-after-stopped : goal.returns-after-stopped
returns-after-stopped g c =
    let few = c.requires.few in
    let count = c.len-2.ensures in
    let length_is = c.len.ensures in
    let not_more = c.if-len-gt-MOST_BYTES.false in
    let short : length c.args.report.items ≤ 1073741824 = omega (arith, length_is, not_more) in
    let has = was_examined g.S.Source.left g.S.Source.faults c.args.first c.args.report.items c.args.opened.items _ c.in_ok-audit-in-Ok.field-0 _ _ c.as_slice.ensures (omega (arith, few, count)) c.in-Ok.ensures.opened c.in_ok-audit-in-Ok.ensures in
    elim c.if-stopped.branch [
      | then-stopped+in_ok-result-in-Ok w ↦
          let result_is = w.result-is in
          let count_is = w.len-then-stopped.ensures in
          subst (λ (r : AuditResult). ConcludesAudit g.S.Source.left g.S.Source.faults c.args.first c.args.report.items (map capture_names c.args.names.now) c.args.opened.items r c.in_ok-audit-in-Ok.field-0.sources.items) (cc)
          (stopped_there g.S.Source.left g.S.Source.faults c.args.first c.args.report.items (map capture_names c.args.names.now) c.args.opened.items c.in_ok-audit-in-Ok.field-0 w.in_ok-result-in-Ok.result w.len-then-stopped.result short w.if-stopped.true has
          (omega (arith, count_is)) w.in_ok-result-in-Ok.ensures)
      | else-stopped+in_ok-result-in-Ok-2 w ↦
          let result_is = w.result-is in
          subst (λ (r : AuditResult). ConcludesAudit g.S.Source.left g.S.Source.faults c.args.first c.args.report.items (map capture_names c.args.names.now) c.args.opened.items r c.in_ok-audit-in-Ok.field-0.sources.items) (cc)
          (concluded_there g.S.Source.left g.S.Source.faults c.args.first c.args.report.items (map capture_names c.args.names.now) c.args.opened.items c.in_ok-audit-in-Ok.field-0 w.in_ok-result-in-Ok-2.result short w.if-stopped.false has
          w.in_ok-result-in-Ok-2.ensures)
    ]
