use Rattle.std.proofs.Common.{◌∷◌, ◌∙◌, List, ap}
use Rattle.audit_driver.specs.AuditNames.{words_named}
use Rattle.audit_driver.proofs.Found.{audited_behind}
use Rattle.audit_driver.proofs.audit_command.audit_behind.Goals as goal

pub returns-in_ok-before-in-Ready-2 : goal.returns-in_ok-before-in-Ready-2
returns-in_ok-before-in-Ready-2 g c =
    let is = rw c.in-Ready.is at c.in_ok-name.ensures in
    audited_behind _ (words_named c.args.words) c.args.library.now c.make_ready.new.library c.args.report.source c.args.report.bytes.items c.in-Ready.field-0 c.in_ok-result-in-Ready.field-0.result c.in_ok-result-in-Ready.field-0.sources.items
    c.in_ok-before-in-Ready-2.field-0.items is c.in_ok-result-in-Ready.ensures
    (c.in_ok-before-in-Ready-2.ensures ∙ ap (λ (l : List g.row.L-Reader.Denot). c.args.report.source ∷ l) c.in_ok-before-in-Ready.ensures)
