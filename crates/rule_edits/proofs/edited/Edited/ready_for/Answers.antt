use Rattle.std.proofs.Common.{sym, ◌∙◌}
use Rattle.rule_edits.proofs.Added.{add_refused, add_unready, add_made}
use Rattle.rule_edits.proofs.edited.Edited.ready_for.Goals as goal

pub returns-in-Some-clause-err : goal.returns-in-Some-clause-err
returns-in-Some-clause-err c = λ other. add_refused _ c.args.draft.now c.args.number c.in-Some.fault c.requires (sym c.adding_fault.ensures ∙ c.in-Some.is)

pub returns-in-None-clause-err : goal.returns-in-None-clause-err
returns-in-None-clause-err c = add_unready _ c.args.draft.now c.args.number c.requires (sym c.adding_fault.ensures ∙ c.in-None.is) c.with_name_and_tables.result c.with_name_and_tables.ensures.value

pub returns-in-None-clause-ok : goal.returns-in-None-clause-ok
returns-in-None-clause-ok c = add_made _ c.args.draft.now c.args.number c.requires (sym c.adding_fault.ensures ∙ c.in-None.is) c.with_name_and_tables.result c.with_name_and_tables.ensures.value
