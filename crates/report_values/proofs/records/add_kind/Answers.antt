use Rattle.std.proofs.Common.{◌≡◌, List, length, sym, subst, arith}
use Rattle.std.proofs.lemmas.Grind.{common_steps}
use Rattle.eval_engine.specs.declared.docket_entry.DocketEntry.{DocketEntry}
use Rattle.report_values.specs.Records.{AreHinted}
use Rattle.report_values.proofs.KindHints.{hints_insert, hints_more}
use Rattle.report_values.proofs.records.add_kind.Goals as goal

pub returns-in_err-push-clause-hints : goal.returns-in_err-push-clause-hints
returns-in_err-push-clause-hints c before isn't =
    subst (λ (kinds : List DocketEntry). AreHinted kinds c.insert.new.self) (sym c.in_err-push.ensures.items)
    (hints_insert c.args.kinds.now.items c.args.entry c.args.hints.now c.insert.new.self c.in-Ok.place before isn't c.in_ok-insert.ensures.updates)

pub returns-clause-hints : goal.returns-clause-hints
returns-clause-hints c before isn't =
    let at : c.in-Ok.place ≡ length c.args.kinds.now.items = grind (arith, common_steps, c.in-Ok.ensures, c.len.ensures) in
    subst (λ (kinds : List DocketEntry). AreHinted kinds c.insert.new.self) (sym c.in_ok-push.ensures.items)
    (hints_more c.args.kinds.now.items c.args.entry c.args.hints.now c.insert.new.self c.in-Ok.place before isn't c.in_ok-insert.ensures.updates at)
