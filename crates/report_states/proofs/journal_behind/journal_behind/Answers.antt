use Rattle.std.proofs.lemmas.Result.{err_from_is_err_and}
use Rattle.report_states.proofs.journal_behind.journal_behind.Goals as goal

pub returns-in_err-config-clause-wrong : goal.returns-in_err-config-clause-wrong
returns-in_err-config-clause-wrong c =
    let p = err_from_is_err_and c.from_residual.result c.from_residual.ensures.1 in
    let cause = c.in_err-config.ensures.wrong c.args.lines.now in
    rw (p.1, p.2) cause
