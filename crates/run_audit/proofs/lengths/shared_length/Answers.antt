use Rattle.std.proofs.Common.{sym, ◌∙◌}
use Rattle.run_audit.proofs.Counts.{all_shared}
use Rattle.run_audit.proofs.lengths.shared_length.Goals as goal

pub returns-then-starts_with-clause-value : goal.returns-then-starts_with-clause-value
returns-then-starts_with-clause-value c =
    sym (all_shared c.args.first.now c.args.second.now (sym c.starts_with.ensures.value ∙ c.if-starts_with.true))
