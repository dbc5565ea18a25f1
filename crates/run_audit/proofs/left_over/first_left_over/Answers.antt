use Rattle.std.proofs.Common.{sym, ◌∙◌}
use Rattle.run_audit.specs.JudgingValues.{entries_of_each}
use Rattle.run_audit.specs.ToldReport.{lines_told}
use Rattle.run_audit.proofs.NothingLefts.{nothing_over}
use Rattle.run_audit.proofs.left_over.first_left_over.Goals as goal

pub returns-then-is_nothing_left : goal.returns-then-is_nothing_left
returns-then-is_nothing_left c =
    sym (nothing_over c.args.told.now (entries_of_each c.args.dockets.now) (lines_told c.args.report.now) c.requires.kept (sym c.is_nothing_left.ensures ∙ c.if-is_nothing_left.true))
