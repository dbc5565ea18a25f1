use Rattle.std.proofs.Common.{sym, ◌∙◌}
use Rattle.run_audit.proofs.JournalSteps.{begun_first}
use Rattle.run_audit.proofs.begun_book.replay_beginning.Goals as goal

pub returns-in-Some-clause-under : goal.returns-in-Some-clause-under
returns-in-Some-clause-under c = λ ok. begun_first _ c.args.number c.in-Some.begun (sym c.in_ok-begun.ensures ∙ c.in-Some.is)
