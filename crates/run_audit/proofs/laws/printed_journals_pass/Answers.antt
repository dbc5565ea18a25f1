use Rattle.run_audit.proofs.PrintedJournals.{printed_journals_pass}
use Rattle.run_audit.proofs.laws.printed_journals_pass.Goals as goal

pub returns : goal.returns
returns c = printed_journals_pass
