use Rattle.run_audit.proofs.LeftOvers.{none_behind}
use Rattle.run_audit.proofs.laws.tests_find_all.Goals as goal

pub returns : goal.returns
returns c = λ told dockets values is number wrong. none_behind told dockets values is number wrong
