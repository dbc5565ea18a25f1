use Rattle.run_audit.proofs.LeftOvers.{found_behind}
use Rattle.run_audit.proofs.laws.tests_find_the_first.Goals as goal

pub returns : goal.returns
returns c = λ told dockets values line many is. found_behind told dockets values line is many
