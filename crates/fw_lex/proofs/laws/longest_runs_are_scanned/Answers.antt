use Rattle.fw_lex.proofs.Longest.{words_are_longest}
use Rattle.fw_lex.proofs.Unique.{runs_are_scanned}
use Rattle.fw_lex.proofs.laws.longest_runs_are_scanned.Goals as goal

pub returns-clause-runs : goal.returns-clause-runs
returns-clause-runs c = words_are_longest

pub returns-clause-alone : goal.returns-clause-alone
returns-clause-alone c = runs_are_scanned
