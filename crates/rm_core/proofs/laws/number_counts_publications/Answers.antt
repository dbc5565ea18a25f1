use Rattle.rm_core.proofs.OneRun.{number-after_all, number_fits}
use Rattle.rm_core.proofs.laws.number_counts_publications.Goals as goal

pub returns-clause-count : goal.returns-clause-count
returns-clause-count c = number-after_all

pub returns-clause-fits : goal.returns-clause-fits
returns-clause-fits c = number_fits
