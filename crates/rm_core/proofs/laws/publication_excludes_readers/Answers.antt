use Rattle.rm_core.proofs.OneRun.{inside_number, nobody_in, drained_stays_out}
use Rattle.rm_core.proofs.laws.publication_excludes_readers.Goals as goal

pub returns-clause-inside : goal.returns-clause-inside
returns-clause-inside c = inside_number

pub returns-clause-publication : goal.returns-clause-publication
returns-clause-publication c = nobody_in

pub returns-clause-drained : goal.returns-clause-drained
returns-clause-drained c = drained_stays_out
