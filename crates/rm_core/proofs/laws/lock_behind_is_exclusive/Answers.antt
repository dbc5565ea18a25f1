use Rattle.rm_core.proofs.OneRun.{holder_stays}
use Rattle.rm_core.proofs.laws.lock_behind_is_exclusive.Goals as goal

pub returns : goal.returns
returns c = holder_stays
