use Rattle.record_laws.proofs.RisingEditions.{editions_never_fall}
use Rattle.record_laws.proofs.laws.editions_never_fall.Goals as goal

pub returns : goal.returns
returns c = editions_never_fall
