use Rattle.record_laws.proofs.OneReplay.{replays_are_determined}
use Rattle.record_laws.proofs.laws.replays_are_determined.Goals as goal

pub returns : goal.returns
returns g c = replays_are_determined _ _ _ _
