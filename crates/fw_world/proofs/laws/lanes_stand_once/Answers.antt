use Rattle.fw_world.proofs.Arranging.{stand-once}
use Rattle.fw_world.proofs.laws.lanes_stand_once.Goals as goal

pub returns : goal.returns
returns g c = record { once = stand-once }
