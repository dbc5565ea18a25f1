use Rattle.std.proofs.Common.{ap, subst}
use Rattle.fw_world.specs.Lane.{LaneValue}
use Rattle.serial_world.specs.SerialLane.{InsideValue}
use Rattle.serial_world.specs.Steps.{JudgesNext}
use Rattle.serial_world.proofs.serial_world.SerialWorld.judge_in.Goals as goal

pub returns-clause-next : goal.returns-clause-next
returns-clause-next c =
    subst (λ (l : LaneValue). JudgesNext c.args.self.now c.judge_record-outcome.new.self l c.judge_record-outcome.new.lane c.args.packet.now c.args.port.now c.args.second c.judge_record-outcome.result)
    (ap (λ (i : InsideValue). i.lane) c.inside.view_is) c.judge_record-outcome.ensures.next
