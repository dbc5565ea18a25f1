use Rattle.std.proofs.Common.{sym, ◌∙◌}
use Rattle.serial_schedule.proofs.Least.{first_head-least}
use Rattle.serial_schedule.proofs.order.first_capture.Goals as goal

pub returns-clause-least : goal.returns-clause-least
returns-clause-least c = first_head-least c.args.moments.now c.in_ok-first.first (sym c.first_head.ensures ∙ c.in_ok-first.was)
