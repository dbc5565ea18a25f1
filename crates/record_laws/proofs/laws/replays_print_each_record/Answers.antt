use Rattle.record_laws.proofs.PrintedLines.{replays_print_each_record}
use Rattle.record_laws.proofs.laws.replays_print_each_record.Goals as goal

pub returns : goal.returns
returns g c = replays_print_each_record _ _
