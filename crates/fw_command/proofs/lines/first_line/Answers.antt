use Rattle.std.proofs.Common.{◌+◌}
use Rattle.std.proofs.lemmas.List.{take_rest}
use Rattle.fw_command.proofs.LineEnds.{lines_of_at}
use Rattle.fw_command.proofs.lines.first_line.Goals as goal

pub returns-in-Some-clause-lines : goal.returns-in-Some-clause-lines
returns-in-Some-clause-lines c =
    rw (take_rest c.args.bytes.now (c.in-Some.at + 1)) (lines_of_at c.args.bytes.now c.in-Some.at c.in-Some.ensures.found)
