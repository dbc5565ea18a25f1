use Rattle.std.proofs.Common.{◌+◌}
use Rattle.std.proofs.lemmas.List.{take_rest}
use Rattle.report_reading.proofs.LineEnds.{lines_at}
use Rattle.report_reading.proofs.lines.next_line.Goals as goal

pub returns-in-Some-clause-lines : goal.returns-in-Some-clause-lines
returns-in-Some-clause-lines c =
    rw (take_rest c.args.text.now (c.in-Some.at + 1)) (lines_at c.args.text.now c.in-Some.at c.in-Some.ensures.found)
