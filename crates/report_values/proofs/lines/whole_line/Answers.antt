use Rattle.report_values.proofs.CaptureEnds.{line_front}
use Rattle.report_values.proofs.lines.whole_line.Goals as goal

pub returns-clause-one : goal.returns-clause-one
returns-clause-one c = line_front c.args.text.now c.in_ok-at.at c.in_ok-at.ensures.found
