use Rattle.std.proofs.Common.{sym, ap, ◌∙◌, codes}
use Rattle.report_values.specs.Captures.{count_text}
use Rattle.report_values.proofs.CaptureEnds.{count_same}
use Rattle.report_values.proofs.capture_lines.tells_end.Goals as goal

pub returns-in-Some : goal.returns-in-Some
returns-in-Some c = (
  λ yes. c.in-Some.ensures ∙ ap (count_text c.args.capture c.args.records) (c.is_end.ensures.0 yes),
  λ is. c.is_end.ensures.1 (count_same c.args.capture c.args.records c.in-Some.rest.now (codes "\n") (sym c.in-Some.ensures ∙ is)),
)
