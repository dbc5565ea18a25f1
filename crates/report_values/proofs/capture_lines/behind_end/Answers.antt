use Rattle.std.proofs.Common.{codes, decimal, ◌++◌}
use Rattle.report_values.proofs.CaptureEnds.{match_behind}
use Rattle.report_values.proofs.capture_lines.behind_end.Goals as goal

pub returns : goal.returns
returns c =
    match_behind c.behind_count.result (codes "end ") c.in_ok-behind_word.field-0.now c.args.line.now
    (λ rest. decimal c.args.capture ++ (codes " records " ++ (decimal c.args.records ++ rest))) c.in_ok-behind_word.ensures c.behind_count.ensures
