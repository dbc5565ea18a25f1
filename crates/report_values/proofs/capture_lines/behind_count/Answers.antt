use Rattle.std.proofs.Common.{rules, codes, decimal, None, ◌++◌}
use Rattle.report_values.proofs.CaptureEnds.{match_behind, none_behind}
use Rattle.report_values.proofs.capture_lines.behind_count.Goals as goal

pub returns-in_err-rest : goal.returns-in_err-rest
returns-in_err-rest c =
    let none =
    match_behind None (decimal c.args.capture) c.in_ok-behind_number.field-0.now c.args.text.now
    (λ rest. codes " records " ++ (decimal c.args.records ++ rest)) c.in_ok-behind_number.ensures
    (none_behind (codes " records ") c.in_ok-behind_number.field-0.now (λ rest. decimal c.args.records ++ rest) c.in_err-rest.ensures) in
    search (rules, none)

pub returns : goal.returns
returns c =
    match_behind c.behind_number-2.result (decimal c.args.capture) c.in_ok-behind_number.field-0.now c.args.text.now
    (λ rest. codes " records " ++ (decimal c.args.records ++ rest)) c.in_ok-behind_number.ensures
    (match_behind c.behind_number-2.result (codes " records ") c.in_ok-rest.rest.now c.in_ok-behind_number.field-0.now
    (λ rest. decimal c.args.records ++ rest) c.in_ok-rest.ensures c.behind_number-2.ensures)
