use Rattle.std.proofs.Common.{rules, codes, decimal, None, ◌++◌}
use Rattle.report_values.proofs.CaptureEnds.{match_behind, none_behind}
use Rattle.report_values.proofs.capture_lines.fault_in.Goals as goal

pub returns-in_err-behind_word : goal.returns-in_err-behind_word
returns-in_err-behind_word c =
    let none =
    match_behind None (decimal c.args.capture) c.in_ok-behind_number.field-0.now c.args.text.now
    (λ rest. codes " " ++ (rest ++ codes "\n")) c.in_ok-behind_number.ensures
    (none_behind (codes " ") c.in_ok-behind_number.field-0.now (λ rest. rest ++ codes "\n") c.in_err-behind_word.ensures) in
    search (rules, none)

pub returns : goal.returns
returns c =
    match_behind c.before_end.result (decimal c.args.capture) c.in_ok-behind_number.field-0.now c.args.text.now
    (λ rest. codes " " ++ (rest ++ codes "\n")) c.in_ok-behind_number.ensures
    (match_behind c.before_end.result (codes " ") c.in_ok-behind_word.field-0.now c.in_ok-behind_number.field-0.now
    (λ rest. rest ++ codes "\n") c.in_ok-behind_word.ensures c.before_end.ensures)
