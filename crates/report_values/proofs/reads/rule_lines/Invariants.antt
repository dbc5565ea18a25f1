-- The lines that are left.
use Rattle.std.proofs.Common.{◌≡◌, ◌+◌, ◌-◌, []}
use Rattle.report_values.specs.Fields.{rule_number_at}
use Rattle.report_values.specs.Lines.{lines_of}
use Rattle.report_values.proofs.reads.rule_lines.Given as goal

abbrev pub invariant-loop : goal.invariant-loop
invariant-loop l = lines_of (λ n. rule_number_at) [] (l.counter + 1) (l.count - l.counter) l.lines.rest.now ≡ lines_of (λ n. rule_number_at) [] 1 l.initial.count l.initial.lines.rest.now
