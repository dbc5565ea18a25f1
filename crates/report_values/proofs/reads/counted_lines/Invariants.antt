-- The lines that are left.
use Rattle.std.proofs.Common.{◌≡◌, ◌+◌, ◌-◌, []}
use Rattle.report_values.specs.Fields.{counted_rule}
use Rattle.report_values.specs.Lines.{lines_of}
use Rattle.report_values.proofs.reads.counted_lines.Given as goal

abbrev pub invariant-loop : goal.invariant-loop
invariant-loop l = lines_of (λ n. counted_rule) [] (l.counter + 1) (l.count - l.counter) l.lines.rest.now ≡ lines_of (λ n. counted_rule) [] 1 l.initial.count l.initial.lines.rest.now
