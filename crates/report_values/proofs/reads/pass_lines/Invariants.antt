-- The lines that are left.
use Rattle.std.proofs.Common.{◌≡◌, ◌+◌, ◌-◌, []}
use Rattle.report_values.specs.Lines.{any, lines_of}
use Rattle.report_values.proofs.reads.pass_lines.Given as goal

abbrev pub invariant-loop : goal.invariant-loop
invariant-loop l = lines_of any [] (l.counter + 1) (l.count - l.counter) l.lines.rest.now ≡ lines_of any [] 1 l.initial.count l.initial.lines.rest.now
