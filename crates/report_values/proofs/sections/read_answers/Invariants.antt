-- The answers that are left.
use Rattle.std.proofs.Common.{◌≡◌, ◌-◌, length}
use Rattle.report_values.specs.Sections.{answers}
use Rattle.report_values.proofs.sections.read_answers.Given as goal

abbrev pub invariant-loop : goal.invariant-loop
invariant-loop l = answers (length l.initial.lines.rest.now - l.counter) l.lines.rest.now ≡ answers (length l.initial.lines.rest.now) l.initial.lines.rest.now
