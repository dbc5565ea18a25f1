-- The lines that are left.
use Rattle.std.proofs.Common.{◌≡◌, ◌+◌, ◌-◌, codes}
use Rattle.report_values.specs.Fields.{hits_in}
use Rattle.report_values.specs.Lines.{lines_of}
use Rattle.report_values.proofs.reads.hits_lines.Given as goal

abbrev pub invariant-loop-place : goal.invariant-loop-place
invariant-loop-place l = lines_of hits_in (codes "cache ") (l.place + 1) (l.captures - l.place) l.lines.rest.now ≡ lines_of hits_in (codes "cache ") 1 l.initial.captures l.initial.lines.rest.now
