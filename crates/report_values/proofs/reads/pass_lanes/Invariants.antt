-- The lines that are left.
use Rattle.std.proofs.Common.{◌≡◌, ◌+◌, ◌-◌, codes}
use Rattle.report_values.specs.Fields.{lane_in}
use Rattle.report_values.specs.Lines.{lines_of}
use Rattle.report_values.proofs.reads.pass_lanes.Given as goal

abbrev pub invariant-loop-place : goal.invariant-loop-place
invariant-loop-place l = lines_of lane_in (codes "lane ") (l.place + 1) (l.captures - l.place) l.lines.rest.now ≡ lines_of lane_in (codes "lane ") 1 l.initial.captures l.initial.lines.rest.now
