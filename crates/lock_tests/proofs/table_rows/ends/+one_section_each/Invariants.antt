use Rattle.std.proofs.Common.{◌+◌, ◌-◌}
use Rattle.lock_tests.proofs.table_rows.ends.+one_section_each.Given as goal

abbrev pub decreases-one_section_each : goal.decreases-one_section_each
decreases-one_section_each g l = l.processors + 1 - l.place
