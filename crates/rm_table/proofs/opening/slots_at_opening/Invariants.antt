use Rattle.std.proofs.Common.{◌≡◌}
use Rattle.rm_table.specs.Ends.{first_slots}
use Rattle.rm_table.proofs.opening.slots_at_opening.Given as goal

abbrev pub invariant-loop-edition : goal.invariant-loop-edition
invariant-loop-edition g l = l.slots.items ≡ first_slots l.fn.book l.yielded
