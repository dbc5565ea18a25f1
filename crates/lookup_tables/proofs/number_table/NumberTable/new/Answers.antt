use Rattle.std.specs.Ordering.{nat_cmp}
use Rattle.lookup_tables.proofs.Places.{in_order-nil}
use Rattle.lookup_tables.proofs.number_table.NumberTable.new.Goals as goal

pub invariant_of-result : goal.invariant_of-result
invariant_of-result c = rw c.new.ensures.items (in_order-nil nat_cmp)
