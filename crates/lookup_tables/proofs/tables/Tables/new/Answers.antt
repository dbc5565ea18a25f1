use Rattle.lookup_tables.specs.Tables.{name_cmp}
use Rattle.lookup_tables.proofs.Places.{in_order-nil}
use Rattle.lookup_tables.proofs.tables.Tables.new.Goals as goal

pub invariant_of-result : goal.invariant_of-result
invariant_of-result c = rw c.new.ensures.items (in_order-nil name_cmp)
