use Rattle.lookup_tables.proofs.Kept.{table_of_none}
use Rattle.lookup_tables.proofs.addr_table.AddrTable.new.Goals as goal

pub invariant_of-result : goal.invariant_of-result
invariant_of-result c = rw (c.new.ensures.items, c.new-2.ensures.items) table_of_none
