use Rattle.lookup_tables.proofs.Kept.{pieces_of}
use Rattle.lookup_tables.proofs.addr_table.AddrTable.pieces.Goals as goal

pub returns : goal.returns
returns c = rw c.deref.ensures.value (rw c.self.view_is at (pieces_of c.self.inside.entries.items c.self.inside.pieces.items c.self.invariant))
