use Rattle.std.proofs.Common.{ap, sym, ◌∙◌, rules}
use Rattle.std.proofs.lemmas.List.{get_or_default}
use Rattle.lookup_tables.specs.Pieces.{no_piece}
use Rattle.lookup_tables.specs.declared.piece.Piece.{Piece}
use Rattle.lookup_tables.proofs.Kept.{table_answer, table_answer_none, answer_longest}
use Rattle.lookup_tables.proofs.addr_table.AddrTable.find.Goals as goal

pub returns-then-is_empty-clause-answer : goal.returns-then-is_empty-clause-answer
returns-then-is_empty-clause-answer c =
    rw (sym c.self.view_is) (table_answer_none c.self.inside.entries.items c.self.inside.pieces.items c.self.invariant (search rules) c.args.a.0)

pub returns-clause-answer : goal.returns-clause-answer
returns-clause-answer c =
    let here = rw c.deref.ensures.value at c.place_in.ensures in
    let is = get_or_default c.self.inside.pieces.items c.place_in.result c.index.result.now no_piece here.within in
    rw (sym c.self.view_is) (ap (λ (p : Piece). p.value) (c.index.ensures ∙ is) ∙ table_answer c.self.inside.entries.items c.self.inside.pieces.items c.self.invariant c.args.a.0 c.place_in.result (search rules) here)

pub returns-clause-longest : goal.returns-clause-longest
returns-clause-longest c =
    rw (returns-clause-answer c) (rw c.self.view_is at (answer_longest c.self.inside.entries.items c.self.invariant.lawful c.args.a.0))
