use Rattle.std.proofs.Common.{rules, arith, sym, ap, ◌∙◌}
use Rattle.rm_table.proofs.Calls.{lower_allows, lower_word}
use Rattle.rm_table.proofs.table.RmTable.lower.Goals as goal

pub store-requires : goal.store-requires
store-requires g c =
    let me = ap (λ z. z.me) c.seat.view_is in
    let same = ap (λ z. z.table_id) c.seat.view_is ∙ c.requires.table ∙ sym c.self.view_is in
    let size = ap (λ z. z.words) same in
    let within = c.seat.invariant.within (rw me c.requires.processor) in
    (same, omega arith, lower_allows _ _ _ _ _ _ (search rules) (rw me c.requires.processor) (rw me c.requires.begun) (rw me c.requires.bookless) (rw me c.requires.edition) (lower_word c.seat.inside.seat.me.0.part.sections c.seat.inside.tracker c.seat.inside.seat.me.0.phase (rw me c.requires.begun) c.seat.invariant.tracker_is))
