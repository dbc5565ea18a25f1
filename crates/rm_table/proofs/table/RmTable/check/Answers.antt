use Rattle.std.proofs.Common.{rules, arith, sym, ap, ◌∙◌}
use Rattle.rm_table.proofs.Calls.{check_allows}
use Rattle.rm_table.proofs.table.RmTable.check.Goals as goal

pub load-found-requires : goal.load-found-requires
load-found-requires g c =
    let me = ap (λ z. z.me) c.seat.view_is in
    let same = ap (λ z. z.table_id) c.seat.view_is ∙ c.requires.table ∙ sym c.self.view_is in
    let size = ap (λ z. z.words) same in
    let within = c.seat.invariant.within (rw me c.requires.processor) in
    (same, omega arith, check_allows _ _ _ _ _ (search rules) (rw me c.requires.processor) (rw me c.requires.raised))
