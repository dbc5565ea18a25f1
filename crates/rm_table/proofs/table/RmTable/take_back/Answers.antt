use Rattle.std.proofs.Common.{rules, arith, sym, ap, ◌∙◌}
use Rattle.rm_table.proofs.LockCalls.{take_back_allows}
use Rattle.rm_table.proofs.table.RmTable.take_back.Goals as goal

pub compare_exchange-found-requires : goal.compare_exchange-found-requires
compare_exchange-found-requires g c =
    let me = ap (λ z. z.me) c.seat.view_is in
    let same = ap (λ z. z.table_id) c.seat.view_is ∙ c.requires.table ∙ sym c.self.view_is in
    let size = ap (λ z. z.words) same in
    (same, omega arith, take_back_allows _ _ _ _ _ _ (search rules) (rw me c.requires.working) (search rules))
