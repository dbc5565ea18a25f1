use Rattle.std.proofs.Common.{rules, arith, sym, ap, ◌∙◌}
use Rattle.rm_table.proofs.LockCalls.{read_number_allows}
use Rattle.rm_table.proofs.table.RmTable.read_number.Goals as goal

pub load-requires : goal.load-requires
load-requires g c =
    let me = ap (λ z. z.me) c.seat.view_is in
    let same = ap (λ z. z.table_id) c.seat.view_is ∙ c.requires.table ∙ sym c.self.view_is in
    let size = ap (λ z. z.words) same in
    (same, omega arith, read_number_allows _ _ _ _ _ (search rules) (rw me c.requires.working))
