use Rattle.std.proofs.Common.{rules, arith, sym, ap, ◌∙◌}
use Rattle.rm_table.proofs.Calls.{regain_allows}
use Rattle.rm_table.proofs.Base.{some_of}
use Rattle.rm_table.proofs.table.RmTable.regain.Goals as goal

pub store-requires : goal.store-requires
store-requires g c =
    let me = ap (λ z. z.me) c.seat.view_is in
    let same = ap (λ z. z.table_id) c.seat.view_is ∙ c.requires.table ∙ sym c.self.view_is in
    let size = ap (λ z. z.words) same in
    let within = c.seat.invariant.within (rw me c.requires.processor) in
    let read = some_of c.seat.inside.seat.me.0.part.read (rw me c.requires.read) in
    (same, omega arith, regain_allows _ _ _ _ _ read.0 (search rules) (rw me c.requires.processor) (rw me c.requires.out) (rw me c.requires.behind) read.1)
