use Rattle.std.proofs.Common.{rules, ◌≡◌, ◌∙◌, ap, sym}
use Rattle.std.specs.Prelude.{replicate}
use Rattle.lock_bench.specs.contracts.edition.EditionNumbered.TheImpl as edition
use Rattle.lock_bench.specs.contracts.book.BookKept.TheImpl as ledger
use Rattle.rm_table.specs.Meanings.{meanings}
use Rattle.rm_table.proofs.Resting.{opens_copies, first_of-replicate, opens_me}
use Rattle.lock_bench.specs.declared.edition.Edition.{Edition}
use Rattle.lock_bench.proofs.worker.open_table.Goals as goal

pub open-requires-clause-opens : goal.open-requires-clause-opens
open-requires-clause-opens c =
    let e : Edition = record { number = 1 } in
    opens_copies _ c.args.processors e c.new.result c.in_ok-editions.editions.items c.requires.some c.in_ok-editions.ensures.copies (sym (ap (λ b. b.number) c.new.ensures)) (sym (ap (λ b. b.number) c.new.ensures))

pub returns-clause-opening : goal.returns-clause-opening
returns-clause-opening c =
    let e : Edition = record { number = 1 } in
    opens_me (meanings edition.ghosts ledger.ghosts) c.in_ok-editions.editions.len e c.new.result _ (search rules) (c.in_ok-open.ensures.seat e (rw c.in_ok-editions.ensures.copies (first_of-replicate e c.args.processors c.requires.some)))

pub returns-clause-count : goal.returns-clause-count
returns-clause-count c =
    let e : Edition = record { number = 1 } in
    let me = c.in_ok-open.ensures.seat e (rw c.in_ok-editions.ensures.copies (first_of-replicate e c.args.processors c.requires.some)) in
    ap (λ z. z.0.count) me ∙ search rules
