use Rattle.std.proofs.Common.{rules, ◌≡◌, ◌∙◌, ap, refl}
use Rattle.std.specs.Prelude.{replicate}
use Rattle.lock_tests.specs.contracts.edition.EditionNumbered.TheImpl as edition
use Rattle.lock_tests.specs.contracts.ledger.LedgerKept.TheImpl as ledger
use Rattle.rm_table.specs.Meanings.{meanings}
use Rattle.rm_table.proofs.Resting.{opens_copies, first_of-replicate, opens_me}
use Rattle.lock_tests.specs.declared.edition.Edition.{Edition}
use Rattle.lock_tests.proofs.table_rows.seats.open_table.Goals as goal

pub open-requires-clause-opens : goal.open-requires-clause-opens
open-requires-clause-opens c =
    let e : Edition = record { number = 1 } in
    opens_copies _ c.args.processors e _ c.in_ok-editions.editions.items c.requires.some (c.in_ok-editions.ensures.items_if_clones_equal (search rules)) refl refl

pub returns-clause-opening : goal.returns-clause-opening
returns-clause-opening c =
    let e : Edition = record { number = 1 } in
    let is : c.in_ok-editions.editions.items ≡ replicate c.args.processors e = c.in_ok-editions.ensures.items_if_clones_equal (search rules) in
    opens_me (meanings edition.ghosts ledger.ghosts) c.in_ok-editions.editions.len e (record { number = 1; publications = 1; entries = 0 }) _ (search rules) (c.in_ok-open.ensures.seat e (rw is (first_of-replicate e c.args.processors c.requires.some)))

pub returns-clause-count : goal.returns-clause-count
returns-clause-count c =
    let e : Edition = record { number = 1 } in
    let is : c.in_ok-editions.editions.items ≡ replicate c.args.processors e = c.in_ok-editions.ensures.items_if_clones_equal (search rules) in
    let me = c.in_ok-open.ensures.seat e (rw is (first_of-replicate e c.args.processors c.requires.some)) in
    (ap (λ z. z.0.count) me ∙ search rules, ap (λ z. z.0.number) me)
