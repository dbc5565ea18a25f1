use Rattle.std.proofs.Common.{rules, ◌≡◌, ◌∙◌, ap, refl}
use Rattle.std.specs.Prelude.{replicate}
use Rattle.rm_table.proofs.Resting.{opens_copies, first_of-replicate}
use Rattle.lock_tests.specs.declared.edition.Edition.{Edition}
use Rattle.lock_tests.proofs.Callers.{in_order, all_of_lock}
use Rattle.lock_tests.proofs.lock_rows.calls.open_lock.Goals as goal

pub open-requires-clause-opens : goal.open-requires-clause-opens
open-requires-clause-opens c =
    let e : Edition = record { number = 1 } in
    opens_copies _ c.args.processors e _ c.in_ok-editions.editions.items c.requires.some (c.in_ok-editions.ensures.items_if_clones_equal (search rules)) refl refl

pub returns-clause-tokens : goal.returns-clause-tokens
returns-clause-tokens c =
    let e : Edition = record { number = 1 } in
    let is : c.in_ok-editions.editions.items ≡ replicate c.args.processors e = c.in_ok-editions.ensures.items_if_clones_equal (search rules) in
    let o = c.in_ok-opened.ensures.opened e (rw is (first_of-replicate e c.args.processors c.requires.some)) in
    in_order _ _ _ _ _ (λ k. refl) (λ k. refl) o.processors (search rules)

pub returns-clause-locks : goal.returns-clause-locks
returns-clause-locks c =
    let e : Edition = record { number = 1 } in
    let is : c.in_ok-editions.editions.items ≡ replicate c.args.processors e = c.in_ok-editions.ensures.items_if_clones_equal (search rules) in
    let o = c.in_ok-opened.ensures.opened e (rw is (first_of-replicate e c.args.processors c.requires.some)) in
    all_of_lock _ _ _ (in_order _ _ _ _ _ (λ k. refl) (λ k. refl) o.processors refl)

pub returns-clause-operator : goal.returns-clause-operator
returns-clause-operator c =
    let e : Edition = record { number = 1 } in
    let is : c.in_ok-editions.editions.items ≡ replicate c.args.processors e = c.in_ok-editions.ensures.items_if_clones_equal (search rules) in
    let o = c.in_ok-opened.ensures.opened e (rw is (first_of-replicate e c.args.processors c.requires.some)) in
    (o.lock, ap (λ v. v.count) o.knows ∙ search rules, ap (λ v. v.number) o.knows)
