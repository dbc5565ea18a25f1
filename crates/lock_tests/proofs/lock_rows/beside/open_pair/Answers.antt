use Rattle.std.proofs.Common.{rules, ◌≡◌, ◌∙◌, ap, refl}
use Rattle.std.specs.Prelude.{replicate}
use Rattle.lock_tests.proofs.Callers.{in_order, both_tokens}
use Rattle.lock_tests.proofs.lock_rows.beside.open_pair.Goals as goal

pub returns-clause-first : goal.returns-clause-first
returns-clause-first g c =
    let is : c.in_ok-editions.editions.items ≡ replicate 2 c.of-edition.result = c.in_ok-editions.ensures.items_if_clones_equal (search rules) in
    let o = c.in_ok-lock.ensures.opened c.of-edition.result (rw is refl) in
    (both_tokens _ c.in_ok-lock.field-0.processors.items c.pop.new.self.items c.pop-2.new.self.items c.in-Some-Some.first c.in-Some-Some.second
    (in_order _ _ _ 2 _ (λ k. refl) (λ k. refl) o.processors (search rules)) c.in-Some-Some.ensures.items c.in-Some-Some.ensures'.items).0

pub returns-clause-second : goal.returns-clause-second
returns-clause-second g c =
    let is : c.in_ok-editions.editions.items ≡ replicate 2 c.of-edition.result = c.in_ok-editions.ensures.items_if_clones_equal (search rules) in
    let o = c.in_ok-lock.ensures.opened c.of-edition.result (rw is refl) in
    (both_tokens _ c.in_ok-lock.field-0.processors.items c.pop.new.self.items c.pop-2.new.self.items c.in-Some-Some.first c.in-Some-Some.second
    (in_order _ _ _ 2 _ (λ k. refl) (λ k. refl) o.processors (search rules)) c.in-Some-Some.ensures.items c.in-Some-Some.ensures'.items).1

pub returns-clause-operator : goal.returns-clause-operator
returns-clause-operator g c =
    let is : c.in_ok-editions.editions.items ≡ replicate 2 c.of-edition.result = c.in_ok-editions.ensures.items_if_clones_equal (search rules) in
    let o = c.in_ok-lock.ensures.opened c.of-edition.result (rw is refl) in
    (o.lock, ap (λ v. v.count) o.knows ∙ search rules, ap (λ v. v.number) o.knows ∙ ap (λ e. e.tag.number) c.of-edition.ensures)
