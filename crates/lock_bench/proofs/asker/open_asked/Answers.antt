use Rattle.std.proofs.Common.{ℕ, List, ◌≡◌, ◌∙◌, ap, refl, sym, subst}
use Rattle.std.specs.Prelude.{All, length}
use Rattle.rm_table.proofs.Base.{all_values}
use Rattle.rm_table.proofs.Resting.{opens_copies, first_of-replicate}
use Rattle.rm_lock.specs.Tokens.{TokenState}
use Rattle.state_asks.specs.declared.facts.Facts.{Facts}
use Rattle.state_journal.specs.declared.entry.Item.{Item}
use Rattle.state_journal.specs.Items.{last_facts}
use Rattle.lock_bench.specs.declared.facts_edition.FactsEdition.{FactsEdition}
use Rattle.lock_bench.specs.declared.boxed_book.BoxedBook.{BoxedBook}
use Rattle.lock_bench.proofs.asker.open_asked.Goals as goal

pub open-requires-2-clause-opens : goal.open-requires-2-clause-opens
open-requires-2-clause-opens c =
    let e : FactsEdition = record { facts = c.in_ok-facts.facts } in
    let is = c.in_ok-book.ensures.ok ∙ c.in_ok-open.ensures in
    opens_copies _ c.args.processors e _ c.in_ok-editions.editions.items c.requires.some c.in_ok-editions.ensures
    (c.in_ok-facts.ensures ∙ sym (ap (λ j. length j.facts) is)) (sym (ap (λ j. last_facts j.facts) is))

pub returns : goal.returns
returns c =
    let e : FactsEdition = record { facts = c.in_ok-facts.facts } in
    let o = c.in_ok-open-2.ensures.opened e (rw c.in_ok-editions.ensures (first_of-replicate e c.args.processors c.requires.some)) in
    record {
      processors = subst (λ (ts : List (TokenState FactsEdition BoxedBook Facts ℕ Item)). All (λ p. p.table_id ≡ c.in_ok-open-2.field-0.lock) ts) (sym o.processors)
          (all_values (λ (p : TokenState FactsEdition BoxedBook Facts ℕ Item). p.table_id ≡ c.in_ok-open-2.field-0.lock) _ 1 _ (λ k low high. refl));
    }
