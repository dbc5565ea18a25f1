-- A book that was taken, asked, and is given back.
use Rattle.std.proofs.Common.{◌≡◌, ◌≢◌, inl, inr, ℕ, zero, suc, Some, length, refl, sym, ◌∙◌, ap, subst}
use Rattle.rm_table.specs.declared.view.View.{View}
use Rattle.rm_table.specs.Meanings.{Meanings, meanings}
use Rattle.rm_table.specs.Moves.{LeftBy}
use Rattle.rm_lock.specs.Calls.{TakesBook, IsAsTaken}
use Rattle.state_asks.specs.declared.facts.Facts.{Facts}
use Rattle.state_asks.specs.declared.op.Op.{Op}
use Rattle.state_asks.specs.declared.reply.Reply.{Reply}
use Rattle.state_journal.specs.declared.entry.Item.{Item}
use Rattle.state_journal.specs.Journal.{Journal, with_ask}
use Rattle.state_journal.specs.Items.{items_of, last_facts}
use Rattle.state_journal.proofs.ItemLists.{other_ask}
use Rattle.lock_bench.specs.Asked.{IsAskedBy}
use Rattle.lock_bench.specs.declared.facts_edition.FactsEdition.{FactsEdition}
use Rattle.lock_bench.specs.declared.boxed_book.BoxedBook.{BoxedBook}
use Rattle.lock_bench.specs.contracts.facts_edition.FactsEditionNumbered.TheImpl as edition
use Rattle.lock_bench.specs.contracts.boxed_book.BoxedBookKept.TheImpl as kept

-- what editions and books are to the lock here
abbrev pub means : Meanings FactsEdition BoxedBook Facts ℕ Item
means = meanings edition.ghosts kept.ghosts

-- an ask of a lane leaves the other lists
other_lists : (lane at : ℕ) (op : Op) (reply : Reply) (j : Journal) (k : ℕ) → k ≢ lane → items_of (with_ask j lane at op reply) k ≡ items_of j k
other_lists lane at op reply j zero other = refl
other_lists lane at op reply j (suc k) other = other_ask (suc k) lane 0 at op reply j.entries other

-- a book that met an ask of its lane, or none, is left as taken
left_asked : (lane : ℕ) (taken book : BoxedBook) → IsAskedBy lane taken.book.value book.book.value → LeftBy means lane taken book
left_asked lane taken book (inl same) = record {
  number = ap (λ (j : Journal). length j.facts) same;
  tag = ap (λ (j : Journal). last_facts j.facts) same;
  lists = λ k other. ap (λ (j : Journal). items_of j k) same;
  ready = λ was. ap (λ (j : Journal). j.ready) same ∙ was;
}
left_asked lane taken book (inr (at, op, reply, is)) = record {
  number = ap (λ (j : Journal). length j.facts) is;
  tag = ap (λ (j : Journal). last_facts j.facts) is;
  lists = λ k other. ap (λ (j : Journal). items_of j k) is ∙ other_lists lane at op reply taken.book.value k other;
  ready = λ was. ap (λ (j : Journal). j.ready) is ∙ was;
}

-- who took this book, and asked it or not, may give it back
pub asked_as_taken : (lane : ℕ) (before after : View FactsEdition BoxedBook Facts ℕ Item) (found book : BoxedBook) (seen : Journal) → TakesBook means before after found → seen ≡ found.book.value → lane ≡ before.place
    → IsAskedBy lane seen book.book.value → IsAsTaken means after book
asked_as_taken lane before after found book seen taking same at asked taken is =
    let found_is : found ≡ taken = some_is (sym (ap (λ (v : View FactsEdition BoxedBook Facts ℕ Item). v.book) taking.after_is) ∙ is) in
    let place : after.place ≡ lane = ap (λ (v : View FactsEdition BoxedBook Facts ℕ Item). v.place) taking.after_is ∙ sym at in
    subst (λ (p : ℕ). LeftBy means p taken book) (sym place)
    (left_asked lane taken book (subst (λ (j : Journal). IsAskedBy lane j book.book.value) (same ∙ ap (λ (b : BoxedBook). b.book.value) found_is) asked))
  where
    some_is : {a b : BoxedBook} → Some a ≡ Some b → a ≡ b
    some_is e = cc
