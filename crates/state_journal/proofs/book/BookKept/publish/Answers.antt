use Rattle.std.proofs.Common.{◌≡◌, ◌+◌, List, length, ap, sym, subst, arith}
use Rattle.state_asks.specs.declared.facts.Facts.{Facts}
use Rattle.state_journal.specs.Journal.{Journal}
use Rattle.state_journal.proofs.Growing.{IsJournal-publication}
use Rattle.state_journal.proofs.ItemLists.{items_of-publication, last_facts-append}
use Rattle.state_journal.proofs.book.BookKept.publish.Goals as goal

pub invariant_of-self : goal.invariant_of-self
invariant_of-self c =
    let facts : c.args.self.now.facts ≡ c.self.inside.facts.items = sym (ap (λ (j : Journal). j.facts) c.self.view_is) in
    let next = subst (λ (all : List Facts). c.args.facts.number ≡ length all + 1) facts c.requires.next in (
      rw (c.push_reserved-2.ensures.items, c.push_reserved.ensures.items, c.publish.ensures.after) (IsJournal-publication _ c.args.facts c.self.invariant.0 next),
      omega (arith, c.publish.ensures.room, c.self.invariant.1),
      λ ready. cc,
      c.self.invariant.3,
    )

pub returns-clause-tag : goal.returns-clause-tag
returns-clause-tag c = rw c.push_reserved-2.ensures.items (last_facts-append c.self.inside.facts.items c.args.facts)

pub returns-clause-others : goal.returns-clause-others
returns-clause-others c = λ k other.
    let inside = c.self.inside in
    let j : Journal = record { lanes = inside.lanes; facts = inside.facts.items; entries = inside.entries.items; object = inside.states.object; ready = inside.is_ready } in
    rw (c.push_reserved-2.ensures.items, c.push_reserved.ensures.items, ← c.self.view_is) (items_of-publication j c.args.facts k other)
