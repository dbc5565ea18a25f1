-- What the book of a world that closes tells, by what the operator knows of its list 0.
use Rattle.std.proofs.Common.{◌≡◌, ℕ, ◌+◌, List, [], ◌∷◌, ◌++◌, map, refl, sym, ap, ◌∙◌}
use Rattle.fw_world.specs.Editions.{AreNumbered}
use Rattle.fw_world.specs.Publications.{IsPublished, facts_of}
use Rattle.generation_store.specs.Published.{Published}
use Rattle.rm_table.specs.Meanings.{BeginsWith}
use Rattle.state_asks.specs.declared.facts.Facts.{Facts}
use Rattle.state_journal.specs.Items.{items_of}
use Rattle.state_journal.specs.Journal.{Journal, IsJournal}
use Rattle.state_journal.specs.declared.entry.Item.{Item}
use Rattle.state_journal.specs.declared.entry.Item.TheVariants.{Lanes, Asked}
use Rattle.state_journal.specs.declared.entry.Item.TheVariants as item
use Rattle.shared_world.specs.DeskKept.{publications_of}

-- the facts of the publications among these items
facts_in : List Item → List Facts
facts_in [] = []
facts_in (Lanes count ∷ items) = facts_in items
facts_in (item.Published facts ∷ items) = facts ∷ facts_in items
facts_in (Asked after entry ∷ items) = facts_in items

-- how many lanes these items begin with, 0 where they don't
lanes_in : List Item → ℕ
lanes_in [] = 0
lanes_in (Lanes count ∷ items) = count
lanes_in (item.Published facts ∷ items) = 0
lanes_in (Asked after entry ∷ items) = 0

facts_in-facts : (facts : List Facts) → facts_in (map item.Published facts) ≡ facts
unfolding facts_in
facts_in-facts [] = refl
facts_in-facts (first ∷ facts) = ap (λ (all : List Facts). first ∷ all) (facts_in-facts facts)

facts_in-editions : (editions : List Published) → facts_in (map (λ (edition : Published). item.Published edition.facts) editions) ≡ facts_of editions
unfolding facts_in
facts_in-editions [] = refl
facts_in-editions (first ∷ editions) = ap (λ (all : List Facts). first.facts ∷ all) (facts_in-editions editions)

-- numbered editions are numbered as their facts are
same_numbers : (number : ℕ) (editions : List Published) → AreNumbered number editions → map (λ (facts : Facts). facts.number) (facts_of editions) ≡ map (λ (edition : Published). edition.number) editions
same_numbers number [] are = refl
same_numbers number (edition ∷ editions) are =
    let one : edition.facts.number ≡ edition.number = are.1.numbered in
    let rest : map (λ (facts : Facts). facts.number) (facts_of editions) ≡ map (λ (e : Published). e.number) editions = same_numbers (number + 1) editions are.2 in
    cc

module _ (lanes : ℕ) (editions : List Published) (book : Journal) (list : items_of book 0 ≡ publications_of lanes editions) where
  -- it has the lanes of the desk
  pub lanes-are : book.lanes ≡ lanes
  unfolding lanes_in
  lanes-are = ap lanes_in list

  facts-are : facts_of editions ≡ book.facts
  unfolding facts_in
  facts-are = sym (facts_in-editions editions) ∙ sym (ap facts_in list) ∙ facts_in-facts book.facts

  -- and publishes its editions
  pub publishes : AreNumbered 1 editions → IsJournal book → IsPublished editions book
  publishes are is = record {
    factual = facts-are;
    once = is.published ∙ ap (map (λ (facts : Facts). facts.number)) (sym facts-are) ∙ same_numbers 1 editions are;
  }

-- what a seat knows of list 0 from the opening begins with the number of lanes
pub opened-lanes : (lanes count : ℕ) (editions : List Published) (own first rest : List Item) → own ≡ publications_of lanes editions → BeginsWith own first → first ≡ Lanes count ∷ rest → count ≡ lanes
unfolding lanes_in
opened-lanes lanes count editions own first rest is begins opened =
    sym (ap (λ (items : List Item). lanes_in (items ++ begins.0)) opened) ∙ sym (ap lanes_in begins.1) ∙ ap lanes_in is
