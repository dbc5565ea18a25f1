-- The publications of a journal, and when the journal is lawful beside the editions.
use Rattle.std.specs.Prelude.{◌≡◌, List, map}
use Rattle.state_asks.specs.declared.facts.Facts.{Facts}
use Rattle.generation_store.specs.Published.{Published}
use Rattle.state_journal.specs.Entries.{publications}
use Rattle.state_journal.specs.Journal.{Journal, no_states, IsLawfulFrom, BeginsWithOne}
use Rattle.state_journal.specs.declared.entry.Entry.{Entry}

-- one publication for each edition, in order: 1, 2, ..
abbrev pub PublishesEach : List Published → List Entry → Type 0
PublishesEach editions entries = publications entries ≡ map (λ edition. edition.number) editions

-- what the publications of the editions tell the states
abbrev pub facts_of : List Published → List Facts
facts_of editions = map (λ edition. edition.facts) editions

-- The journal begins with the publication of edition 1, and each reply is the state object's after the
-- entries before it, from no state and the clock at 0.
pub record IsLawful (editions : List Published) (entries : List Entry) : Type 0 where
  pub begins : BeginsWithOne entries
  pub replied : IsLawfulFrom no_states (facts_of editions) entries

-- The journal is that of these editions: it tells the states their facts, and publishes each of them once.
pub record IsPublished (editions : List Published) (journal : Journal) : Type 0 where
  pub factual : facts_of editions ≡ journal.facts
  pub once : PublishesEach editions journal.entries
