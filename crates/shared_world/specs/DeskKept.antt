-- What holds of every desk of a shared world, by what its seat of the lock knows.
use Rattle.std.specs.Prelude.{◌≡◌, ℕ, ◌+◌, ◌≤◌, List, [], ◌∷◌, ◌++◌, length, map}
use Rattle.std.specs.List.{AllByRecursion}
use Rattle.std.specs.Arc.{arc_value}
use Rattle.fw_world.specs.Editions.{AreNumbered}
use Rattle.generation_store.specs.Published.{Published, IsEdition}
use Rattle.rule_chain.specs.Configuration.{Configuration}
use Rattle.state_asks.specs.declared.facts.Facts.{Facts}
use Rattle.state_journal.specs.declared.entry.Item.{Item}
use Rattle.state_journal.specs.declared.entry.Item.TheVariants as item
use Rattle.shared_world.specs.Known.{Known, SharedEdition}
use Rattle.shared_world.specs.SharedDesk.{AreOnBook}
use Rattle.shared_world.specs.declared.preparing.NextEdition.{NextEdition}

-- what the lock's history has of these editions
abbrev pub names_of : List Published → List (Configuration × Facts)
names_of editions = map (λ edition. (edition.config, edition.facts)) editions

-- the book's list 0 of so many lanes and of these editions
abbrev pub publications_of : ℕ → List Published → List Item
publications_of lanes editions = item.Lanes lanes ∷ map (λ edition. item.Published edition.facts) editions

-- The lock has a processor for each lane, and its history is that of the editions, the first of which it was
-- opened with.
pub record IsSharedDesk (lanes : ℕ) (v : Known) (editions : List Published) : Type 0 where
  pub count : v.count ≡ lanes
  pub few : lanes ≤ 64
  pub begun : 1 ≤ length editions
  pub numbered : AreNumbered 1 editions
  pub opened : v.opened ≡ 1
  pub published : v.number ≡ length editions
  pub history : v.history ≡ names_of editions
  pub own : v.own ≡ publications_of lanes editions

-- one share of the edition for each of so many processors
pub record AreShares (edition : Published) (count : ℕ) (shares : List SharedEdition) : Type 0 where
  pub many : length shares ≡ count
  pub each : AllByRecursion (λ share. arc_value share ≡ edition) shares

-- what the operator knows but for its steps, the book and the lock behind, for whom it has revoked and found out
pub record DeskView : Type 0 where
  pub count : ℕ
  pub number : ℕ
  pub opened : ℕ
  pub history : List (Configuration × Facts)
  pub own : List Item

-- what a desk shows of what is known of it
abbrev pub desk_view : Known → DeskView
desk_view v = record { count = v.count; number = v.number; opened = v.opened; history = v.history; own = v.own }

-- one edition more was published
abbrev pub with_published : DeskView → Published → DeskView
with_published d edition = record d { number = d.number + 1; history = d.history ++ (edition.config, edition.facts) ∷ []; own = d.own ++ item.Published edition.facts ∷ [] }

-- It is the edition behind the published one, with its number, its facts and a share for each processor.
pub record IsPrepared (v : Known) (next : NextEdition) : Type 0 where
  pub number : next.number ≡ v.number + 1
  pub numbered : (arc_value next.edition).number ≡ v.number + 1
  pub lawful : IsEdition (arc_value next.edition)
  pub shares : AreShares (arc_value next.edition) v.count next.shares.items
  pub facts : next.facts ≡ (arc_value next.edition).facts

-- It was published, stands last among the editions, and its number is told.
pub record PublishesNext (before after : Known) (next : NextEdition) (editions more : List Published) (number : ℕ) : Type 0 where
  pub view : desk_view after ≡ with_published (desk_view before) (arc_value next.edition)
  pub stored : more ≡ editions ++ arc_value next.edition ∷ []
  pub told : number ≡ next.number

-- The operator knows what it knew, and made no step but on the word that tells who has the book.
pub record VisitsDesk (before after : Known) : Type 0 where
  pub same : desk_view after ≡ desk_view before
  pub more : List (ℕ × ℕ)
  pub on_book : AreOnBook more
  pub steps : after.steps ≡ before.steps ++ more
