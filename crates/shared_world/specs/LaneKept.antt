-- What holds of every lane of a shared world, by what its seat of the lock knows.
use Rattle.std.specs.Prelude.{◌≡◌, ℕ, ◌≤◌, All, Some, None, List, [], ◌∷◌, slice_get}
use Rattle.std.specs.Arc.{arc_value}
use Rattle.std.specs.List.{AllByRecursion}
use Rattle.fw_world.specs.Caches.{IsCacheSeen}
use Rattle.fw_world.specs.Lane.{LaneValue}
use Rattle.fw_world.specs.LaneKept.{IsLane}
use Rattle.fw_world.specs.Sections.{judged_editions, tracker_after}
use Rattle.fw_world.specs.declared.lane_work.LaneWork.{LaneWork}
use Rattle.generation_store.specs.Published.{IsEdition}
use Rattle.rule_chain.specs.Configuration.{Configuration}
use Rattle.state_journal.specs.declared.entry.Item.{Item}
use Rattle.state_journal.specs.declared.entry.Item.TheVariants.{Lanes}
use Rattle.shared_world.specs.Known.{Known, SharedEdition}

-- what the lane is in whichever world
abbrev pub plain_of : Known → LaneWork → LaneValue
plain_of v work = record {
  place = v.place;
  number = v.part.held;
  refusal = v.part.refusal;
  tracker = tracker_after v.part.sections;
  docket = work.docket;
  tally = work.tally;
  cache = work.cache;
  failed = work.failed;
  loose = work.loose;
}

-- its place is one of those that the book had lanes for at the opening
pub record IsOfBook (v : Known) : Type 0 where
  pub first : 1 ≤ v.place
  pub count : ℕ
  pub rest : List Item
  pub opened : v.part.first ≡ Lanes count ∷ rest
  pub last : v.place ≤ count

-- under this number a configuration was seen
pub record IsSeenIn (pairs : List (ℕ × Configuration)) (number : ℕ) : Type 0 where
  pub index : ℕ
  pub config : Configuration
  pub pair : slice_get pairs index ≡ Some (number, config)

-- What holds of a lane in whichever world holds of it; its place is one of the book's; each packet was judged
-- under an edition that it saw, none of which is past the one that it holds; and its cache keeps what is true under a configuration that it saw.
pub record IsSharedLane (pending : ℕ) (v : Known) (work : LaneWork) : Type 0 where
  pub plain : IsLane pending (plain_of v work)
  pub of_book : IsOfBook v
  pub judged : All (λ number. number ≤ v.part.held) (judged_editions work.docket.entries)
  pub seen : AllByRecursion (IsSeenIn v.part.pairs) (judged_editions work.docket.entries)
  pub cached : IsCacheSeen v.part.pairs work.cache

-- The seat reads an edition of the number that it holds, which is among what it saw, and all that it saw under
-- this number is of the edition's configuration.
pub record ReadsSeen (v : Known) : Type 0 where
  pub edition : SharedEdition
  pub reading : v.part.reading ≡ Some edition
  pub held : (arc_value edition).number ≡ v.part.held
  pub lawful : IsEdition (arc_value edition)
  pub index : ℕ
  pub seen : slice_get v.part.pairs index ≡ Some ((arc_value edition).number, (arc_value edition).config)
  pub named : (j : ℕ) (other : Configuration) → slice_get v.part.pairs j ≡ Some ((arc_value edition).number, other) → other ≡ (arc_value edition).config

-- A seat of a processor of a new lock, over a book whose number is 1.
pub record IsNewSeat (v : Known) : Type 0 where
  pub of_book : IsOfBook v
  pub held : v.part.held ≡ 1
  pub refusal : v.part.refusal ≡ None
  pub sections : v.part.sections ≡ 0
  pub pairs : v.part.pairs ≡ []
  pub own : v.part.own ≡ []
  pub behind_taken : v.part.behind_taken ≡ 0
  pub book_taken : v.part.book_taken ≡ 0
