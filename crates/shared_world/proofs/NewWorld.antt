-- A world that opens.
use Rattle.std.proofs.Common.{◌≡◌, ℕ, zero, suc, ◌+◌, ◌≤◌, List, [], ◌∷◌, length, map, Option, Some, refl, sym, ap, ◌∙◌, subst, arith}
use Rattle.std.specs.Prelude.{slice_get}
use Rattle.std.specs.Arc.{arc_value}
use Rattle.std.specs.List.{AllByRecursion}
use Rattle.atomic_table.specs.Seated.{TableId}
use Rattle.generation_store.specs.Published.{Published, IsBuilt}
use Rattle.rm_lock.specs.Ends.{OpensAs, first_token}
use Rattle.rm_table.proofs.Base.{length-values}
use Rattle.rm_table.specs.Ends.{OpensTable}
use Rattle.rm_table.specs.Meanings.{values_from}
use Rattle.rule_chain.specs.Configuration.{Configuration}
use Rattle.state_asks.specs.declared.facts.Facts.{Facts}
use Rattle.state_journal.specs.Items.{items_of}
use Rattle.state_journal.specs.Journal.{Journal, first_journal}
use Rattle.state_journal.specs.declared.entry.Item.TheVariants as item
use Rattle.shared_world.proofs.Apart.{new-many}
use Rattle.shared_world.specs.Apart.{AreNewOf, Seat}
use Rattle.shared_world.specs.Closing.{AreNewLanes}
use Rattle.shared_world.specs.DeskKept.{AreShares, IsSharedDesk}
use Rattle.shared_world.specs.Known.{Known, SharedEdition, means}
use Rattle.shared_world.specs.LaneKept.{IsNewSeat}
use Rattle.shared_world.specs.SharedLane.{SharedLane}

some-is : (a b : SharedEdition) → ◌≡◌ {A = Option SharedEdition} (Some a) (Some b) → a ≡ b
some-is a b same = cc

-- each share is of the edition
share-is : (edition : Published) (shares : List SharedEdition) → AllByRecursion (λ (share : SharedEdition). arc_value share ≡ edition) shares → (j : ℕ) (share : SharedEdition) → slice_get shares j ≡ Some share → arc_value share ≡ edition
share-is edition [] each j share is = cc
share-is edition (one ∷ shares) each zero share is = ap (λ (e : SharedEdition). arc_value e) (sym (some-is one share is)) ∙ each.0
share-is edition (one ∷ shares) each (suc j) share is = share-is edition shares each.1 j share is

-- a lock may be opened with them
pub opens-with : (edition : Published) (config : Configuration) (lanes : ℕ) (shares : List SharedEdition) (book : Journal) → IsBuilt 1 config edition → 1 ≤ lanes → AreShares edition lanes shares → book ≡ first_journal lanes edition.facts
    → (share : SharedEdition) × (slice_get shares 0 ≡ Some share) × OpensTable means shares share book
opens-with edition config lanes [] book built least are is = absurd (omega (arith, least, are.many))
opens-with edition config lanes (share ∷ shares) book built least are is = (
  share,
  refl,
  record {
    some_there = omega arith;
    same = λ j e at.
        let one : arc_value e ≡ edition = share-is edition (share ∷ shares) are.each j e at in
        let first : arc_value share ≡ edition = are.each.0 in (
          ap (λ (p : Published). p.number) one ∙ built.numbered ∙ sym (ap (λ (b : Journal). length b.facts) is),
          ap (λ (p : Published). p.config) (one ∙ sym first),
          ap (λ (p : Published). p.facts) one ∙ sym (ap (λ (b : Journal). means.book_tag b) is),
        );
  },
)

own_none : (lanes place : ℕ) (facts : Facts) → 1 ≤ place → items_of (first_journal lanes facts) place ≡ []
own_none lanes zero facts first = absurd (omega (arith, first))
own_none lanes (suc k) facts first = refl

-- its seats are new
new_seats : (table : TableId) (n lanes : ℕ) (share : SharedEdition) (facts : Facts) (place count : ℕ) → 1 ≤ place → place + count ≤ lanes + 1 → AllByRecursion (λ (seat : Seat). IsNewSeat seat.view) (values_from (first_token means table n share (first_journal lanes facts)) place count)
new_seats table n lanes share facts place zero first most = tt
new_seats table n lanes share facts place (suc count) first most = (
  record {
    of_book = record { first = first; count = lanes; rest = map item.Published (facts ∷ []); opened = refl; last = omega (arith, most) };
    held = refl;
    refusal = refl;
    sections = refl;
    pairs = refl;
    own = own_none lanes place facts first;
    behind_taken = refl;
    book_taken = refl;
  },
  new_seats table n lanes share facts (suc place) count (omega arith) (omega (arith, most)),
)

-- and its lanes
new_lanes : (cache : Option ℕ) (table : TableId) (n : ℕ) (share : SharedEdition) (book : Journal) (place count : ℕ) (lanes : List SharedLane) → AreNewOf cache (values_from (first_token means table n share book) place count) lanes → AreNewLanes table cache place lanes
new_lanes cache table n share book place zero [] are = tt
new_lanes cache table n share book place zero (lane ∷ lanes) are = absurd are
new_lanes cache table n share book place (suc count) [] are = absurd are
new_lanes cache table n share book place (suc count) (lane ∷ lanes) are =
    let next : suc place ≡ place + 1 = omega arith in
    (are.0, are.1, subst (λ (k : ℕ). AreNewLanes table cache k lanes) next (new_lanes cache table n share book (suc place) count lanes are.2))

module _ (lanes n : ℕ) (config : Configuration) (edition : Published) (share : SharedEdition) (book : Journal) (table : TableId) (seats : List Seat) (operator : Seat) (built : IsBuilt 1 config edition) (shared : arc_value share ≡ edition) (many : n ≡ lanes)
    (is : book ≡ first_journal lanes edition.facts) (opens : OpensAs means n share book table seats operator) where
  -- each seat is new
  pub seats-new : AllByRecursion (λ (seat : Seat). IsNewSeat seat.view) seats
  seats-new =
      let of_first = new_seats table n lanes share edition.facts 1 n (omega arith) (omega (arith, many)) in
      let of_book = subst (λ (b : Journal). AllByRecursion (λ (seat : Seat). IsNewSeat seat.view) (values_from (first_token means table n share b) 1 n)) (sym is) of_first in
      subst (λ (all : List Seat). AllByRecursion (λ (seat : Seat). IsNewSeat seat.view) all) (sym opens.processors) of_book

  -- the lanes are new
  pub lanes-new : (cache : Option ℕ) (all : List SharedLane) → AreNewOf cache seats all → AreNewLanes table cache 1 all
  lanes-new cache all are = new_lanes cache table n share book 1 n all (subst (λ (ss : List Seat). AreNewOf cache ss all) opens.processors are)

  -- and as many as wanted
  pub lanes-count : (cache : Option ℕ) (all : List SharedLane) → AreNewOf cache seats all → length all ≡ lanes
  lanes-count cache all are = new-many cache seats all are ∙ ap length opens.processors ∙ length-values (first_token means table n share book) 1 n ∙ many

  -- what holds of every desk holds of this one
  pub desk-kept : lanes ≤ 64 → IsSharedDesk lanes operator.view (edition ∷ [])
  desk-kept few = record {
    count = ap (λ (v : Known). v.count) opens.knows ∙ many;
    few = few;
    begun = omega arith;
    numbered = (built.numbered, lawful, tt);
    opened = ap (λ (v : Known). v.opened) opens.knows ∙ number;
    published = ap (λ (v : Known). v.number) opens.knows ∙ number;
    history = ap (λ (v : Known). v.history) opens.knows ∙ (λ i. ((shared i).config, means.book_tag (is i)) ∷ []);
    own = ap (λ (v : Known). v.own) opens.knows ∙ ap (λ (b : Journal). items_of b 0) is;
  }
    where
      number : means.book_number book ≡ 1
      number = ap (λ (b : Journal). length b.facts) is

      lawful : Rattle.generation_store.specs.Published.IsEdition edition
      lawful = built.factual

  -- it has made no step
  pub steps-none : operator.view.steps ≡ []
  steps-none = ap (λ (v : Known). v.steps) opens.knows
