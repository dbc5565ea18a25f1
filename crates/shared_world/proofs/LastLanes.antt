-- What the lanes of a world that closes stand for, beside its editions and its book.
use Rattle.std.proofs.Common.{◌≡◌, ℕ, zero, suc, ◌+◌, ◌-◌, ◌≤◌, List, [], ◌∷◌, length, map, Option, Some, None, refl, sym, ap, ◌∙◌, subst, arith}
use Rattle.std.specs.Prelude.{IfSome, IsSomeAnd, slice_get}
use Rattle.std.specs.List.{AllByRecursion}
use Rattle.atomic_table.specs.Seated.{TableId}
use Rattle.fw_world.proofs.Caching.{IsCacheAmong-seen}
use Rattle.fw_world.specs.Asks.{LaneAsk, asks_in, lane_asks}
use Rattle.fw_world.specs.Closing as serial
use Rattle.fw_world.specs.Editions.{AreNumbered, edition_numbered}
use Rattle.fw_world.specs.Inputs.{Input}
use Rattle.fw_world.specs.LaneKept.{IsLane}
use Rattle.fw_world.specs.Sections.{tracker_after}
use Rattle.fw_world.specs.Standing.{StandWithCache, AreSeenOf}
use Rattle.fw_world.specs.World.{WorldValue, IsLaneOf}
use Rattle.fw_world.specs.declared.lane_work.LaneWork.{LaneWork}
use Rattle.generation_store.specs.Published.{Published, IsBuilt}
use Rattle.rm_lock.specs.Ends.{EndsFor}
use Rattle.rule_chain.specs.Configuration.{Configuration}
use Rattle.state_asks.specs.declared.facts.Facts.{Facts}
use Rattle.state_journal.specs.Items.{items_of}
use Rattle.state_journal.specs.Journal.{Journal}
use Rattle.shared_world.proofs.LastBook.{lanes-are, opened-lanes}
use Rattle.shared_world.specs.Apart.{AreApart, Seat}
use Rattle.shared_world.specs.Closing.{AreLanesFrom, EachStandsFor}
use Rattle.shared_world.specs.DeskKept.{IsSharedDesk, names_of, publications_of}
use Rattle.shared_world.specs.Known.{Known, means}
use Rattle.shared_world.specs.LaneKept.{IsSharedLane}
use Rattle.shared_world.specs.SharedLane.{SharedLane, lane_of, plain_lane}
use Rattle.shared_world.specs.Standing.{LaneStandsFor}

-- the configuration of a name in a history
name_in : Configuration → Option (Configuration × Facts) → Configuration
name_in other None = other
name_in other (Some name) = name.0

-- an edition of numbered ones stands at the index of its name
built_at : (editions : List Published) (from index : ℕ) (config : Configuration) (facts : Facts) → AreNumbered from editions → slice_get (names_of editions) index ≡ Some (config, facts) → IsSomeAnd (slice_get editions index) (IsBuilt (from + index) config)
unfolding name_in
built_at [] from index config facts are is = cc
built_at (edition ∷ editions) from zero config facts are is = record { numbered = omega (arith, are.0); configured = ap (name_in edition.config) is; factual = are.1 }
built_at (edition ∷ editions) from (suc index) config facts are is =
    let same : from + 1 + index ≡ from + suc index = omega arith in
    subst (λ (n : ℕ). IsSomeAnd (slice_get editions index) (IsBuilt n config)) same (built_at editions (from + 1) index config facts are.2 is)

-- the asks of a place in the journal are those of its list
lane_asks-items : (place : ℕ) (book : Journal) → 1 ≤ place → lane_asks place book.entries ≡ asks_in (items_of book place)
lane_asks-items zero book first = absurd (omega (arith, first))
lane_asks-items (suc k) book first = refl

heard : (refusal : Option ℕ) (number most : ℕ) → number ≡ most → ((x : ℕ) → refusal ≡ Some x → x ≤ number) → IfSome refusal (λ refused. refused ≤ most)
heard None number most same all = tt
heard (Some refused) number most same all = omega (arith, all refused refl, same)

-- each fact of an index is one of each seat
pub each_seat : (P : Seat → Type 0) (seats : List Seat) → ((j : ℕ) (seat : Seat) → slice_get seats j ≡ Some seat → P seat) → AllByRecursion P seats
each_seat P [] one = tt
each_seat P (seat ∷ seats) one = (one 0 seat refl, each_seat P seats (λ j other is. one (suc j) other is))

module _ (lanes : ℕ) (v : Known) (editions : List Published) (book : Journal) (trackers : List ℕ) (desk : IsSharedDesk lanes v editions) (list : items_of book 0 ≡ v.own) where
  -- the world as it stands at the end
  abbrev pub last_world : WorldValue
  last_world = record { editions = editions; journal = book }

  -- what was seen under a number stands there among the editions
  seen-of : (p : Known) → EndsFor means v book trackers p → AreSeenOf editions p.part.pairs
  seen-of p ends = λ j number config is.
      let published = ends.pairs j number config is in
      let name : slice_get (names_of editions) (number - 1) ≡ Some (config, published.1.0) = rw (desk.history, desk.opened) at published.1.1 in
      let from : 1 ≤ number = rw desk.opened at published.0 in
      let same : 1 + (number - 1) ≡ number = omega (arith, from) in
      subst (λ (n : ℕ). IsSomeAnd (edition_numbered editions number) (IsBuilt n config)) same (built_at editions 1 (number - 1) config published.1.0 desk.numbered name)

  module _ (seat : Seat) (work : LaneWork) (is : IsSharedLane 0 seat.view work) (ends : EndsFor means v book trackers seat.view) where
    -- the lane is one of the world
    of_world : IsLaneOf last_world (plain_lane (lane_of seat.table_id seat.view work))
    of_world = record {
      first = is.of_book.first;
      last =
          let own : items_of book 0 ≡ publications_of lanes editions = list ∙ desk.own in
          let count = opened-lanes lanes is.of_book.count editions v.own seat.view.part.first is.of_book.rest desk.own ends.begins is.of_book.opened in
          omega (arith, is.of_book.last, count, lanes-are lanes editions book own);
      held = omega (arith, ends.held, desk.published);
      heard = heard seat.view.part.refusal v.number (length editions) desk.published ends.refusal;
      judged = λ k d within. omega (arith, is.judged k d within, ends.held, desk.published);
      cached = IsCacheAmong-seen editions seat.view.part.pairs work.cache (seen-of seat.view ends) is.cached;
    }

    -- its asks in the journal are its own
    asks-are : lane_asks seat.view.place book.entries ≡ asks_in seat.view.part.own
    asks-are = lane_asks-items seat.view.place book is.of_book.first ∙ ap asks_in ends.list

    -- it stands for what it stood for
    stands : (inputs : List Input) → LaneStandsFor (lane_of seat.table_id seat.view work) inputs → StandWithCache editions (lane_asks seat.view.place book.entries) work.docket work.tally work.cache inputs
    unfolding LaneStandsFor
    stands inputs seen = subst (λ (asks : List LaneAsk). StandWithCache editions asks work.docket work.tally work.cache inputs) (sym asks-are) (seen editions (seen-of seat.view ends))

  -- all lanes are the world's
  pub are-lanes : (world : TableId) (place : ℕ) (all : List SharedLane) (seats : List Seat) (works : List LaneWork) → AreLanesFrom world place all → AreApart all seats works → AllByRecursion (λ (seat : Seat). EndsFor means v book trackers seat.view) seats
      → serial.AreLanesFrom last_world place (map plain_lane all)
  are-lanes world place [] [] [] are apart ends = tt
  are-lanes world place [] [] (w ∷ works) are apart ends = absurd apart
  are-lanes world place [] (s ∷ seats) works are apart ends = absurd apart
  are-lanes world place (l ∷ all) [] works are apart ends = absurd apart
  are-lanes world place (l ∷ all) (s ∷ seats) [] are apart ends = absurd apart
  are-lanes world place (l ∷ all) (s ∷ seats) (w ∷ works) are apart ends = (
    are.0,
    subst (λ (lane : SharedLane). IsLaneOf last_world (plain_lane lane)) (sym apart.0) (of_world s w apart.1 ends.0),
    are-lanes world (place + 1) all seats works are.2 apart.2 ends.1,
  )

  -- what holds of every lane holds of each
  pub are-kept : (all : List SharedLane) (seats : List Seat) (works : List LaneWork) → AreApart all seats works → AllByRecursion (IsLane 0) (map plain_lane all)
  are-kept [] [] [] apart = tt
  are-kept [] [] (w ∷ works) apart = absurd apart
  are-kept [] (s ∷ seats) works apart = absurd apart
  are-kept (l ∷ all) [] works apart = absurd apart
  are-kept (l ∷ all) (s ∷ seats) [] apart = absurd apart
  are-kept (l ∷ all) (s ∷ seats) (w ∷ works) apart = (subst (λ (lane : SharedLane). IsLane 0 (plain_lane lane)) (sym apart.0) apart.1.plain, are-kept all seats works apart.2)

  -- each stands for its inputs in the world
  pub each-stands : (all : List SharedLane) (seats : List Seat) (works : List LaneWork) (inputs : List (List Input)) → AreApart all seats works → AllByRecursion (λ (seat : Seat). EndsFor means v book trackers seat.view) seats
      → EachStandsFor all inputs → serial.EachStandsFor last_world (map plain_lane all) inputs
  each-stands [] seats works [] apart ends each = tt
  each-stands [] seats works (met ∷ inputs) apart ends each = absurd each
  each-stands (l ∷ all) seats works [] apart ends each = absurd each
  each-stands (l ∷ all) [] works (met ∷ inputs) apart ends each = absurd apart
  each-stands (l ∷ all) (s ∷ seats) [] (met ∷ inputs) apart ends each = absurd apart
  each-stands (l ∷ all) (s ∷ seats) (w ∷ works) (met ∷ inputs) apart ends each = (
    let own = subst (λ (lane : SharedLane). LaneStandsFor lane met) apart.0 each.0 in
        subst (λ (lane : SharedLane). StandWithCache editions (lane_asks lane.place book.entries) lane.docket lane.tally lane.cache met) (sym apart.0) (stands s w apart.1 ends.0 met own),
    each-stands all seats works inputs apart.2 ends.1 each.1,
  )

  -- the asks of each in the journal are its own
  pub each-asks : (all : List SharedLane) (seats : List Seat) (works : List LaneWork) → AreApart all seats works → AllByRecursion (λ (seat : Seat). EndsFor means v book trackers seat.view) seats
      → AllByRecursion (λ (lane : SharedLane). lane_asks lane.place book.entries ≡ lane.asks) all
  each-asks [] [] [] apart ends = tt
  each-asks [] [] (w ∷ works) apart ends = absurd apart
  each-asks [] (s ∷ seats) works apart ends = absurd apart
  each-asks (l ∷ all) [] works apart ends = absurd apart
  each-asks (l ∷ all) (s ∷ seats) [] apart ends = absurd apart
  each-asks (l ∷ all) (s ∷ seats) (w ∷ works) apart ends = (
    subst (λ (lane : SharedLane). lane_asks lane.place book.entries ≡ lane.asks) (sym apart.0) (asks-are s w apart.1 ends.0),
    each-asks all seats works apart.2 ends.1,
  )

-- the tracker words are those of the lanes, in order
pub trackers-are : (all : List SharedLane) (seats : List Seat) (works : List LaneWork) (words : List ℕ) → AreApart all seats works → length words ≡ length all
    → ((j : ℕ) (seat : Seat) → slice_get seats j ≡ Some seat → slice_get words j ≡ Some (tracker_after seat.view.part.sections)) → words ≡ map (λ (lane : SharedLane). tracker_after lane.sections) all
trackers-are [] seats works [] apart many each = refl
trackers-are [] seats works (word ∷ words) apart many each = absurd (omega (arith, many))
trackers-are (l ∷ all) seats works [] apart many each = absurd (omega (arith, many))
trackers-are (l ∷ all) [] works (word ∷ words) apart many each = absurd apart
trackers-are (l ∷ all) (s ∷ seats) [] (word ∷ words) apart many each = absurd apart
trackers-are (l ∷ all) (s ∷ seats) (w ∷ works) (word ∷ words) apart many each =
    let found : Some word ≡ Some (tracker_after s.view.part.sections) = each 0 s refl in
    let same : word ≡ tracker_after s.view.part.sections = cc in
    let one : word ≡ tracker_after l.sections = same ∙ ap (λ (lane : SharedLane). tracker_after lane.sections) (sym apart.0) in
    let rest : words ≡ map (λ (lane : SharedLane). tracker_after lane.sections) all = trackers-are all seats works words apart.2 (omega (arith, many)) (λ j seat is. each (suc j) seat is) in
    cc
