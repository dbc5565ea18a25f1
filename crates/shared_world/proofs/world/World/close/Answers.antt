use Rattle.std.proofs.Common.{◌≡◌, List, length, map, sym, ap, ◌∙◌, subst}
use Rattle.std.proofs.lemmas.List.Elements.{All-from_recursion}
use Rattle.std.specs.List.{AllByRecursion}
use Rattle.std.specs.Prelude.{All}
use Rattle.std.specs.Arc.{arc_value}
use Rattle.atomic_table.specs.Seated.{TableId}
use Rattle.fw_world.proofs.Arranging.{all-stand}
use Rattle.fw_world.specs.Caches.{capacity_of}
use Rattle.fw_world.specs.Columns.{no_columns}
use Rattle.fw_world.specs.Publications.{IsPublished}
use Rattle.fw_world.specs.RecordValue.{RecordValue}
use Rattle.generation_store.specs.Published.{Published}
use Rattle.state_journal.specs.Journal.{Journal, IsJournal}
use Rattle.shared_world.proofs.Apart.{each_once, of_lock, works-many}
use Rattle.shared_world.proofs.Closes as closes
use Rattle.shared_world.proofs.world.World.close.Goals as goal
use Rattle.shared_world.proofs.world.World.close.Goals.{After-new}
use Rattle.shared_world.specs.Apart.{AreApart, Seat}
use Rattle.shared_world.specs.Closing.{AreLanesFrom, AreLanesOf, IsRecordOf}
use Rattle.shared_world.specs.Known.{SharedEdition}
use Rattle.shared_world.specs.SharedDesk.{SharedDesk}
use Rattle.shared_world.specs.SharedLane.{SharedLane}

pub close-book-requires-clause-locks : goal.close-book-requires-clause-locks
close-book-requires-clause-locks c =
    let (ordered, are) = c.requires.lanes in
    let apart = closes.in_order c.args.self c.args.lanes.items ordered are c.ordered.result.items c.taken_apart-processors.result.0.items c.taken_apart-processors.result.1.items c.ordered.ensures.lanes c.taken_apart-processors.ensures in
    subst (λ (t : TableId). All (λ (seat : Seat). seat.table_id ≡ t) c.taken_apart-processors.result.0.items) (sym c.self.view_is)
    (All-from_recursion (λ (seat : Seat). seat.table_id ≡ c.args.self) c.taken_apart-processors.result.0.items
    (of_lock c.args.self 1 ordered c.taken_apart-processors.result.0.items c.taken_apart-processors.result.1.items (closes.in_places c.args.self c.args.lanes.items ordered are) apart))

pub close-book-requires-clause-each : goal.close-book-requires-clause-each
close-book-requires-clause-each c =
    let (ordered, are) = c.requires.lanes in
    let apart = closes.in_order c.args.self c.args.lanes.items ordered are c.ordered.result.items c.taken_apart-processors.result.0.items c.taken_apart-processors.result.1.items c.ordered.ensures.lanes c.taken_apart-processors.ensures in
    let many = closes.as_known c.args.self c.args.lanes.items ordered are c.args.desk _ c.requires.all c.desk.view_is in
    each_once c.args.self ordered c.taken_apart-processors.result.0.items c.taken_apart-processors.result.1.items c.desk.inside.operator.view.count (closes.in_places c.args.self c.args.lanes.items ordered are) apart (many ∙ sym c.desk.invariant.0.count)

pub filled-columns-requires-clause-room : goal.filled-columns-requires-clause-room
filled-columns-requires-clause-room c =
    let (ordered, are) = c.requires.lanes in
    let apart = closes.in_order c.args.self c.args.lanes.items ordered are c.ordered.result.items c.taken_apart-processors.result.0.items c.taken_apart-processors.result.1.items c.ordered.ensures.lanes c.taken_apart-processors.ensures in
    let many = closes.as_known c.args.self c.args.lanes.items ordered are c.args.desk _ c.requires.all c.desk.view_is in
    c.room.invariant.2 ∙ ap no_columns (c.room.view_is ∙ c.desk.invariant.1 ∙ sym (works-many ordered c.taken_apart-processors.result.0.items c.taken_apart-processors.result.1.items apart ∙ many))

pub filled-columns-requires-clause-trackers : goal.filled-columns-requires-clause-trackers
filled-columns-requires-clause-trackers c =
    let (ordered, are) = c.requires.lanes in
    let apart = closes.in_order c.args.self c.args.lanes.items ordered are c.ordered.result.items c.taken_apart-processors.result.0.items c.taken_apart-processors.result.1.items c.ordered.ensures.lanes c.taken_apart-processors.ensures in
    let many = closes.as_known c.args.self c.args.lanes.items ordered are c.args.desk _ c.requires.all c.desk.view_is in
    closes.many_words c.desk.inside.lanes c.desk.inside.operator.view c.desk.inside.store.editions c.desk.invariant.0 c.args.self ordered
    c.taken_apart-processors.result.0.items c.taken_apart-processors.result.1.items c.close-book.result.book c.close-book.result.trackers.items c.close-book.result.editions.items
    (closes.in_places c.args.self c.args.lanes.items ordered are) many apart c.close-book.ensures.closed

pub new-requires : goal.new-requires
new-requires c =
    let (ordered, are) = c.requires.lanes in
    let apart = closes.in_order c.args.self c.args.lanes.items ordered are c.ordered.result.items c.taken_apart-processors.result.0.items c.taken_apart-processors.result.1.items c.ordered.ensures.lanes c.taken_apart-processors.ensures in
    let many = closes.as_known c.args.self c.args.lanes.items ordered are c.args.desk _ c.requires.all c.desk.view_is in
    let journal = subst (λ (j : Journal). IsJournal j) c.into_book.ensures.value c.into_book.ensures.journal in
    let published =
    closes.is_published c.desk.inside.lanes c.desk.inside.operator.view c.desk.inside.store.editions c.desk.invariant.0 c.args.self ordered
    c.taken_apart-processors.result.0.items c.taken_apart-processors.result.1.items c.close-book.result.book c.close-book.result.trackers.items c.close-book.result.editions.items
    (closes.in_places c.args.self c.args.lanes.items ordered are) many apart c.close-book.ensures.closed journal in
    subst (λ (j : Journal). IsPublished (map (λ (e : SharedEdition). arc_value e) c.into_all.result.items) j) (sym c.into_book.ensures.value) (subst (λ (all : List Published). IsPublished all c.close-book.result.book) (sym c.into_all.ensures) published)

module _ (c : After-new) (ordered : List SharedLane) (are : AreLanesOf c.args.self c.args.lanes.items ordered) where
  apart : AreApart ordered c.taken_apart-processors.result.0.items c.taken_apart-processors.result.1.items
  apart = closes.in_order c.args.self c.args.lanes.items ordered are c.ordered.result.items c.taken_apart-processors.result.0.items c.taken_apart-processors.result.1.items c.ordered.ensures.lanes c.taken_apart-processors.ensures

  placed : AreLanesFrom c.args.self 1 ordered
  placed = closes.in_places c.args.self c.args.lanes.items ordered are

  many : length ordered ≡ c.desk.inside.lanes
  many = closes.as_known c.args.self c.args.lanes.items ordered are c.args.desk _ c.requires.all c.desk.view_is

  -- the record is that of the world and its lanes
  same : c.new.result ≡ closes.last_record c.desk.inside.lanes c.desk.inside.operator.view c.desk.inside.store.editions c.desk.invariant.0 c.args.self ordered
      c.taken_apart-processors.result.0.items c.taken_apart-processors.result.1.items c.close-book.result.book c.close-book.result.trackers.items c.close-book.result.editions.items
      placed many apart c.close-book.ensures.closed
  same =
      c.new.ensures.exact
      ∙ closes.is_last c.desk.inside.lanes c.desk.inside.operator.view c.desk.inside.store.editions c.desk.invariant.0 c.args.self ordered
      c.taken_apart-processors.result.0.items c.taken_apart-processors.result.1.items c.close-book.result.book c.close-book.result.trackers.items c.close-book.result.editions.items
      placed many apart c.close-book.ensures.closed
      _ _ _ _ _ _ c.into_all.ensures c.into_book.ensures.value c.filled-columns.ensures.dockets c.filled-columns.ensures.tallies c.filled-columns.ensures.trackers c.filled-columns.ensures.hits

  -- what holds of each lane holds of each in order
  each : (P : SharedLane → Type 0) → AllByRecursion P c.args.lanes.items → AllByRecursion P ordered
  each P all = all-stand (λ (lane : SharedLane). lane.place) 1 c.args.lanes.items ordered are.1 P all

-- the editions are the desk's
shown : (c : After-new) → c.args.desk.editions ≡ c.desk.inside.store.editions
shown c = sym (ap (λ (d : SharedDesk). d.editions) c.desk.view_is)

pub returns-clause-exact : goal.returns-clause-exact
returns-clause-exact c = λ ordered are.
    subst (λ (r : RecordValue). IsRecordOf c.args.desk ordered r) (sym (same c ordered are))
    (closes.is_record c.desk.inside.lanes c.desk.inside.operator.view c.desk.inside.store.editions c.desk.invariant.0 c.args.self ordered
    c.taken_apart-processors.result.0.items c.taken_apart-processors.result.1.items c.close-book.result.book c.close-book.result.trackers.items c.close-book.result.editions.items
    (placed c ordered are) (many c ordered are) (apart c ordered are) c.close-book.ensures.closed
    c.args.desk (shown c) (sym (ap (λ (d : SharedDesk). d.lanes) c.desk.view_is)))

pub returns-clause-legal : goal.returns-clause-legal
returns-clause-legal c = λ ordered first commands inputs are accepted stand none.
    closes.legal c.desk.inside.lanes c.desk.inside.operator.view c.desk.inside.store.editions c.desk.invariant.0 c.args.self ordered
    c.taken_apart-processors.result.0.items c.taken_apart-processors.result.1.items c.close-book.result.book c.close-book.result.trackers.items c.close-book.result.editions.items
    (placed c ordered are) (many c ordered are) (apart c ordered are) c.close-book.ensures.closed
    c.args.desk (shown c) c.new.result (same c ordered are) first commands inputs accepted stand (c.new.ensures.legal first commands inputs)
    (each c ordered are (λ (lane : SharedLane). lane.loose ≡ 0) none)

pub returns-clause-nearly : goal.returns-clause-nearly
returns-clause-nearly c = λ ordered first commands inputs are accepted stand.
    closes.nearly c.desk.inside.lanes c.desk.inside.operator.view c.desk.inside.store.editions c.desk.invariant.0 c.args.self ordered
    c.taken_apart-processors.result.0.items c.taken_apart-processors.result.1.items c.close-book.result.book c.close-book.result.trackers.items c.close-book.result.editions.items
    (placed c ordered are) (many c ordered are) (apart c ordered are) c.close-book.ensures.closed
    c.args.desk (shown c) c.new.result (same c ordered are) first commands inputs accepted stand (c.new.ensures.nearly first commands inputs)

pub returns-clause-hits : goal.returns-clause-hits
returns-clause-hits c = λ ordered cache inputs are rooms stand.
    closes.tells c.desk.inside.lanes c.desk.inside.operator.view c.desk.inside.store.editions c.desk.invariant.0 c.args.self ordered
    c.taken_apart-processors.result.0.items c.taken_apart-processors.result.1.items c.close-book.result.book c.close-book.result.trackers.items c.close-book.result.editions.items
    (placed c ordered are) (many c ordered are) (apart c ordered are) c.close-book.ensures.closed
    c.new.result (same c ordered are) cache inputs (each c ordered are (λ (lane : SharedLane). capacity_of lane.cache ≡ cache) rooms) stand
