-- What holds at every moment between two atomic steps of a lock, in words, slots and views alone: whatever threads have the seats.
use Rattle.std.specs.Prelude.{◌≡◌, ◌≢◌, ◌⊎◌, ℕ, ◌+◌, ◌-◌, ◌<◌, ◌≤◌, true, Some, length, slice_get, slice_index}
use mathlib.Core.Option as at
use lib.ListN.{get_elem?}
use Rattle.atomic_table.specs.Table.{State}
use Rattle.rm_core.specs.declared.processor_state.Phase.TheVariants.{In}
use Rattle.rm_table.specs.declared.view.Role.TheVariants.{Processor, Operator, Receipt}
use Rattle.rm_table.specs.declared.padded_slot.Slot.{Slot}
use Rattle.rm_table.specs.declared.padded_slot.Slot.TheVariants.{Edition}
use Rattle.rm_table.specs.declared.view.View.{View}
use Rattle.rm_table.specs.Layout.{number_index, behind_index, book_index}
use Rattle.rm_table.specs.Meanings.{Meanings, BeginsWith}
use Rattle.rm_table.specs.Moves.{IsLast, SeenUpTo, informed_view, is_drained}
use Rattle.rm_table.specs.Rule.{IsSeatOf, Whole}

module _ {E B T L I : Type 0} where
  -- the seat of that number has this view
  abbrev pub HasSeat : State (Slot E B) (View E B T L I) → ℕ → View E B T L I → Type 0
  HasSeat t id v = get_elem? t.views id ≡ at.some v

  -- the processor at that place is in
  abbrev pub IsReader : State (Slot E B) (View E B T L I) → ℕ → Type 0
  IsReader t k = (id : ℕ) × (v : View E B T L I) × HasSeat t id v × (v.role ≡ Processor) × (v.place ≡ k) × (v.phase ≡ In)

  -- the operator counts the processor at that place as drained
  abbrev pub IsCountedOut : State (Slot E B) (View E B T L I) → ℕ → Type 0
  IsCountedOut t k = (id : ℕ) × (o : View E B T L I) × HasSeat t id o × (o.role ≡ Operator) × (is_drained o k ≡ true)

module _ {E B T L I : Type 0} (m : Meanings E B T L I) where
  -- What a processor that is in reads: an edition of the published number, and of the last name and tag of the history.
  pub record ReadsPublished (t : State (Slot E B) (View E B T L I)) (v : View E B T L I) : Type 0 where
    pub edition : E
    pub reading : v.part.reading ≡ Some edition
    pub number : m.number edition ≡ slice_index t.words number_index
    pub last : (id : ℕ) (o : View E B T L I) → HasSeat t id o → o.role ≡ Operator → (o.number ≡ m.number edition) × IsLast o (m.name edition) (m.tag edition)

  -- each processor that is in reads what is published
  abbrev pub ReadingLaw : Type 0
  ReadingLaw = (t : State (Slot E B) (View E B T L I)) → Whole m t → (id : ℕ) (v : View E B T L I) → HasSeat t id v → v.role ≡ Processor → v.phase ≡ In → ReadsPublished t v

  -- A view changes by its own seat's steps alone: from the check that it came in by until it lowers its tracker, a processor's view says that it is
  -- in and what it reads. So at any two moments between those steps the same number is published.
  abbrev pub StayingLaw : Type 0
  StayingLaw = (t u : State (Slot E B) (View E B T L I)) → Whole m t → Whole m u → (id : ℕ) (v w : View E B T L I) → HasSeat t id v → HasSeat u id w → v.role ≡ Processor → w.role ≡ Processor → v.phase ≡ In → w.phase ≡ In
      → v.part.reading ≡ w.part.reading → slice_index t.words number_index ≡ slice_index u.words number_index

  -- an edition in its slot is of the published number
  abbrev pub HomeLaw : Type 0
  HomeLaw = (t : State (Slot E B) (View E B T L I)) → Whole m t → (k : ℕ) (y : Slot E B) → 0 < k → get_elem? t.homes k ≡ at.some (at.some y) → (e : E) × (y ≡ Edition (Some e)) × (m.number e ≡ slice_index t.words number_index)

  -- an edition is away from its slot only with its processor, which is in, or with the operator, which counts that processor as drained
  abbrev pub AwayLaw : Type 0
  AwayLaw = (t : State (Slot E B) (View E B T L I)) → Whole m t → (k : ℕ) → 0 < k → get_elem? t.homes k ≡ at.some at.none → IsReader t k ⊎ IsCountedOut t k

  -- no processor is in and counted as drained: so none reads an edition that the operator has in hand
  abbrev pub ApartLaw : Type 0
  ApartLaw = (t : State (Slot E B) (View E B T L I)) → Whole m t → (k : ℕ) → 0 < k → k < length t.homes → IsReader t k → IsCountedOut t k → ⊥

  -- every seat exists, the operator's too, and no place has two
  abbrev pub SeatLaw : Type 0
  SeatLaw = (t : State (Slot E B) (View E B T L I)) → Whole m t → (k : ℕ) → 0 < k → k < length t.homes → (id : ℕ) × (v : View E B T L I) × HasSeat t id v × IsSeatOf v k

  -- the operator's seat exists, and its place is the one behind all processors'
  abbrev pub OperatorLaw : Type 0
  OperatorLaw = (t : State (Slot E B) (View E B T L I)) → Whole m t → (id : ℕ) × (o : View E B T L I) × HasSeat t id o × (o.role ≡ Operator) × (o.place ≡ length t.homes)

  -- two seats, each a processor's or the operator's, that have one place are one seat
  abbrev pub PlaceLaw : Type 0
  PlaceLaw = (t : State (Slot E B) (View E B T L I)) → Whole m t → (i j : ℕ) (v w : View E B T L I) → HasSeat t i v → HasSeat t j w → (v.role ≡ Processor) ⊎ (v.role ≡ Operator) → (w.role ≡ Processor) ⊎ (w.role ≡ Operator)
      → v.place ≡ w.place → i ≡ j

  -- the word of the lock behind is 0, or names the one seat that holds it
  abbrev pub BehindLaw : Type 0
  BehindLaw = (t : State (Slot E B) (View E B T L I)) → Whole m t → slice_index t.words behind_index ≢ 0
      → (id : ℕ) × (v : View E B T L I) × HasSeat t id v × ((v.role ≡ Processor) ⊎ (v.role ≡ Operator)) × (v.place ≡ slice_index t.words behind_index) × (v.behind ≡ true)

  -- the book's word is 0, or names the one seat that has the book: a processor that is in, or the operator
  abbrev pub BookLaw : Type 0
  BookLaw = (t : State (Slot E B) (View E B T L I)) → Whole m t → slice_index t.words book_index ≢ 0
      → (id : ℕ) × (v : View E B T L I) × HasSeat t id v × (((v.role ≡ Processor) × (v.phase ≡ In)) ⊎ (v.role ≡ Operator)) × (v.place ≡ slice_index t.words book_index) × ((book : B) × (v.book ≡ Some book))

  -- each number and name that a processor has seen, or was told of, is in the operator's history, and that number is published
  abbrev pub SeenLaw : Type 0
  SeenLaw = (t : State (Slot E B) (View E B T L I)) → Whole m t → (id i : ℕ) (v o : View E B T L I) → HasSeat t id v → HasSeat t i o → v.role ≡ Processor → o.role ≡ Operator
      → (j x : ℕ) (name : L) → slice_get v.part.pairs j ≡ Some (x, name) → (o.opened ≤ x) × (x ≤ slice_index t.words number_index) × ((tag : T) × (slice_get o.history (x - o.opened) ≡ Some (name, tag)))

  -- the operator's history begins with a receipt's, which has the names from the opening one to that of the receipt's number
  abbrev pub PrefixLaw : Type 0
  PrefixLaw = (t : State (Slot E B) (View E B T L I)) → Whole m t → (id i : ℕ) (r o : View E B T L I) → HasSeat t id r → HasSeat t i o → r.role ≡ Receipt → o.role ≡ Operator
      → (r.opened ≡ o.opened) × (r.opened ≤ r.number) × (r.opened + length r.history ≡ r.number + 1) × BeginsWith o.history r.history

  -- A processor that has heard a receipt has seen the receipt's number: what no pair that it saw is past is that number or a later one. With the
  -- answers of a check and of a regain: it reads that edition or a later one.
  abbrev pub HeardLaw : Type 0
  HeardLaw = (v r : View E B T L I) (number : ℕ) → r.opened ≤ r.number → r.opened + length r.history ≡ r.number + 1 → SeenUpTo (informed_view v r).part number → r.number ≤ number

  -- At every moment a processor that is in reads what is published, and so until it leaves.
  pub record ReadersReadWhatIsPublished : Type 0 where
    -- the edition of who is in has the published number, and the last name and tag of the history
    pub reading : ReadingLaw
    -- while a processor is in, the published number stays
    pub staying : StayingLaw

  -- No edition is replaced under a reader.
  pub record NoEditionIsReplacedUnderAReader : Type 0 where
    -- an edition that isn't in its slot is with its processor, or with the operator
    pub away : AwayLaw
    -- of whom the operator counts as drained, nobody is in
    pub apart : ApartLaw
    -- an edition in its slot has the published number
    pub home : HomeLaw

  -- Every seat exists, once, so whom the words of the two locks name is somebody, who knows of it.
  pub record HoldersAreSeats : Type 0 where
    -- each processor's place has a seat
    pub seats : SeatLaw
    -- the operator has a seat, at the last place
    pub operator : OperatorLaw
    -- no place has two seats
    pub places : PlaceLaw
    -- the holder of the lock behind has a seat, which knows that it holds it
    pub behind : BehindLaw
    -- the holder of the book has a seat, with the book
    pub book : BookLaw

  -- What a processor has seen, or was told of by a receipt, is published, and stands in the history.
  pub record WhatIsSeenIsPublished : Type 0 where
    -- each number and name that a processor has seen is published, and in the history
    pub seen : SeenLaw
    -- the history begins with that of each receipt
    pub told : PrefixLaw
    -- who has heard a receipt has seen its number
    pub heard : HeardLaw
