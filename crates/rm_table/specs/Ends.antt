-- The table as it opens, and what its operator knows as it closes.
use Rattle.std.specs.Prelude.{◌≡◌, ℕ, ◌+◌, ◌-◌, ◌*◌, ◌%◌, ◌^◌, ◌<◌, ◌≤◌, true, false, Some, None, List, [], ◌∷◌, length, map, slice_get, slice_set, slice_index, replicate}
use Rattle.rm_core.specs.declared.processor_state.Phase.TheVariants.{Out}
use Rattle.rm_table.specs.declared.view.Role.TheVariants.{Operator}
use Rattle.rm_table.specs.declared.padded_slot.Slot.{Slot}
use Rattle.rm_table.specs.declared.padded_slot.Slot.TheVariants.{Edition, Book}
use Rattle.rm_table.specs.declared.part.Part.{Part}
use Rattle.rm_table.specs.declared.view.View.{View}
use Rattle.rm_table.specs.Layout.{word_count, number_index, tracker_index}
use Rattle.rm_table.specs.Meanings.{Meanings, values_from, BeginsWith}
use Rattle.rm_table.specs.Moves.{NoneRevoked, IsLast}

-- the words at the opening: the number, and zeros
abbrev pub first_words : ℕ → ℕ → List ℕ
first_words n number = slice_set (replicate (word_count n) 0) number_index number

-- the slots at the opening
abbrev pub first_slots : {E B : Type 0} → B → List E → List (Slot E B)
first_slots book editions = Book (Some book) ∷ map (λ e. Edition (Some e)) editions

module _ {E B T L I : Type 0} (m : Meanings E B T L I) where
  -- a processor that has begun no section
  abbrev pub first_part : B → ℕ → Part E L I
  first_part book place = record {
    sections = 0;
    held = m.book_number book;
    refusal = None;
    read = None;
    reading = None;
    own = m.of book place;
    first = m.of book 0;
    pairs = [];
    behind_taken = 0;
    book_taken = 0;
  }

  -- the opening seat's view, of n processors, of an edition and the book
  abbrev pub first_view : ℕ → E → B → View E B T L I
  first_view n edition book = record {
    role = Operator;
    count = n;
    place = n + 1;
    phase = Out;
    part = first_part book (n + 1);
    behind = false;
    book = None;
    number = m.book_number book;
    opened = m.book_number book;
    history = (m.name edition, m.book_tag book) ∷ [];
    own = m.of book 0;
    ready = false;
    stale = false;
    revoked = replicate (n + 1) false;
    drained = replicate (n + 1) false;
    closing = false;
    kept = None ∷ values_from (λ place. Some (first_part book place)) 1 n;
    steps = [];
  }

  -- The editions that a lock is opened with: all have the number and the tag of the book, and one name.
  pub record OpensTable (editions : List E) (edition : E) (book : B) : Type 0 where
    pub some_there : 0 < length editions
    pub same : (j : ℕ) (e : E) → slice_get editions j ≡ Some e → (m.number e ≡ m.book_number book) × (m.name e ≡ m.name edition) × (m.tag e ≡ m.book_tag book)

  -- What the words and slots hold at the end, by what the operator's view keeps of each processor.
  pub record EndsWith (v : View E B T L I) (words : List ℕ) (slots : List (Slot E B)) : Type 0 where
    pub name : L
    pub tag : T
    pub last : IsLast v name tag
    pub book : B
    pub book_is : slice_get slots 0 ≡ Some (Book (Some book))
    pub book_number : m.book_number book ≡ v.number
    pub book_tag : m.book_tag book ≡ tag
    pub list_0 : m.of book 0 ≡ v.own
    pub ready : v.ready ≡ true → m.book_ready book ≡ true
    pub editions : (k : ℕ) → 0 < k → k ≤ v.count → (e : E) × (slice_get slots k ≡ Some (Edition (Some e))) × (m.number e ≡ v.number) × (m.name e ≡ name) × (m.tag e ≡ tag)
    pub trackers : (k : ℕ) (part : Part E L I) → slice_get v.kept k ≡ Some (Some part) → slice_index words (tracker_index k) ≡ (2 * part.sections) % 2 ^ 64
    pub lists : (k : ℕ) (part : Part E L I) → slice_get v.kept k ≡ Some (Some part) → m.of book k ≡ part.own
    pub begins : (k : ℕ) (part : Part E L I) → slice_get v.kept k ≡ Some (Some part) → BeginsWith v.own part.first
    pub held : (k : ℕ) (part : Part E L I) → slice_get v.kept k ≡ Some (Some part) → part.held ≤ v.number
    pub refusals : (k : ℕ) (part : Part E L I) → slice_get v.kept k ≡ Some (Some part) → NoneRevoked v → (x : ℕ) → part.refusal ≡ Some x → x ≤ v.number
    pub pairs : (k : ℕ) (part : Part E L I) → slice_get v.kept k ≡ Some (Some part) → (j x : ℕ) (l : L) → slice_get part.pairs j ≡ Some (x, l)
        → (v.opened ≤ x) × ((g : T) × (slice_get v.history (x - v.opened) ≡ Some (l, g)))

  -- What a lock gives back at its end, by what the operator's view keeps of each processor: the book, the tracker words and the editions
  -- of all processors in order.
  pub record ClosesWith (v : View E B T L I) (book : B) (trackers : List ℕ) (editions : List E) : Type 0 where
    pub name : L
    pub tag : T
    pub last : IsLast v name tag
    pub book_number : m.book_number book ≡ v.number
    pub book_tag : m.book_tag book ≡ tag
    pub list_0 : m.of book 0 ≡ v.own
    pub ready : v.ready ≡ true → m.book_ready book ≡ true
    pub tracker_count : length trackers ≡ v.count
    pub edition_count : length editions ≡ v.count
    pub published : (j : ℕ) (e : E) → slice_get editions j ≡ Some e → (m.number e ≡ v.number) × (m.name e ≡ name) × (m.tag e ≡ tag)
    pub begun : (j : ℕ) (part : Part E L I) → j < v.count → slice_get v.kept (j + 1) ≡ Some (Some part) → slice_get trackers j ≡ Some ((2 * part.sections) % 2 ^ 64)
    pub lists : (k : ℕ) (part : Part E L I) → slice_get v.kept k ≡ Some (Some part) → m.of book k ≡ part.own
    pub begins : (k : ℕ) (part : Part E L I) → slice_get v.kept k ≡ Some (Some part) → BeginsWith v.own part.first
    pub held : (k : ℕ) (part : Part E L I) → slice_get v.kept k ≡ Some (Some part) → part.held ≤ v.number
    pub refusals : (k : ℕ) (part : Part E L I) → slice_get v.kept k ≡ Some (Some part) → NoneRevoked v → (x : ℕ) → part.refusal ≡ Some x → x ≤ v.number
    pub pairs : (k : ℕ) (part : Part E L I) → slice_get v.kept k ≡ Some (Some part) → (j x : ℕ) (l : L) → slice_get part.pairs j ≡ Some (x, l)
        → (v.opened ≤ x) × ((g : T) × (slice_get v.history (x - v.opened) ≡ Some (l, g)))
