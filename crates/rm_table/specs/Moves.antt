-- What each kind of atomic step does to the view and the slots of the seat that makes it.
use Rattle.std.specs.Prelude.{◌≡◌, ◌≢◌, ◌⊎◌, ℕ, zero, suc, ◌+◌, ◌-◌, ◌<◌, ◌≤◌, max, Bool, true, false, Option, Some, None, List, [], ◌∷◌, ◌++◌, length, slice_get, slice_set, slice_index_or, replicate}
use Rattle.atomic_table.specs.Table.{Act, keeps, gives, chain, rest}
use Rattle.rm_core.specs.declared.processor_state.Phase.{Phase}
use Rattle.rm_core.specs.declared.processor_state.Phase.TheVariants.{Out, Raised, In}
use Rattle.rm_table.specs.declared.view.Role.{Role}
use Rattle.rm_table.specs.declared.view.Role.TheVariants.{Spent, Processor, Operator, Receipt}
use Rattle.rm_table.specs.declared.padded_slot.Slot.{Slot}
use Rattle.rm_table.specs.declared.padded_slot.Slot.TheVariants.{Edition, Book}
use Rattle.rm_table.specs.declared.part.Part.{Part}
use Rattle.rm_table.specs.declared.view.View.{View}
use Rattle.rm_table.specs.Meanings.{Meanings, numbered_names, BeginsWith}

-- the slots that a seat has, the last one taken first
abbrev pub Hand : Type 0 → Type 0 → Type 0
Hand E B = List (ℕ × Slot E B)

-- the greater of the refusal that stands, if one does, and a new one
abbrev pub greater_refusal : Option ℕ → ℕ → ℕ
greater_refusal None number = number
greater_refusal (Some standing) number = max standing number

module _ {E L I : Type 0} where
  -- raise: one more section has begun
  abbrev pub begun_part : Part E L I → Part E L I
  begun_part part = record part { sections = part.sections + 1 }

  -- check, where the token is revoked for the publication of that number: the greater refusal stands until the token is regained
  abbrev pub refused_part : Part E L I → ℕ → Part E L I
  refused_part part number = record part { refusal = Some (greater_refusal part.refusal number) }

  -- each pair of number and name that the processor has seen is of this number or of an earlier one
  abbrev pub SeenUpTo : Part E L I → ℕ → Type 0
  SeenUpTo part number = (j x : ℕ) (name : L) → slice_get part.pairs j ≡ Some (x, name) → x ≤ number

  -- each name that the processor has seen under this number is this one
  abbrev pub SeenAs : Part E L I → ℕ → L → Type 0
  SeenAs part number name = (j : ℕ) (other : L) → slice_get part.pairs j ≡ Some (number, other) → other ≡ name

  -- join seat, of a receipt: the processor has seen each number and name of that history, the first of which has the number `opened`
  abbrev pub informed_part : {T : Type 0} → Part E L I → ℕ → List (L × T) → Part E L I
  informed_part part opened history = record part { pairs = part.pairs ++ numbered_names opened history }

  -- lower: the section has ended
  abbrev pub left_part : Part E L I → Part E L I
  left_part part = record part { reading = None }

  -- take back: the lock behind is held, and no number was read under it yet
  abbrev pub behind_part : Part E L I → Part E L I
  behind_part part = record part { read = None; behind_taken = part.behind_taken + 1 }

  -- give back
  abbrev pub unread_part : Part E L I → Part E L I
  unread_part part = record part { read = None }

  -- regain: the processor holds its token, and knows the number that it read
  abbrev pub regained_part : Part E L I → ℕ → Part E L I
  regained_part part number = record part { held = number; refusal = None }

  -- read number: it is kept where the lock behind is held
  abbrev pub read_part : Bool → Part E L I → ℕ → Part E L I
  read_part true part number = record part { read = Some number }
  read_part false part number = part

  -- take book
  abbrev pub book_part : Part E L I → Part E L I
  book_part part = record part { book_taken = part.book_taken + 1 }

  -- the part of a seat that is no processor's
  abbrev pub blank_part : Part E L I
  blank_part = record { sections = 0; held = 0; refusal = None; read = None; reading = None; own = []; first = []; pairs = []; behind_taken = 0; book_taken = 0 }

module _ {E B : Type 0} where
  -- lower: who was in gives its edition back
  abbrev pub hand_left : Phase → Hand E B → Hand E B
  hand_left Out hand = hand
  hand_left Raised hand = hand
  hand_left In hand = rest hand

  -- the first k slots of the hand go home
  abbrev pub gives_first : ℕ → Act (Slot E B)
  gives_first zero = keeps
  gives_first (suc k) = chain gives (gives_first k)

  -- the hand without its first k slots
  abbrev pub rest_from : ℕ → Hand E B → Hand E B
  rest_from zero hand = hand
  rest_from (suc k) hand = rest_from k (rest hand)

  -- these editions, the first in slot `from`, stand first in the hand
  abbrev pub editions_from : ℕ → List E → Hand E B → Hand E B
  editions_from from [] hand = hand
  editions_from from (e ∷ es) hand = (from, Edition (Some e)) ∷ editions_from (from + 1) es hand

module _ {E B T L I : Type 0} where
  -- one more step on a word was made, which found or stored this
  abbrev pub with_step : View E B T L I → ℕ → ℕ → View E B T L I
  with_step v index found = record v { steps = v.steps ++ (index, found) ∷ [] }

  -- raise: a section has begun
  abbrev pub raised_view : View E B T L I → View E B T L I
  raised_view v = record v { phase = Raised; part = begun_part v.part }

  -- check, where the token is revoked for the publication of that number
  abbrev pub refused_view : View E B T L I → ℕ → View E B T L I
  refused_view v number = record v { part = refused_part v.part number }

  -- lower: the processor is out
  abbrev pub lowered_view : View E B T L I → View E B T L I
  lowered_view v = record v { phase = Out; part = left_part v.part }

  -- take back: the seat holds the lock behind
  abbrev pub behind_taken : View E B T L I → View E B T L I
  behind_taken v = record v { behind = true; part = behind_part v.part }

  -- give back: the seat holds the lock behind no more
  abbrev pub behind_given : View E B T L I → View E B T L I
  behind_given v = record v { behind = false; part = unread_part v.part }

  -- regain: the processor holds its token, and knows that number
  abbrev pub regained_view : View E B T L I → ℕ → View E B T L I
  regained_view v number = record v { part = regained_part v.part number }

  -- revoke
  abbrev pub revoked_view : View E B T L I → ℕ → View E B T L I
  revoked_view v place = record v { revoked = slice_set v.revoked place true }

  -- drain, where the processor is out
  abbrev pub drained_view : View E B T L I → ℕ → View E B T L I
  drained_view v place = record v { drained = slice_set v.drained place true }

  -- read number
  abbrev pub number_read : View E B T L I → ℕ → View E B T L I
  number_read v number = record v { part = read_part v.behind v.part number }

  -- take book: the seat has the book, and keeps how it was when it was taken
  abbrev pub book_taken : View E B T L I → B → View E B T L I
  book_taken v book = record v { book = Some book; part = book_part v.part }

  -- split seat: the processor's place is no longer kept, and the new seat has it
  abbrev pub split_off : View E B T L I → ℕ → View E B T L I
  split_off v place = record v { kept = slice_set v.kept place None }

  -- split seat, at a processor's place: the new seat has the part that was kept, is out, and holds neither lock
  abbrev pub processor_view : View E B T L I → ℕ → Part E L I → View E B T L I
  processor_view v place part = record {
    role = Processor;
    count = v.count;
    place = place;
    phase = Out;
    part = part;
    behind = false;
    book = None;
    number = 0;
    opened = v.opened;
    history = [];
    own = [];
    ready = false;
    stale = false;
    revoked = [];
    drained = [];
    closing = false;
    kept = [];
    steps = [];
  }

  -- split seat, at place 0: a receipt has what the operator has published so far, and the operator's view stays
  abbrev pub receipt_view : View E B T L I → View E B T L I
  receipt_view v = record {
    role = Receipt;
    count = v.count;
    place = 0;
    phase = Out;
    part = blank_part;
    behind = false;
    book = None;
    number = v.number;
    opened = v.opened;
    history = v.history;
    own = [];
    ready = false;
    stale = false;
    revoked = [];
    drained = [];
    closing = false;
    kept = [];
    steps = [];
  }

  -- a seat that was joined into another
  abbrev pub spent_view : View E B T L I
  spent_view = record {
    role = Spent;
    count = 0;
    place = 0;
    phase = Out;
    part = blank_part;
    behind = false;
    book = None;
    number = 0;
    opened = 0;
    history = [];
    own = [];
    ready = false;
    stale = false;
    revoked = [];
    drained = [];
    closing = false;
    kept = [];
    steps = [];
  }

  -- what the operator's view keeps at that place: outside None there is no such place, inside None its seat is split off
  abbrev pub kept_at : View E B T L I → ℕ → Option (Option (Part E L I))
  kept_at v place = slice_get v.kept place

  -- split seat: the view of the new seat, by what was kept at its place
  abbrev pub right_of : View E B T L I → ℕ → Option (Option (Part E L I)) → View E B T L I
  right_of v place (Some (Some part)) = processor_view v place part
  right_of v place (Some None) = spent_view
  right_of v place None = spent_view

  -- the seat of that place isn't split off yet, or was joined again
  abbrev pub KeepsPart : View E B T L I → ℕ → Type 0
  KeepsPart v place = (part : Part E L I) × (kept_at v place ≡ Some (Some part))

  -- join seat, of a processor: the operator keeps its part
  abbrev pub joined_view : View E B T L I → View E B T L I → View E B T L I
  joined_view v w = record v { closing = true; kept = slice_set v.kept w.place (Some w.part) }

  -- join seat, of a receipt: the processor has heard it
  abbrev pub informed_view : View E B T L I → View E B T L I → View E B T L I
  informed_view v w = record v { part = informed_part v.part w.opened w.history }

  -- join seat, by whose seat is joined
  abbrev pub joined_by : Role → View E B T L I → View E B T L I → View E B T L I
  joined_by Spent v w = v
  joined_by Processor v w = joined_view v w
  joined_by Operator v w = v
  joined_by Receipt v w = informed_view v w

  -- no place is kept: every seat is split off, and none was joined
  abbrev pub AllSplit : View E B T L I → Type 0
  AllSplit v = (v.closing ≡ false) × ((k : ℕ) (part : Part E L I) → slice_get v.kept k ≡ Some (Some part) → ⊥)

  -- each seat but the operator's was joined
  abbrev pub AllJoined : View E B T L I → Type 0
  AllJoined v = (v.closing ≡ true) × ((k : ℕ) → 0 < k → k ≤ v.count → (part : Part E L I) × (slice_get v.kept k ≡ Some (Some part)))

  -- The operator, at work.
  pub record IsOperator (v : View E B T L I) : Type 0 where
    pub role : v.role ≡ Operator
    pub split : AllSplit v

  -- a processor, or the operator at work
  abbrev pub IsWorking : View E B T L I → Type 0
  IsWorking v = (v.role ≡ Processor) ⊎ IsOperator v

  -- this is the last name and tag that the operator knows to be published
  abbrev pub IsLast : View E B T L I → L → T → Type 0
  IsLast v name tag = slice_get v.history (v.number - v.opened) ≡ Some (name, tag)

  -- the operator has revoked this processor's token for the publication to come
  abbrev pub is_revoked : View E B T L I → ℕ → Bool
  is_revoked v place = slice_index_or v.revoked place false

  -- the operator has seen this processor out since it revoked its token
  abbrev pub is_drained : View E B T L I → ℕ → Bool
  is_drained v place = slice_index_or v.drained place false

  -- no processor's token is revoked
  abbrev pub NoneRevoked : View E B T L I → Type 0
  NoneRevoked v = (k : ℕ) → 0 < k → k ≤ v.count → is_revoked v k ≡ false

  -- each processor's token is revoked
  abbrev pub AllRevoked : View E B T L I → Type 0
  AllRevoked v = (k : ℕ) → 0 < k → k ≤ v.count → is_revoked v k ≡ true

  -- each processor is drained
  abbrev pub AllDrained : View E B T L I → Type 0
  AllDrained v = (k : ℕ) → 0 < k → k ≤ v.count → is_drained v k ≡ true

  -- no processor is drained
  abbrev pub NoneDrained : View E B T L I → Type 0
  NoneDrained v = (k : ℕ) → 0 < k → k ≤ v.count → is_drained v k ≡ false

  module _ (m : Meanings E B T L I) where
    -- check, where the token is held: the processor is in, with the edition of its slot
    abbrev pub entered_part : Part E L I → E → Part E L I
    entered_part part e = record part { reading = Some e; pairs = part.pairs ++ (m.number e, m.name e) ∷ [] }

    -- check, where the token is held, of the whole view
    abbrev pub entered_view : View E B T L I → E → View E B T L I
    entered_view v e = record v { phase = In; part = entered_part v.part e }

    -- who lowers its tracker in a section that it entered has its slot on top, with an edition of the number, name and tag that it read
    pub record HasEdition (v : View E B T L I) (hand : Hand E B) : Type 0 where
      pub edition : E
      pub hand_is : hand ≡ (v.place, Edition (Some edition)) ∷ rest hand
      pub found : E
      pub reading : v.part.reading ≡ Some found
      pub number : m.number edition ≡ m.number found
      pub name : m.name edition ≡ m.name found
      pub tag : m.tag edition ≡ m.tag found

    -- publish: name and tag of the editions in hand are the history's last, and the tag's item that of the operator's list
    abbrev pub published_as : View E B T L I → L → T → View E B T L I
    published_as v name tag = record v {
      number = v.number + 1;
      history = v.history ++ (name, tag) ∷ [];
      own = v.own ++ m.item tag ∷ [];
      ready = false;
      stale = true;
      revoked = replicate (v.count + 1) false;
      drained = replicate (v.count + 1) false;
    }

    -- publish, by the first edition in hand; a hand without one changes nothing
    abbrev pub published_view : View E B T L I → Hand E B → View E B T L I
    published_view v ((k, Edition (Some e)) ∷ hand) = published_as v (m.name e) (m.tag e)
    published_view v _ = v

    -- The first slots of the hand are the editions of all processors in order, all of the next number, of one name and tag.
    pub record HasNext (v : View E B T L I) (hand : Hand E B) : Type 0 where
      pub editions : List E
      pub others : Hand E B
      pub count : length editions ≡ v.count
      pub hand_is : hand ≡ editions_from 1 editions others
      pub name : L
      pub tag : T
      pub same : (j : ℕ) (e : E) → slice_get editions j ≡ Some e → (m.number e ≡ v.number + 1) × (m.name e ≡ name) × (m.tag e ≡ tag)

    -- give book: the processor's list is the one that it left there, and the operator knows whether the book is ready
    abbrev pub given_part : Part E L I → ℕ → B → Part E L I
    given_part part place book = record part { own = m.of book place }

    -- give book: the seat has no book and knows whether it is ready, and none of its publications waits to be taken in
    abbrev pub book_given : View E B T L I → B → View E B T L I
    book_given v book = record v { book = None; ready = m.book_ready book; stale = false; part = given_part v.part v.place book }

    -- a processor's book is as taken, but for its own list, and ready if it was
    pub record LeftBy (place : ℕ) (taken book : B) : Type 0 where
      pub number : m.book_number book ≡ m.book_number taken
      pub tag : m.book_tag book ≡ m.book_tag taken
      pub lists : (k : ℕ) → k ≢ place → m.of book k ≡ m.of taken k
      pub ready : m.book_ready taken ≡ true → m.book_ready book ≡ true

    -- The operator's book: as taken, with room kept, or, after its publication, the one that has taken it in.
    pub record LeftByOperator (v : View E B T L I) (taken book : B) : Type 0 where
      pub number : m.book_number book ≡ v.number
      pub tag : v.stale ≡ false → m.book_tag book ≡ m.book_tag taken
      pub tag_published : v.stale ≡ true → (name : L) × IsLast v name (m.book_tag book)
      pub list_0 : m.of book 0 ≡ v.own
      pub lists : (k : ℕ) → k ≢ 0 → m.of book k ≡ m.of taken k
      pub ready : v.stale ≡ false → m.book_ready taken ≡ true → m.book_ready book ≡ true

    -- who gives the book back has it on top
    pub record HasBook (v : View E B T L I) (hand : Hand E B) : Type 0 where
      pub book : B
      pub hand_is : hand ≡ (0, Book (Some book)) ∷ rest hand
      pub taken : B
      pub book_taken : v.book ≡ Some taken
      pub processor : v.role ≡ Processor → LeftBy v.place taken book
      pub operator : v.role ≡ Operator → LeftByOperator v taken book

    -- what the operator finds in the book: number and tag of the last publication, list 0 as its own, and room where it knows of it. So none of
    -- its publications waits to be taken in
    pub record FoundByOperator (v : View E B T L I) (book : B) : Type 0 where
      pub number : m.book_number book ≡ v.number
      pub tag : (name : L) × IsLast v name (m.book_tag book)
      pub list_0 : m.of book 0 ≡ v.own
      pub ready : v.ready ≡ true → m.book_ready book ≡ true
      pub unpublished : v.stale ≡ false

    -- what a processor finds in the book: its list as it left it, list 0 begun with the opening's, number and tag of its edition
    pub record FoundBy (v : View E B T L I) (book : B) : Type 0 where
      pub own : v.role ≡ Processor → m.of book v.place ≡ v.part.own
      pub first : v.role ≡ Processor → BeginsWith (m.of book 0) v.part.first
      pub edition : v.role ≡ Processor → (e : E) × (v.part.reading ≡ Some e) × (m.book_number book ≡ m.number e) × (m.book_tag book ≡ m.tag e)
      pub operator : v.role ≡ Operator → FoundByOperator v book
