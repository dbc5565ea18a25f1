-- What each call of the lock does to its token, after rmlock(9): which steps it makes on the words, and what the token knows then.
use Rattle.std.specs.Prelude.{◌≡◌, ◌≢◌, ℕ, ◌+◌, ◌<◌, ◌≤◌, true, false, Some, None, List, [], ◌∷◌, ◌++◌, length, slice_get, Result, Ok, Err}
use Rattle.atomic_table.specs.Table.{Me}
use Rattle.rm_core.specs.declared.processor_state.Phase.TheVariants.{Out, Raised}
use Rattle.rm_table.specs.declared.padded_slot.Slot.{Slot}
use Rattle.rm_table.specs.declared.padded_slot.Slot.TheVariants.{Edition, Book}
use Rattle.rm_table.specs.declared.view.View.{View}
use Rattle.rm_table.specs.Layout.{number_index, behind_index, book_index, tracker_index, token_index, tracker_word}
use Rattle.rm_table.specs.Meanings.{Meanings, values_from, BeginsWith}
use Rattle.rm_table.specs.Moves.{with_step, raised_view, entered_view, refused_view, lowered_view, behind_taken, behind_given, number_read, regained_view, book_taken, book_given, drained_view, published_as, SeenUpTo, SeenAs, IsLast, LeftBy, FoundBy, AllRevoked, AllDrained}
use Rattle.rm_lock.specs.Tokens.{TokenState, BookTokenState}
use Rattle.rm_lock.specs.declared.reader_calls.Busy.{Busy}
use Rattle.rm_lock.specs.declared.reader_calls.Entry.{Entry}
use Rattle.rm_lock.specs.declared.reader_calls.Entry.TheVariants.{In, Revoked}

-- these steps, and behind them one load of that word for each number, the last number first
abbrev pub with_loads : List (ℕ × ℕ) → ℕ → List ℕ → List (ℕ × ℕ)
with_loads steps index [] = steps
with_loads steps index (x ∷ xs) = with_loads steps index xs ++ (index, x) ∷ []

-- Behind these steps, looks at the trackers of the processors from `place` on, the last processor first: for each the numbers that its looks
-- found before the last of them, which found it out, and what that one found.
abbrev pub with_looks : List (ℕ × ℕ) → ℕ → List (List ℕ × ℕ) → List (ℕ × ℕ)
with_looks steps place [] = steps
with_looks steps place (look ∷ looks) = with_loads (with_looks steps (place + 1) looks) (tracker_index place) look.0 ++ (tracker_index place, look.1) ∷ []

module _ {E B T L I : Type 0} where
  -- tries or looks at that word, which found these numbers, the last one first, and changed nothing
  abbrev pub waited_view : View E B T L I → ℕ → List ℕ → View E B T L I
  waited_view v index others = record v { steps = with_loads v.steps index others }

  -- raise: one store
  abbrev pub after_raise : View E B T L I → View E B T L I
  after_raise v = with_step (raised_view v) (tracker_index v.place) (tracker_word (v.part.sections + 1) Raised)

  -- lower: one store. It is what a call to leave does
  abbrev pub after_lower : View E B T L I → View E B T L I
  after_lower v = with_step (lowered_view v) (tracker_index v.place) (tracker_word v.part.sections Out)

  -- a section that was refused: raise, a check whose load saw this number, lower
  abbrev pub after_refusal : View E B T L I → ℕ → View E B T L I
  after_refusal v number = after_lower (with_step (refused_view (after_raise v) number) (token_index v.count v.place) number)

  -- the lock behind was taken, after tries that found these holders
  abbrev pub after_taking_behind : View E B T L I → List ℕ → View E B T L I
  after_taking_behind v others = with_step (behind_taken (waited_view v behind_index others)) behind_index 0

  -- regain: take the lock behind, read the number, store into the own token, give the lock behind back
  abbrev pub after_regain : View E B T L I → List ℕ → ℕ → View E B T L I
  after_regain v others number =
      with_step (behind_given (with_step (regained_view (with_step (number_read (after_taking_behind v others) number) number_index number) number) (token_index v.count v.place) 0)) behind_index 0

  -- The processor has its token again. It took the lock behind once, and knows the number that it read under it, the published one. That is at
  -- least every number that it was refused with since it last regained, the one that it knew, and every one that it saw.
  pub record Regains (before after : View E B T L I) : Type 0 where
    pub others : List ℕ
    pub number : ℕ
    pub after_is : after ≡ after_regain before others number
    pub refusals : (t : ℕ) → before.part.refusal ≡ Some t → t ≤ number
    pub held : before.part.held ≤ number
    pub seen : SeenUpTo before.part number

  -- A try that found this holder in that word: the token is as it was, and one load is noted.
  pub record FindsHeld (before after : TokenState E B T L I) (index holder : ℕ) : Type 0 where
    pub lock : after.table_id ≡ before.table_id
    pub step : after.view ≡ with_step before.view index holder
    pub somebody : holder ≢ 0

  -- One try to regain. It took the lock behind, and the rest is as in a call to regain that found no other holder, or it found the holder.
  abbrev pub TriesToRegain : TokenState E B T L I → Result (TokenState E B T L I) (Busy (TokenState E B T L I)) → Type 0
  TriesToRegain before (Ok after) = (after.table_id ≡ before.table_id) × ((r : Regains before.view after.view) × (r.others ≡ []))
  TriesToRegain before (Err busy) = FindsHeld before busy.back behind_index busy.holder

  -- the book was taken, after tries that found these holders
  abbrev pub after_taking_book : View E B T L I → List ℕ → B → View E B T L I
  after_taking_book v others book = with_step (book_taken (waited_view v book_index others) book) book_index 0

  -- what the operator knows, but for whom it has revoked and found out, the lock behind, and its steps
  abbrev pub steady_view : View E B T L I → View E B T L I
  steady_view v = record v { behind = false; part = record v.part { read = None; behind_taken = 0 }; revoked = []; drained = []; steps = [] }

  -- revoke, of each processor in order: one store of the next number into its token
  abbrev pub revocations : View E B T L I → List (ℕ × ℕ)
  revocations v = values_from (λ place. (token_index v.count place, v.number + 1)) 1 v.count

  -- Every token is revoked for the next number, and every processor was found out. Beside that the operator knows what it knew. Its steps were
  -- tries for the lock behind until one took it, a store into each token, and looks at each processor's tracker until one found it out.
  pub record BeginsWrite (before after : View E B T L I) : Type 0 where
    pub revoked : AllRevoked after
    pub drained : AllDrained after
    pub same : steady_view after ≡ steady_view before
    pub others : List ℕ
    pub looks : List (List ℕ × ℕ)
    pub looks_count : length looks ≡ before.count
    pub steps : after.steps ≡ with_looks ((after_taking_behind before others).steps ++ revocations before) 1 looks

  -- one wait for the lock behind
  abbrev pub WaitsForBehind : Me (Slot E B) (View E B T L I) → Me (Slot E B) (View E B T L I) → Type 0
  WaitsForBehind me after = (others : List ℕ) × (after ≡ (after_taking_behind me.0 others, me.1))

  module _ (m : Meanings E B T L I) where
    -- a section that was entered: raise, and a check whose load saw that the token is held
    abbrev pub after_entry : View E B T L I → E → View E B T L I
    after_entry v e = with_step (entered_view m (after_raise v) e) (token_index v.count v.place) 0

    -- What a call to enter does. In: the edition is of the number that the processor knew, which was the published one at the check, no
    -- earlier than any that it saw, and of every name that it saw under this number. Refused: the load of its token saw the number, which is greater than the one that it knew.
    abbrev pub Enters : TokenState E B T L I → Entry E B L T I → Type 0
    Enters before (In r) = (r.table_id ≡ before.table_id)
        × ((e : E) × (r.view ≡ after_entry before.view e) × (m.number e ≡ before.view.part.held) × SeenUpTo before.view.part (m.number e)
        × SeenAs before.view.part (m.number e) (m.name e))
    Enters before (Revoked p number) = (p.table_id ≡ before.table_id)
        × (p.view ≡ after_refusal before.view number) × (before.view.part.held < number)

    -- What a processor finds in the book: number and tag of its edition, its own list as it left it, and a list 0 that begins with the one at the
    -- opening.
    pub record TakesBook (before after : View E B T L I) (book : B) : Type 0 where
      pub others : List ℕ
      pub after_is : after ≡ after_taking_book before others book
      pub number : m.book_number book ≡ before.part.held
      pub edition : E
      pub reading : before.part.reading ≡ Some edition
      pub tag : m.book_tag book ≡ m.tag edition
      pub own : m.of book before.place ≡ before.part.own
      pub first : BeginsWith (m.of book 0) before.part.first

    -- One try to take the book. It took it, as a call to take the book that found no other holder, or it found the holder.
    abbrev pub TriesToTakeBook : TokenState E B T L I → Result (BookTokenState E B T L I) (Busy (TokenState E B T L I)) → Type 0
    TriesToTakeBook before (Ok after) = (after.table_id ≡ before.table_id) × ((t : TakesBook before.view after.view after.book) × (t.others ≡ []))
    TriesToTakeBook before (Err busy) = FindsHeld before busy.back book_index busy.holder

    -- the book's number, tag and lists but the processor's own are as taken, and it is ready if it was
    abbrev pub IsAsTaken : View E B T L I → B → Type 0
    IsAsTaken v book = (taken : B) → v.book ≡ Some taken → LeftBy m v.place taken book

    -- give book: one store
    abbrev pub after_giving_book : View E B T L I → B → View E B T L I
    after_giving_book v book = with_step (book_given m v book) book_index 0

    -- What the operator finds in the book: the published number with its tag, list 0 as its own, and room where it knows of it.
    pub record OpensBook (before after : View E B T L I) (book : B) : Type 0 where
      pub others : List ℕ
      pub after_is : after ≡ after_taking_book before others book
      pub number : m.book_number book ≡ before.number
      pub name : L
      pub tag : IsLast before name (m.book_tag book)
      pub list_0 : m.of book 0 ≡ before.own
      pub ready : before.ready ≡ true → m.book_ready book ≡ true

    -- the book's number, tag and every list are as taken, and it is ready if it was
    pub record IsUntouched (taken book : B) : Type 0 where
      pub number : m.book_number book ≡ m.book_number taken
      pub tag : m.book_tag book ≡ m.book_tag taken
      pub lists : (k : ℕ) → m.of book k ≡ m.of taken k
      pub ready : m.book_ready taken ≡ true → m.book_ready book ≡ true

    -- the book is as the seat took it, where it took one
    abbrev pub IsAsFound : View E B T L I → B → Type 0
    IsAsFound v book = (taken : B) → v.book ≡ Some taken → IsUntouched taken book

    -- one wait for the book
    abbrev pub WaitsForBook : Me (Slot E B) (View E B T L I) → Me (Slot E B) (View E B T L I) → Type 0
    WaitsForBook me after = (others : List ℕ) × (book : B) × (after ≡ (after_taking_book me.0 others book, (0, Book (Some book)) ∷ me.1)) × FoundBy m me.0 book

    -- one wait for a processor: the last look found it out, and its edition, the last published one, is in hand
    abbrev pub WaitsForProcessor : Me (Slot E B) (View E B T L I) → ℕ → Me (Slot E B) (View E B T L I) → Type 0
    WaitsForProcessor me place after = (others : List ℕ) × (found : ℕ) × (e : E)
        × (after ≡ (with_step (drained_view (waited_view me.0 (tracker_index place) others) place) (tracker_index place) found, (place, Edition (Some e)) ∷ me.1))
        × (m.number e ≡ me.0.number) × IsLast me.0 (m.name e) (m.tag e)

    -- the editions of a publication with these facts: of the next number, of one name, and tagged by the facts
    abbrev pub AreNext : ℕ → List E → T → Type 0
    AreNext number editions facts = (j i : ℕ) (e d : E) → slice_get editions j ≡ Some e → slice_get editions i ≡ Some d
        → (m.number e ≡ number + 1) × (m.tag e ≡ facts) × (m.name e ≡ m.name d)

    -- take book by one try, publish, give book, give back: four steps on words
    abbrev pub after_write : View E B T L I → B → L → T → B → View E B T L I
    after_write v taken name tag book =
        with_step (behind_given (with_step (book_given m (with_step (published_as m (with_step (book_taken v taken) book_index 0) name tag) number_index (v.number + 1)) book) book_index 0)) behind_index 0

    -- What a publication does: the history has the name of the editions and the facts as its last, the operator's list has the facts' item as its
    -- last, and the next number is published. The one try for the book found it free.
    pub record PublishesEditions (before : View E B T L I) (editions : List E) (facts : T) (after : View E B T L I) : Type 0 where
      pub edition : E
      pub first : slice_get editions 0 ≡ Some edition
      pub taken : B
      pub book : B
      pub after_is : after ≡ after_write before taken (m.name edition) facts book
