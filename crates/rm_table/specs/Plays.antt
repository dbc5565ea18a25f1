-- What each kind of atomic step tells the seat that makes it: of the step, the seat before, the number found (at a store, the number
-- stored) and the seat after.
use Rattle.std.specs.Prelude.{◌≡◌, ℕ, ◌+◌, ◌%◌, ◌<◌, ◌≤◌, ◌==◌, MatchBool, Some, None, ◌∷◌}
use Rattle.atomic_table.specs.Table.{Me, Step, rest}
use Rattle.rm_table.specs.declared.view.Role.TheVariants.{Processor, Operator}
use Rattle.rm_table.specs.declared.padded_slot.Slot.{Slot}
use Rattle.rm_table.specs.declared.padded_slot.Slot.TheVariants.{Edition, Book}
use Rattle.rm_table.specs.declared.view.View.{View}
use Rattle.rm_table.specs.Layout.{tracker_index, token_index}
use Rattle.rm_table.specs.Meanings.{Meanings}
use Rattle.rm_table.specs.Moves.{with_step, raised_view, refused_view, lowered_view, hand_left, behind_taken, behind_given, regained_view, revoked_view, drained_view, number_read, book_taken, entered_view, published_view, rest_from, book_given, SeenUpTo, SeenAs, IsLast, FoundBy, AllDrained}

module _ {E B T L I : Type 0} (m : Meanings E B T L I) where
  -- a seat between two steps: its view and the slots in its hand
  abbrev pub Seated : Type 0
  Seated = Me (Slot E B) (View E B T L I)

  -- what a step that changes nothing but one word tells
  abbrev pub Telling : Type 1
  Telling = Step (Slot E B) → Seated → ℕ → Seated → Type 0

  -- the processor is raised
  abbrev pub TellsRaise : Telling
  TellsRaise s me found after = after ≡ (with_step (raised_view me.0) s.word found, me.1)

  -- the token is held, and the edition in the slot is of the number that the processor knows, which no pair that it saw is past, and of every
  -- name that it saw under this number, or the token is revoked for a later number
  abbrev pub TellsCheck : Telling
  TellsCheck s me found after = MatchBool (found == 0)
      ((e : E) × (after ≡ (with_step (entered_view m me.0 e) s.word found, (me.0.place, Edition (Some e)) ∷ me.1)) × (m.number e ≡ me.0.part.held) × SeenUpTo me.0.part (m.number e) × SeenAs me.0.part (m.number e) (m.name e))
      ((after ≡ (with_step (refused_view me.0 found) s.word found, me.1)) × (me.0.part.held < found))

  -- the processor is out, and its edition, if it was in, is back in its slot
  abbrev pub TellsLower : Telling
  TellsLower s me found after = after ≡ (with_step (lowered_view me.0) s.word found, hand_left me.0.phase me.1)

  -- the lock behind was free and is held now, or the word names its holder
  abbrev pub TellsTakeBehind : Telling
  TellsTakeBehind s me found after = MatchBool (found == 0)
      (after ≡ (with_step (behind_taken me.0) s.word found, me.1))
      ((after ≡ (with_step me.0 s.word found, me.1)) × (found ≤ me.0.count + 1))

  -- the lock behind is held no more
  abbrev pub TellsGiveBehind : Telling
  TellsGiveBehind s me found after = after ≡ (with_step (behind_given me.0) s.word found, me.1)

  -- the number read is at least each refusal's, and no pair that the processor saw is past it
  abbrev pub TellsRegain : Telling
  TellsRegain s me found after = (x : ℕ) → me.0.part.read ≡ Some x
      → (after ≡ (with_step (regained_view me.0 x) s.word found, me.1)) × ((t : ℕ) → me.0.part.refusal ≡ Some t → t ≤ x) × SeenUpTo me.0.part x

  -- the token of the word's place is revoked
  abbrev pub TellsRevoke : Telling
  TellsRevoke s me found after = (place : ℕ) → s.word ≡ token_index me.0.count place → after ≡ (with_step (revoked_view me.0 place) s.word found, me.1)

  -- an even tracker says that the processor is out; its edition is the last published one
  abbrev pub TellsDrain : Telling
  TellsDrain s me found after = (place : ℕ) → s.word ≡ tracker_index place → MatchBool (found % 2 == 0)
      ((e : E) × (after ≡ (with_step (drained_view me.0 place) s.word found, (place, Edition (Some e)) ∷ me.1)) × (m.number e ≡ me.0.number) × IsLast me.0 (m.name e) (m.tag e))
      (after ≡ (with_step me.0 s.word found, me.1))

  -- the number read is, to the operator, the one that it published last, and to a processor no earlier than any that it knows or saw
  pub record TellsNumber (s : Step (Slot E B)) (me : Seated) (found : ℕ) (after : Seated) : Type 0 where
    pub after_is : after ≡ (with_step (number_read me.0 found) s.word found, me.1)
    pub operator : me.0.role ≡ Operator → found ≡ me.0.number
    pub processor : me.0.role ≡ Processor → me.0.part.held ≤ found
    pub seen : me.0.role ≡ Processor → SeenUpTo me.0.part found

  -- what the editions in hand name is published, and each is back in its slot
  abbrev pub TellsPublish : Telling
  TellsPublish s me found after = after ≡ (with_step (published_view m me.0 me.1) s.word found, rest_from me.0.count me.1)

  -- a free book is at home; nobody but the operator has it once all are drained
  pub record TellsTakeBook (s : Step (Slot E B)) (me : Seated) (found : ℕ) (after : Seated) : Type 0 where
    pub tried : MatchBool (found == 0)
        ((book : B) × (after ≡ (with_step (book_taken me.0 book) s.word found, (0, Book (Some book)) ∷ me.1)) × FoundBy m me.0 book)
        ((after ≡ (with_step me.0 s.word found, me.1)) × (found ≤ me.0.count + 1))
    pub free : me.0.role ≡ Operator → AllDrained me.0 → me.0.book ≡ None → found ≡ 0

  -- the book in hand is back in its slot
  abbrev pub TellsGiveBook : Telling
  TellsGiveBook s me found after = (book : B) → me.1 ≡ (0, Book (Some book)) ∷ rest me.1 → after ≡ (with_step (book_given m me.0 book) s.word found, rest me.1)
