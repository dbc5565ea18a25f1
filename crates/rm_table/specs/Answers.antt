-- What the steps that answer something did, by their answer.
use Rattle.std.specs.Prelude.{◌≡◌, ◌≢◌, ℕ, ◌%◌, ◌<◌, ◌≤◌, Some, ◌∷◌}
use Rattle.rm_core.specs.declared.event.Heard.{Heard}
use Rattle.rm_core.specs.declared.event.Heard.TheVariants.{Held, Revoked, Drained, NotOut, Number, Nothing}
use Rattle.rm_table.specs.declared.view.Role.TheVariants.{Processor, Operator}
use Rattle.rm_table.specs.declared.lock_steps.Tried.{Tried}
use Rattle.rm_table.specs.declared.lock_steps.Tried.TheVariants.{Taken, HeldBy}
use Rattle.rm_table.specs.declared.padded_slot.Slot.TheVariants.{Edition, Book}
use Rattle.rm_table.specs.Layout.{number_index, behind_index, book_index, tracker_index, token_index}
use Rattle.rm_table.specs.Meanings.{Meanings}
use Rattle.rm_table.specs.Moves.{with_step, refused_view, behind_taken, regained_view, drained_view, number_read, book_taken, entered_view, SeenUpTo, SeenAs, IsLast, FoundBy}
use Rattle.rm_table.specs.Plays.{Seated}

module _ {E B T L I : Type 0} (m : Meanings E B T L I) where
  -- a check: its load saw 0, and the processor is in with the edition of its slot, of the number that it knew, no earlier than any that it
  -- saw, and of every name that it saw under this number, or its load saw the number of the refusal, which is greater
  abbrev pub AnswersCheck : Seated m → Heard → Seated m → Type 0
  AnswersCheck me Held after = (e : E) × (after ≡ (with_step (entered_view m me.0 e) (token_index me.0.count me.0.place) 0, (me.0.place, Edition (Some e)) ∷ me.1)) × (m.number e ≡ me.0.part.held) × SeenUpTo me.0.part (m.number e)
      × SeenAs me.0.part (m.number e) (m.name e)
  AnswersCheck me (Revoked s) after = (after ≡ (with_step (refused_view me.0 s) (token_index me.0.count me.0.place) s, me.1)) × (me.0.part.held < s)
  AnswersCheck me Drained after = ⊥
  AnswersCheck me NotOut after = ⊥
  AnswersCheck me (Number s) after = ⊥
  AnswersCheck me Nothing after = ⊥

  -- a drain: its load saw an even tracker, and the processor's edition, the last published one, is in hand, or it saw an odd one
  abbrev pub AnswersDrain : Seated m → ℕ → Heard → Seated m → Type 0
  AnswersDrain me place Drained after = (found : ℕ) × (e : E) × (found % 2 ≡ 0) × (after ≡ (with_step (drained_view me.0 place) (tracker_index place) found, (place, Edition (Some e)) ∷ me.1)) × (m.number e ≡ me.0.number) × IsLast me.0 (m.name e) (m.tag e)
  AnswersDrain me place NotOut after = (found : ℕ) × (found % 2 ≡ 1) × (after ≡ (with_step me.0 (tracker_index place) found, me.1))
  AnswersDrain me place Held after = ⊥
  AnswersDrain me place (Revoked s) after = ⊥
  AnswersDrain me place (Number s) after = ⊥
  AnswersDrain me place Nothing after = ⊥

  -- one try for the lock behind: nobody had it, or the one try saw its holder
  abbrev pub AnswersBehindTry : Seated m → Tried → Seated m → Type 0
  AnswersBehindTry me Taken after = after ≡ (with_step (behind_taken me.0) behind_index 0, me.1)
  AnswersBehindTry me (HeldBy h) after = (after ≡ (with_step me.0 behind_index h, me.1)) × (h ≢ 0)

  -- one try for the book
  abbrev pub AnswersBookTry : Seated m → Tried → Seated m → Type 0
  AnswersBookTry me Taken after = (book : B) × (after ≡ (with_step (book_taken me.0 book) book_index 0, (0, Book (Some book)) ∷ me.1)) × FoundBy m me.0 book
  AnswersBookTry me (HeldBy h) after = (after ≡ (with_step me.0 book_index h, me.1)) × (h ≢ 0)

  -- a regain: the processor knows the number that it read, which is at least each refusal's, and no earlier than any that it saw
  abbrev pub AnswersRegain : Seated m → Seated m → Type 0
  AnswersRegain me after = (x : ℕ) → me.0.part.read ≡ Some x
      → (after ≡ (with_step (regained_view me.0 x) (token_index me.0.count me.0.place) 0, me.1)) × ((t : ℕ) → me.0.part.refusal ≡ Some t → t ≤ x) × SeenUpTo me.0.part x

  -- a reading of the number
  pub record AnswersNumberRead (me : Seated m) (number : ℕ) (after : Seated m) : Type 0 where
    pub step : after ≡ (with_step (number_read me.0 number) number_index number, me.1)
    pub operator : me.0.role ≡ Operator → number ≡ me.0.number
    pub processor : me.0.role ≡ Processor → me.0.part.held ≤ number
    pub seen : me.0.role ≡ Processor → SeenUpTo me.0.part number
