-- Waiting: tries and looks at one word, of which only the last changes anything.
use Rattle.std.proofs.Common.{◌≡◌, inl, inr, ℕ, ◌≤◌, Bool, Option, Some, None, List, [], ◌∷◌, refl, sym, ◌∙◌, ap, subst}
use Rattle.atomic_table.specs.Table.{Me, rest}
use Rattle.atomic_table.specs.Seated.{TableId}
use Rattle.rm_table.specs.declared.view.Role.TheVariants.{Processor}
use Rattle.rm_table.specs.declared.padded_slot.Slot.{Slot}
use Rattle.rm_table.specs.declared.padded_slot.Slot.TheVariants.{Book}
use Rattle.rm_table.specs.declared.lock_steps.Tried.TheVariants.{Taken}
use Rattle.rm_table.specs.declared.view.View.{View}
use Rattle.rm_table.specs.Layout.{number_index, behind_index, token_index}
use Rattle.rm_table.specs.Meanings.{Meanings}
use Rattle.rm_table.specs.Moves.{Hand, with_step, behind_taken, behind_given, number_read, regained_view, SeenUpTo, IsOperator, IsWorking, FoundBy}
use Rattle.rm_table.specs.Answers.{AnswersNumberRead, AnswersRegain, AnswersBookTry}
use Rattle.rm_lock.specs.Tokens.{TokenState, IsInBy}
use Rattle.rm_lock.specs.Calls.{waited_view, after_taking_behind, after_taking_book, Regains, TakesBook}

module _ {E B : Type 0} where
  -- the book on top of the hand
  abbrev book_on_top : B → Hand E B → B
  book_on_top b [] = b
  book_on_top b ((k, Book (Some c)) ∷ h) = c
  book_on_top b (x ∷ h) = b

module _ {E B T L I : Type 0} where
  -- since `old`, the seat has only looked at that word
  abbrev pub Waiting : ℕ → Me (Slot E B) (View E B T L I) → Me (Slot E B) (View E B T L I) → Type 0
  Waiting i old s = (others : List ℕ) × (s ≡ (waited_view old.0 i others, old.1))

  -- one more look
  pub waits_on : (i h : ℕ) (old s new : Me (Slot E B) (View E B T L I)) → Waiting i old s → new ≡ (with_step s.0 i h, s.1) → Waiting i old new
  waits_on i h old s new w e = (h ∷ w.0, e ∙ ap (λ (z : Me (Slot E B) (View E B T L I)). (with_step z.0 i h, z.1)) w.1)

  operator_on : (i h : ℕ) (v : View E B T L I) → IsOperator v → IsOperator (with_step v i h)
  operator_on i h v o = record { role = o.role; split = o.split }

  working_on : (i h : ℕ) (v : View E B T L I) → IsWorking v → IsWorking (with_step v i h)
  working_on i h v (inl p) = inl p
  working_on i h v (inr o) = inr (operator_on i h v o)

  -- after a look at a word a seat that was at work still is
  pub works_on : (i h : ℕ) (s new : Me (Slot E B) (View E B T L I)) → IsWorking s.0 → new ≡ (with_step s.0 i h, s.1) → IsWorking new.0
  works_on i h s new w e = subst (λ (z : Me (Slot E B) (View E B T L I)). IsWorking z.0) (sym e) (working_on i h s.0 w)

  -- after a look at a word the operator is the operator still
  pub operates_on : (i h : ℕ) (s new : Me (Slot E B) (View E B T L I)) → IsOperator s.0 → new ≡ (with_step s.0 i h, s.1) → IsOperator new.0
  operates_on i h s new w e = subst (λ (z : Me (Slot E B) (View E B T L I)). IsOperator z.0) (sym e) (operator_on i h s.0 w)

  module _ (m : Meanings E B T L I) where
    -- One try that took the lock behind: the token is back.
    pub regains_at_once : (token : TokenState E B T L I) (table : TableId) (s0 s1 s2 s3 s4 : Me (Slot E B) (View E B T L I)) (number : ℕ) → record { table_id = table; view = s0.0 } ≡ token → s0.0.role ≡ Processor → s1 ≡ (with_step (behind_taken s0.0) behind_index 0, s0.1)
        → AnswersNumberRead m s1 number s2 → AnswersRegain m s2 s3 → s4 ≡ (with_step (behind_given s3.0) behind_index 0, s3.1) → (r : Regains token.view s4.0) × (r.others ≡ [])
    regains_at_once token table s0 s1 s2 s3 s4 number is role taken n step given =
        let read : s2 ≡ (with_step (number_read (after_taking_behind s0.0 []) number) number_index number, s0.1) = n.step ∙ ap (λ (s : Me (Slot E B) (View E B T L I)). (with_step (number_read s.0 number) number_index number, s.1)) taken in
        let got = step number (ap (λ (s : Me (Slot E B) (View E B T L I)). s.0.part.read) read) in
        let back : s3 ≡ (with_step (regained_view s2.0 number) (token_index s2.0.count s2.0.place) 0, s2.1) = got.0 in
        let processor : s1.0.role ≡ Processor = ap (λ (s : Me (Slot E B) (View E B T L I)). s.0.role) taken ∙ role in
        let regains : Regains s0.0 s4.0 = record {
          others = [];
          number = number;
          after_is =
              ap (λ (s : Me (Slot E B) (View E B T L I)). s.0) given
              ∙ ap (λ (s : Me (Slot E B) (View E B T L I)). with_step (behind_given s.0) behind_index 0) back
              ∙ ap (λ (s : Me (Slot E B) (View E B T L I)). with_step (behind_given (with_step (regained_view s.0 number) (token_index s.0.count s.0.place) 0)) behind_index 0) read;
          refusals = λ t standing. got.1 t (ap (λ (s : Me (Slot E B) (View E B T L I)). s.0.part.refusal) read ∙ standing);
          held = subst (λ (s : Me (Slot E B) (View E B T L I)). s.0.part.held ≤ number) taken (n.processor processor);
          seen = subst (λ (s : Me (Slot E B) (View E B T L I)). SeenUpTo s.0.part number) taken (n.seen processor);
        } in
        subst (λ (u : TokenState E B T L I). (r : Regains u.view s4.0) × (r.others ≡ [])) is (regains, refl)

    -- One try that took the book.
    pub takes_book_at_once : (token : TokenState E B T L I) (table : TableId) (s0 s1 s2 : Me (Slot E B) (View E B T L I)) (book : B) (place : ℕ) (refused : Bool) (edition : E) → record { table_id = table; view = s0.0 } ≡ token → IsInBy m.number place refused edition s0.0 s0.1
        → AnswersBookTry m s0 Taken s1 → s1.1 ≡ (0, Book (Some book)) ∷ rest s1.1 → s2 ≡ (s1.0, (0, Book None) ∷ rest s1.1) → (t : TakesBook m token.view s2.0 book) × (t.others ≡ [])
    takes_book_at_once token table s0 s1 s2 book place refused edition is i step was now =
        let same : step.0 ≡ book = ap (λ (h : Hand E B). book_on_top book h) (sym (ap (λ (s : Me (Slot E B) (View E B T L I)). s.1) step.1) ∙ was) in
        let found : FoundBy m s0.0 book = subst (λ (b : B). FoundBy m s0.0 b) same step.2 in
        let read = found.edition i.processor in
        let takes : TakesBook m s0.0 s2.0 book = record {
          others = [];
          after_is = ap (λ (s : Me (Slot E B) (View E B T L I)). s.0) now ∙ ap (λ (s : Me (Slot E B) (View E B T L I)). s.0) step.1 ∙ ap (λ (b : B). after_taking_book s0.0 [] b) same;
          number = read.2 ∙ ap (λ (o : Option E). number_of o) (sym read.1 ∙ i.reading) ∙ i.number_is;
          edition = read.0;
          reading = read.1;
          tag = read.3;
          own = found.own i.processor;
          first = found.first i.processor;
        } in
        subst (λ (u : TokenState E B T L I). (t : TakesBook m u.view s2.0 book) × (t.others ≡ [])) is (takes, refl)
      where
        number_of : Option E → ℕ
        number_of None = 0
        number_of (Some e) = m.number e
