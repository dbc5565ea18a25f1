-- A publication: the operator's hand and the book.
use Rattle.std.proofs.Common.{◌≡◌, ◌≢◌, inl, ℕ, zero, suc, ◌+◌, ◌-◌, ◌<◌, Some, None, Option, List, [], ◌∷◌, ◌++◌, length, refl, sym, ◌∙◌, ap, subst, arith}
use Rattle.std.specs.Prelude.{slice_get, replicate}
use Rattle.std.proofs.lemmas.List.{length-replicate}
use Rattle.rm_core.proofs.Changes.{same_of-replicate}
use Rattle.atomic_table.specs.Table.{Me, rest, turned}
use Rattle.rm_core.specs.declared.event.Heard.{Heard}
use Rattle.rm_core.specs.declared.event.Heard.TheVariants.{Drained}
use Rattle.rm_table.specs.declared.view.Role.TheVariants.{Operator}
use Rattle.rm_table.specs.declared.lock_steps.Tried.{Tried}
use Rattle.rm_table.specs.declared.lock_steps.Tried.TheVariants.{Taken}
use Rattle.rm_table.specs.declared.padded_slot.Slot.{Slot}
use Rattle.rm_table.specs.declared.padded_slot.Slot.TheVariants.{Edition, Book}
use Rattle.rm_table.specs.declared.view.View.{View}
use Rattle.rm_table.specs.Meanings.{Meanings}
use Rattle.rm_table.specs.Moves.{Hand, with_step, published_view, published_as, joined_view, rest_from, editions_from, HasNext, HasBook, LeftByOperator, AllJoined}
use Rattle.rm_table.specs.Answers.{AnswersDrain, AnswersBookTry}
use Rattle.rm_table.specs.Rests.{IsAtRest, IsRejoinedFrom}
use Rattle.rm_table.proofs.Resting.{after_join, rejoined_closing, all_joined}

-- the last of a list with one more at its end
last_of : {A : Type 0} (xs : List A) (x : A) (i : ℕ) → length xs ≡ i → slice_get (xs ++ x ∷ []) i ≡ Some x
last_of [] x zero is = refl
last_of [] x (suc i) is = absurd (omega arith)
last_of (y ∷ ys) x zero is = absurd (omega arith)
last_of (y ∷ ys) x (suc i) is = last_of ys x i (omega arith)

module _ {E B T L I : Type 0} where
  -- the book, out of its slot and in again, lies behind the editions
  pub written_hand : (s0 s1 s2 s3 : Me (Slot E B) (View E B T L I)) (hand : Hand E B) (b : B) (v : View E B T L I) → s0.1 ≡ hand → s1 ≡ (v, (0, Book None) ∷ s0.1) → s2 ≡ (s1.0, (0, Book (Some b)) ∷ rest s1.1) → s3 ≡ (s2.0, turned s2.1)
      → s3 ≡ (v, turned ((0, Book (Some b)) ∷ hand))
  written_hand s0 s1 s2 s3 hand b v e0 e1 e2 e3 = e3 ∙ ap (λ (s : Me (Slot E B) (View E B T L I)). (s.0, turned s.1)) (e2 ∙ ap (λ (s : Me (Slot E B) (View E B T L I)). (s.0, (0, Book (Some b)) ∷ rest s.1)) (e1 ∙ ap (λ (h : Hand E B). (v, (0, Book None) ∷ h)) e0))

  -- once the first place is joined, all are
  pub joined_all : (v : View E B T L I) (hand : Hand E B) → 0 < v.count → IsRejoinedFrom 1 v hand → AllJoined v
  joined_all v hand some r = let c = rejoined_closing v hand some r in all_joined v c.0 c.1

  -- with one processor, one join joins all
  pub join_one : (old new : Me (Slot E B) (View E B T L I)) (w : View E B T L I) → new ≡ (joined_view old.0 w, old.1) → w.place ≡ 1 → old.0.count ≡ 1 → IsAtRest old.0 old.1 → AllJoined new.0
  join_one old new w is at one rests =
      let all : AllJoined (joined_view old.0 w) = joined_all (joined_view old.0 w) old.1 (omega (arith, one)) (after_join 1 old (joined_view old.0 w, old.1) w refl at (omega (arith, one)) (λ _. w.part, inl (omega (arith, one), rests))) in
      subst (λ (s : Me (Slot E B) (View E B T L I)). AllJoined s.0) (sym is) all

  -- the second processor's seat is joined, and then the first's
  pub join_two : (old mid new : Me (Slot E B) (View E B T L I)) (second first : View E B T L I) → mid ≡ (joined_view old.0 second, old.1) → new ≡ (joined_view mid.0 first, mid.1) → second.place ≡ 2 → first.place ≡ 1 → old.0.count ≡ 2 → IsAtRest old.0 old.1 → AllJoined new.0
  join_two old mid new second first is_mid is at_second at_first two rests =
      let count : mid.0.count ≡ 2 = ap (λ (s : Me (Slot E B) (View E B T L I)). s.0.count) is_mid ∙ two in
      let r : IsRejoinedFrom 2 mid.0 mid.1 = after_join 2 old mid second is_mid at_second (omega (arith, two)) (λ _. second.part, inl (omega (arith, two), rests)) in
      let q : IsRejoinedFrom 1 new.0 new.1 = after_join 1 mid new first is at_first (omega (arith, count)) r in
      let some : 0 < new.0.count = let e : new.0.count ≡ mid.0.count = ap (λ (s : Me (Slot E B) (View E B T L I)). s.0.count) is in omega (arith, e, count) in
      joined_all new.0 new.1 some q

  module _ (m : Meanings E B T L I) where
    -- a drain that found the processor out brought its edition on top of the hand
    pub edition_on_top : (me : Me (Slot E B) (View E B T L I)) (place : ℕ) (heard : Heard) (after : Me (Slot E B) (View E B T L I)) → heard ≡ Drained → AnswersDrain m me place heard after → (old : Option E) × (after.1 ≡ (place, Edition old) ∷ rest after.1)
    edition_on_top me place heard after is looked =
        let d : AnswersDrain m me place Drained after = subst (λ (h : Heard). AnswersDrain m me place h after) is looked in
        (Some d.1, subst (λ (s : Me (Slot E B) (View E B T L I)). s.1 ≡ (place, Edition (Some d.1)) ∷ rest s.1) (sym d.3) refl)

    -- a try that took the book brought it on top of the hand
    pub book_on_top : (me : Me (Slot E B) (View E B T L I)) (tried : Tried) (after : Me (Slot E B) (View E B T L I)) → tried ≡ Taken → AnswersBookTry m me tried after → (old : Option B) × (after.1 ≡ (0, Book old) ∷ rest after.1)
    book_on_top me tried after is step =
        let d : AnswersBookTry m me Taken after = subst (λ (t : Tried). AnswersBookTry m me t after) is step in
        (Some d.0, subst (λ (s : Me (Slot E B) (View E B T L I)). s.1 ≡ (0, Book (Some d.0)) ∷ rest s.1) (sym d.1) refl)

    -- one edition in the slots of all k processors
    pub next_of : (s : Me (Slot E B) (View E B T L I)) (v : View E B T L I) (n : E) (b : B) (k : ℕ) (hand : Hand E B) → s ≡ (v, hand) → hand ≡ editions_from 1 (replicate k n) ((0, Book (Some b)) ∷ []) → v.count ≡ k → m.number n ≡ v.number + 1 → HasNext m s.0 s.1
    next_of s v n b k hand is all count next = subst (λ (s : Me (Slot E B) (View E B T L I)). HasNext m s.0 s.1) (sym is) (record {
      editions = replicate k n;
      others = (0, Book (Some b)) ∷ [];
      count = length-replicate k n ∙ sym count;
      hand_is = all;
      name = m.name n;
      tag = m.tag n;
      same = λ j e at. let alike = same_of-replicate n e k j at in (ap m.number alike ∙ next, ap m.name alike, ap m.tag alike);
    })

    -- the seat after the publication
    pub published_of : (s : Me (Slot E B) (View E B T L I)) (v : View E B T L I) (n : E) (b : B) (k : ℕ) (others : Hand E B) (i x : ℕ) (new : Me (Slot E B) (View E B T L I)) → s ≡ (v, (1, Edition (Some n)) ∷ others) → rest_from k ((1, Edition (Some n)) ∷ others) ≡ (0, Book (Some b)) ∷ [] → v.count ≡ k
        → new ≡ (with_step (published_view m s.0 s.1) i x, rest_from s.0.count s.1) → new ≡ (with_step (published_as m v (m.name n) (m.tag n)) i x, (0, Book (Some b)) ∷ [])
    published_of s v n b k others i x new is left count e = e ∙ ap (λ (s : Me (Slot E B) (View E B T L I)). (with_step (published_view m s.0 s.1) i x, rest_from s.0.count s.1)) is ∙ ap (λ (k : ℕ). (with_step (published_as m v (m.name n) (m.tag n)) i x, rest_from k ((1, Edition (Some n)) ∷ others))) count
        ∙ ap (λ (h : Hand E B). (with_step (published_as m v (m.name n) (m.tag n)) i x, h)) left

    -- a book that has taken the publication in
    left_written : (v : View E B T L I) (n : E) (taken b : B) (i x : ℕ) → v.opened + length v.history ≡ v.number + 1 → m.book_number b ≡ v.number + 1 → m.tag n ≡ m.book_tag b → m.of taken 0 ≡ v.own → m.of b 0 ≡ m.of taken 0 ++ m.item (m.tag n) ∷ []
        → ((k : ℕ) → k ≢ 0 → m.of b k ≡ m.of taken k) → LeftByOperator m (with_step (published_as m v (m.name n) (m.tag n)) i x) taken b
    left_written v n taken b i x counts number tag own item others = record {
      number = number;
      tag = λ fresh. absurd cc;
      tag_published = λ stale. (m.name n, last_of v.history (m.name n, m.tag n) (v.number + 1 - v.opened) (omega arith) ∙ ap (λ (g : T). Some (m.name n, g)) tag);
      list_0 = item ∙ ap (λ (xs : List I). xs ++ m.item (m.tag n) ∷ []) own;
      lists = others;
      ready = λ fresh. absurd cc;
    }

    -- after its publication the operator has in hand a book that has taken it in
    pub has_written : (v : View E B T L I) (n : E) (taken b : B) (i x : ℕ) (new : Me (Slot E B) (View E B T L I)) → new ≡ (with_step (published_as m v (m.name n) (m.tag n)) i x, (0, Book (Some b)) ∷ []) → v.role ≡ Operator → v.book ≡ Some taken
        → v.opened + length v.history ≡ v.number + 1 → m.book_number b ≡ v.number + 1 → m.tag n ≡ m.book_tag b → m.of taken 0 ≡ v.own → m.of b 0 ≡ m.of taken 0 ++ m.item (m.tag n) ∷ []
        → ((k : ℕ) → k ≢ 0 → m.of b k ≡ m.of taken k) → HasBook m new.0 new.1
    has_written v n taken b i x new e role has counts number tag own item others = subst (λ (s : Me (Slot E B) (View E B T L I)). HasBook m s.0 s.1) (sym e) (record {
      book = b;
      hand_is = refl;
      taken = taken;
      book_taken = has;
      processor = λ other. let clash = sym role ∙ other in absurd cc;
      operator = λ same. left_written v n taken b i x counts number tag own item others;
    })
