-- The book given back, by a processor and by the operator.
use Rattle.std.proofs.Common.{◌≡◌, inr, ℕ, Bool, false, Some, ◌∷◌, refl, sym, ◌∙◌, ap, subst}
use Rattle.atomic_table.specs.Table.{Me, rest}
use Rattle.atomic_table.specs.Seated.{TableId}
use Rattle.rm_table.specs.declared.padded_slot.Slot.{Slot}
use Rattle.rm_table.specs.declared.padded_slot.Slot.TheVariants.{Book}
use Rattle.rm_table.specs.declared.view.View.{View}
use Rattle.rm_table.specs.Layout.{book_index}
use Rattle.rm_table.specs.Meanings.{Meanings}
use Rattle.rm_table.specs.Moves.{Hand, with_step, book_given, HasBook, IsWorking}
use Rattle.rm_table.proofs.Base.{some_of}
use Rattle.rm_lock.specs.Tokens.{BookTokenState, HoldsBy, IsInBy, KeepsBy, IsAtRestBy}
use Rattle.rm_lock.specs.Calls.{IsAsTaken, IsAsFound, after_giving_book}

module _ {E B T L I : Type 0} (m : Meanings E B T L I) where
  -- the seat once the book is in its slot and given back
  given : (s0 s1 s2 : Me (Slot E B) (View E B T L I)) (book : B) → s1 ≡ (s0.0, (0, Book (Some book)) ∷ rest s0.1) → ((b : B) → s1.1 ≡ (0, Book (Some b)) ∷ rest s1.1 → s2 ≡ (with_step (book_given m s1.0 b) book_index 0, rest s1.1))
      → s2 ≡ (after_giving_book m s0.0 book, rest s0.1)
  given s0 s1 s2 book e1 step =
      step book (subst (λ (s : Me (Slot E B) (View E B T L I)). s.1 ≡ (0, Book (Some book)) ∷ rest s.1) (sym e1) refl)
      ∙ ap (λ (s : Me (Slot E B) (View E B T L I)). (with_step (book_given m s.0 book) book_index 0, rest s.1)) e1

  -- what the token knows then
  pub gave : (token : BookTokenState E B T L I) (table : TableId) (s0 s1 s2 : Me (Slot E B) (View E B T L I)) (book : B) → record { table_id = table; view = s0.0; book = book } ≡ token → s1 ≡ (s0.0, (0, Book (Some book)) ∷ rest s0.1)
      → ((b : B) → s1.1 ≡ (0, Book (Some b)) ∷ rest s1.1 → s2 ≡ (with_step (book_given m s1.0 b) book_index 0, rest s1.1)) → s2.0 ≡ after_giving_book m token.view token.book
  gave token table s0 s1 s2 book is e1 step = ap (λ (s : Me (Slot E B) (View E B T L I)). s.0) (given s0 s1 s2 book e1 step) ∙ ap (λ (t : BookTokenState E B T L I). after_giving_book m t.view t.book) is

  -- a processor that gives the book back has it on top of its hand, with its own list alone changed
  pub holder_has : (token : BookTokenState E B T L I) (table : TableId) (s0 s1 : Me (Slot E B) (View E B T L I)) (book : B) (place : ℕ) (refused : Bool) (edition : E) → record { table_id = table; view = s0.0; book = book } ≡ token → HoldsBy m.number place refused edition s0.0 s0.1
      → IsAsTaken m token.view token.book → s1 ≡ (s0.0, (0, Book (Some book)) ∷ rest s0.1) → HasBook m s1.0 s1.1
  holder_has token table s0 s1 book place refused edition is h left e1 =
      let taken = some_of s0.0.book h.taken in
      let was : IsAsTaken m s0.0 book = subst (λ (t : BookTokenState E B T L I). IsAsTaken m t.view t.book) (sym is) left in
      subst (λ (s : Me (Slot E B) (View E B T L I)). HasBook m s.0 s.1) (sym e1) (record {
        book = book;
        hand_is = refl;
        taken = taken.0;
        book_taken = taken.1;
        processor = λ _. was taken.0 taken.1;
        operator = λ other. let clash = sym h.processor ∙ other in absurd cc;
      })

  -- a processor that gave the book back is in its section as before
  pub in_again : (s0 s1 s2 : Me (Slot E B) (View E B T L I)) (book : B) (place : ℕ) (refused : Bool) (edition : E) → HoldsBy m.number place refused edition s0.0 s0.1 → s1 ≡ (s0.0, (0, Book (Some book)) ∷ rest s0.1)
      → ((b : B) → s1.1 ≡ (0, Book (Some b)) ∷ rest s1.1 → s2 ≡ (with_step (book_given m s1.0 b) book_index 0, rest s1.1)) → IsInBy m.number place refused edition s2.0 s2.1
  in_again s0 s1 s2 book place refused edition h e1 step = subst (λ (s : Me (Slot E B) (View E B T L I)). IsInBy m.number place refused edition s.0 s.1) (sym (given s0 s1 s2 book e1 step)) (record {
    processor = h.processor;
    inside = h.inside;
    unheld = h.unheld;
    bookless = refl;
    hand_is = ap (λ (x : Hand E B). rest x) h.hand_is;
    reading = h.reading;
    place_is = h.place_is;
    number_is = h.number_is;
    told_is = h.told_is;
    refused_is = h.refused_is;
  })

  -- the operator that has the book is at work
  pub keeper_works : (s0 s1 : Me (Slot E B) (View E B T L I)) (book : B) (processors number : ℕ) → KeepsBy m processors number s0.0 s0.1 → s1 ≡ (s0.0, (0, Book (Some book)) ∷ rest s0.1) → IsWorking s1.0
  keeper_works s0 s1 book processors number k e1 = subst (λ (s : Me (Slot E B) (View E B T L I)). IsWorking s.0) (sym e1) (inr (record { role = k.at_rest.operator.role; split = k.at_rest.operator.split }))

  -- the operator that gives the book back has it on top of its hand, as it was found
  pub keeper_has : (token : BookTokenState E B T L I) (table : TableId) (s0 s1 : Me (Slot E B) (View E B T L I)) (book : B) (processors number : ℕ) → record { table_id = table; view = s0.0; book = book } ≡ token → KeepsBy m processors number s0.0 s0.1
      → IsAsFound m token.view token.book → s1 ≡ (s0.0, (0, Book (Some book)) ∷ rest s0.1) → HasBook m s1.0 s1.1
  keeper_has token table s0 s1 book processors number is k left e1 =
      let was : IsAsFound m s0.0 book = subst (λ (t : BookTokenState E B T L I). IsAsFound m t.view t.book) (sym is) left in
      let alone = was k.taken k.taken_is in
      let fresh : s0.0.stale ≡ false = k.at_rest.unpublished in
      subst (λ (s : Me (Slot E B) (View E B T L I)). HasBook m s.0 s.1) (sym e1) (record {
        book = book;
        hand_is = refl;
        taken = k.taken;
        book_taken = k.taken_is;
        processor = λ other. let clash = sym k.at_rest.operator.role ∙ other in absurd cc;
        operator = λ _. record {
          number = alone.number ∙ k.taken_number;
          tag = λ _. alone.tag;
          tag_published = λ stale. let clash = sym fresh ∙ stale in absurd cc;
          list_0 = alone.lists 0 ∙ k.taken_list;
          lists = λ i other. alone.lists i;
          ready = λ _. alone.ready;
        };
      })

  -- the operator that gave the book back is between two writes as before
  pub at_rest_again : (s0 s1 s2 : Me (Slot E B) (View E B T L I)) (book : B) (processors number : ℕ) → KeepsBy m processors number s0.0 s0.1 → s1 ≡ (s0.0, (0, Book (Some book)) ∷ rest s0.1)
      → ((b : B) → s1.1 ≡ (0, Book (Some b)) ∷ rest s1.1 → s2 ≡ (with_step (book_given m s1.0 b) book_index 0, rest s1.1)) → IsAtRestBy processors number s2.0 s2.1
  at_rest_again s0 s1 s2 book processors number k e1 step = subst (λ (s : Me (Slot E B) (View E B T L I)). IsAtRestBy processors number s.0 s.1) (sym (given s0 s1 s2 book e1 step)) (record {
    at_rest = record {
      operator = record { role = k.at_rest.operator.role; split = k.at_rest.operator.split };
      some = k.at_rest.some;
      unpublished = refl;
      kept_size = k.at_rest.kept_size;
      unheld = k.at_rest.unheld;
      bookless = refl;
      unrevoked = k.at_rest.unrevoked;
      undrained = k.at_rest.undrained;
      revoked_size = k.at_rest.revoked_size;
      drained_size = k.at_rest.drained_size;
      counts = k.at_rest.counts;
      empty_hand = ap (λ (x : Hand E B). rest x) k.hand_is;
    };
    begun = k.begun;
    few = k.few;
    count_is = k.count_is;
    number_is = k.number_is;
  })
