-- A processor's entry in the book, and the book given back.
use Rattle.std.proofs.Common.{◌≡◌, ◌≢◌, ℕ, ◌-◌, ◌^◌, ◌<◌, Option, Some, None, [], ◌∷◌, length, refl, sym, ◌∙◌, ap, subst, arith}
use Rattle.std.specs.Prelude.{slice_index_or, slice_set, replicate, nat_lt}
use Rattle.std.proofs.lemmas.List.{get_or-set_other}
use Rattle.atomic_table.specs.Table.{Me, rest}
use Rattle.rm_table.specs.declared.view.Role.TheVariants.{Processor}
use Rattle.rm_table.specs.declared.padded_slot.Slot.{Slot}
use Rattle.rm_table.specs.declared.padded_slot.Slot.TheVariants.{Edition as Home, Book as Held}
use Rattle.rm_table.specs.declared.view.View.{View}
use Rattle.rm_table.specs.Layout.{book_index}
use Rattle.rm_table.specs.Meanings.{Meanings, meanings}
use Rattle.rm_table.specs.Moves.{Hand, with_step, book_taken, book_given, HasBook, LeftBy}
use Rattle.rm_table.specs.Rests.{IsInSection}
use Rattle.lock_bench.specs.declared.edition.Edition.{Edition}
use Rattle.lock_bench.specs.declared.book.Book.{Book}
use Rattle.lock_bench.specs.contracts.edition.EditionNumbered.TheImpl as edition
use Rattle.lock_bench.specs.contracts.book.BookKept.TheImpl as ledger

-- what a seat knows here
abbrev pub KnownSeat : Type 0
KnownSeat = Me (Slot Edition Book) (View Edition Book ℕ ℕ ℕ)

-- what editions and books are to the lock here
abbrev pub means : Meanings Edition Book ℕ ℕ ℕ
means = meanings edition.ghosts ledger.ghosts

-- one entry more in one list leaves the other lists
entry_leaves : (place length : ℕ) (taken book : Book) → 0 < place → book.number ≡ taken.number → book.lengths ≡ slice_set taken.lengths place length → LeftBy means place taken book
entry_leaves place length taken book above number lengths = record {
  number = number;
  tag = number;
  lists = λ k other. ap (λ n. replicate n 0) (same k other);
  ready = λ was. ap (λ n. nat_lt n (2 ^ 64 - 1)) (same 0 (λ e. absurd (omega arith))) ∙ was;
}
  where
    same : (k : ℕ) → k ≢ place → slice_index_or book.lengths k 0 ≡ slice_index_or taken.lengths k 0
    same k other = ap (λ xs. slice_index_or xs k 0) lengths ∙ get_or-set_other taken.lengths place k length 0 other

-- the seat that took the book, and put the changed one into its slot
pub has_entered : (old taken_seat seat : KnownSeat) (taken book : Book) (place length : ℕ) → old.0.role ≡ Processor → old.0.place ≡ place → 0 < place → taken_seat ≡ (with_step (book_taken old.0 taken) book_index 0, (0, Held None) ∷ old.1) → book.number ≡ taken.number → book.lengths ≡ slice_set taken.lengths place length
    → seat ≡ (taken_seat.0, (0, Held (Some book)) ∷ rest taken_seat.1) → HasBook means seat.0 seat.1
has_entered old taken_seat seat taken book place length processor at above is number lengths then =
    let e : seat ≡ (with_step (book_taken old.0 taken) book_index 0, (0, Held (Some book)) ∷ old.1) = then ∙ ap (λ (s : KnownSeat). (s.0, (0, Held (Some book)) ∷ rest s.1)) is in
    subst (λ (s : KnownSeat). HasBook means s.0 s.1) (sym e) (record {
      book = book;
      hand_is = refl;
      taken = taken;
      book_taken = refl;
      processor = λ _. subst (λ (p : ℕ). LeftBy means p taken book) (sym at) (entry_leaves place length taken book above number lengths);
      operator = λ other. let clash = sym processor ∙ other in absurd cc;
    })

-- the seat once the book is given back
pub seat_after_entry : (old taken_seat seat new : KnownSeat) (taken book : Book) → taken_seat ≡ (with_step (book_taken old.0 taken) book_index 0, (0, Held None) ∷ old.1) → seat ≡ (taken_seat.0, (0, Held (Some book)) ∷ rest taken_seat.1)
    → ((b : Book) → seat.1 ≡ (0, Held (Some b)) ∷ rest seat.1 → new ≡ (with_step (book_given means seat.0 b) book_index 0, rest seat.1)) → new ≡ (with_step (book_given means (with_step (book_taken old.0 taken) book_index 0) book) book_index 0, old.1)
seat_after_entry old taken_seat seat new taken book is then step =
    let e : seat ≡ (with_step (book_taken old.0 taken) book_index 0, (0, Held (Some book)) ∷ old.1) = then ∙ ap (λ (s : KnownSeat). (s.0, (0, Held (Some book)) ∷ rest s.1)) is in
    step book (ap (λ (s : KnownSeat). s.1) then ∙ ap (λ (h : Hand Edition Book). (0, Held (Some book)) ∷ h) (sym (ap (λ (s : KnownSeat). rest s.1) then)))
    ∙ ap (λ (s : KnownSeat). (with_step (book_given means s.0 book) book_index 0, rest s.1)) e

-- it is in its section as before
pub inside_again : (old new : KnownSeat) (taken book : Book) → IsInSection old.0 old.1 → new ≡ (with_step (book_given means (with_step (book_taken old.0 taken) book_index 0) book) book_index 0, old.1) → IsInSection new.0 new.1
inside_again old new taken book o e = subst (λ (s : KnownSeat). IsInSection s.0 s.1) (sym e) (record {
  processor = o.processor;
  inside = o.inside;
  unheld = o.unheld;
  bookless = refl;
  edition = o.edition;
  hand_is = o.hand_is;
  reading = o.reading;
})

-- who is in has its edition on top of its hand
pub edition_on_top : (me : KnownSeat) (place : ℕ) → IsInSection me.0 me.1 → me.0.place ≡ place → (old : Option Edition) × (me.1 ≡ (place, Home old) ∷ rest me.1)
edition_on_top me place o at =
    let shown : Hand Edition Book = (place, Home (Some o.edition)) ∷ [] in
    let is : me.1 ≡ shown = o.hand_is ∙ ap (λ (p : ℕ). (p, Home (Some o.edition)) ∷ []) at in
    (Some o.edition, is ∙ ap (λ (h : Hand Edition Book). (place, Home (Some o.edition)) ∷ h) (sym (ap (λ (h : Hand Edition Book). rest h) is)))
