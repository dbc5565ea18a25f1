-- The table at the opening meets the rule.
use Rattle.std.proofs.Common.{◌≡◌, ◌≢◌, inr, ℕ, zero, suc, ◌+◌, ◌-◌, ◌^◌, ◌<◌, ◌≤◌, Bool, false, Some, None, List, [], ◌∷◌, map, length, length-set, refl, sym, ◌∙◌, ap, arith, subst, append-nil, ne_eqb}
use Rattle.std.specs.Prelude.{slice_get, slice_index, replicate, if◌then◌else◌}
use Rattle.std.proofs.lemmas.List.{length-replicate, length-map, get_or-set_same, get_or-set_other}
use mathlib.Core.Option as at
use lib.ListN.{get_elem?}
use Rattle.atomic_table.specs.Table.{opening}
use Rattle.rm_core.specs.declared.processor_state.Token.TheVariants.{Held}
use Rattle.rm_core.specs.declared.processor_state.ProcessorState.{ProcessorState}
use Rattle.rm_core.specs.CoreState.{Safe, Fits, idle, opening as core_opening, core_state_of}
use Rattle.rm_core.proofs.OneRun.{Safe-opening, Fits-opening}
use Rattle.rm_table.specs.declared.padded_slot.Slot.{Slot}
use Rattle.rm_table.specs.declared.padded_slot.Slot.TheVariants.{Edition, Book}
use Rattle.rm_table.specs.declared.part.Part.{Part}
use Rattle.rm_table.specs.declared.view.View.{View}
use Rattle.rm_table.specs.Layout.{index_of_word, word_count, number_index, behind_index, book_index, tracker_index, token_index}
use Rattle.rm_table.specs.Meanings.{Meanings, values_from}
use Rattle.rm_table.specs.Rule.{WholeState, core_of, LockWords, Current, KeptAt, OperatorKeeps, Agrees, Shows, Whole}
use Rattle.rm_table.specs.Moves.{KeepsPart}
use Rattle.rm_table.specs.Ends.{first_words, first_slots, first_part, first_view, OpensTable}
use Rattle.rm_table.proofs.Base.{get_within, at_slice, length-values, values_at, found_there}
use Rattle.rm_table.proofs.Publishing.{flag_of-replicate}

zero_of-replicate : (n k : ℕ) → slice_index (replicate n 0) k ≡ 0
zero_of-replicate zero k = refl
zero_of-replicate (suc n) zero = refl
zero_of-replicate (suc n) (suc k) = zero_of-replicate n k

values-same : {A : Type 0} (x : A) (from n : ℕ) → values_from (λ _. x) from n ≡ replicate n x
values-same x from zero = refl
values-same x from (suc n) = ap (λ (ys : List _). x ∷ ys) (values-same x (suc from) n)

first_words_are : (n number : ℕ) → LockWords n number 0 0 (λ k. 0) (λ k. 0) (first_words n number)
first_words_are n number =
    let ws : List ℕ = replicate (word_count n) 0 in
    let zeros : (i : ℕ) → i ≢ 0 → slice_index (first_words n number) i ≡ 0 = λ i other. get_or-set_other ws number_index i number 0 other ∙ zero_of-replicate (word_count n) i in
    record {
      size = length-set ws number_index number ∙ length-replicate (word_count n) 0;
      number_is = get_or-set_same ws number_index number 0 (let e : length ws ≡ word_count n = length-replicate (word_count n) 0 in omega arith);
      behind_is = zeros behind_index (λ clash. absurd (omega arith));
      book_is = zeros book_index (λ clash. absurd (omega arith));
      trackers = λ k low high. zeros (tracker_index k) (λ clash. absurd (omega arith));
      tokens = λ k low high. zeros (token_index n k) (λ clash. absurd (omega arith));
      between = λ w k inside low high. zeros (index_of_word w + k) (λ clash. absurd (omega arith));
    }

-- a table opens with as many words as its processors need
pub count_of_first_words : (n number : ℕ) → length (first_words n number) ≡ word_count n
count_of_first_words n number = (first_words_are n number).size

-- a table opens with a slot for each edition, and one for the book
pub count_of_first_slots : {E B : Type 0} (book : B) (editions : List E) → length (first_slots book editions) ≡ length editions + 1
count_of_first_slots {E} {B} book editions = let slot : E → Slot E B = λ e. Edition (Some e) in let e : length (map (λ e. Edition (Some e)) editions) ≡ length editions = length-map editions slot in omega arith

-- an element of a list whose elements are all at home
home_of-map : {A : Type 0} (xs : List A) (k : ℕ) (h : at.Option A) → get_elem? (map at.some xs) k ≡ at.some h → (x : A) × (h ≡ at.some x) × (slice_get xs k ≡ Some x)
home_of-map [] k h e = absurd (at.some-ne-none h (sym e))
home_of-map (x ∷ xs) zero h e = (x, sym (at.some-injective (at.some x) h e), refl)
home_of-map (x ∷ xs) (suc k) h e = home_of-map xs k h e

edition_of-map : {E B : Type 0} (es : List E) (k : ℕ) (y : Slot E B) → slice_get (map (λ e. Edition (Some e)) es) k ≡ Some y → (e : E) × (y ≡ Edition (Some e)) × (slice_get es k ≡ Some e)
edition_of-map [] k y is = absurd cc
edition_of-map (e ∷ es) zero y is = (e, cc, refl)
edition_of-map (e ∷ es) (suc k) y is = edition_of-map es k y is

module _ {E B T L I : Type 0} (m : Meanings E B T L I) where
  -- what words, slots and the opening seat show
  abbrev pub first_core : ℕ → E → B → WholeState E B T L I
  first_core n edition book = record {
    number = m.book_number book;
    count = n;
    behind = None;
    state = λ _. idle;
    seat = λ _. 0;
    part = first_part m book;
    holder = 0;
    book = book;
    stale = false;
    ready = false;
    opened = m.book_number book;
    history = (m.name edition, m.book_tag book) ∷ [];
    name = m.name edition;
    tag = m.book_tag book;
    own = m.of book 0;
  }

  -- the table at the opening shows its first state by the rule
  opening_shows : (editions : List E) (edition : E) (book : B) → OpensTable m editions edition book → m.book_number book < 2 ^ 64
      → Shows m (first_core (length editions) edition book) (opening (first_words (length editions) (m.book_number book)) (first_slots book editions) (first_view m (length editions) edition book))
  opening_shows editions edition book opens fits =
      let n : ℕ = length editions in
      let number : ℕ = m.book_number book in
      let c : WholeState E B T L I = first_core n edition book in
      let core_is : core_of c ≡ core_opening n number = ap (λ (ps : List ProcessorState). core_state_of number None ps) (values-same idle 1 n) in
      let v : View E B T L I = first_view m n edition book in
      let opened : number - number ≡ 0 = omega arith in
      record {
        words = first_words_are n number;
        sound = record {
          safe = subst Safe (sym core_is) (Safe-opening n number);
          fits = subst Fits (sym core_is) (Fits-opening n number opens.some_there fits);
          holder = λ h never. absurd cc;
        };
        past = record {
          begun = omega arith;
          counts = refl;
          last = ap (λ (k : ℕ). get_elem? ((m.name edition, m.book_tag book) ∷ []) k) opened;
        };
        slots = record {
          size = length-map (first_slots book editions) (λ (y : Slot E B). at.some y) ∙ sizes editions;
          home = λ k y low high is. home_at k y low is;
          away = λ k low high is. let got = home_of-map (first_slots book editions) k at.none is in absurd (at.some-ne-none got.0 (sym got.1));
          book_home = λ y is. at.some-injective y (Book (Some book)) (sym (at.some-injective (at.some (Book (Some book))) (at.some y) is));
          book_away = λ is. let got = home_of-map (first_slots book editions) 0 at.none is in absurd (at.some-ne-none got.0 (sym got.1));
        };
        insides = record {
          reading = λ k low high never. absurd cc;
          pairs = λ k low high j x l is. absurd (at.some-ne-none (x, l) (sym is));
        };
        desk = record {
          inside = λ free. absurd (free refl);
          writer = λ never. absurd cc;
          number_is = λ _. refl;
          tag_is = λ _. refl;
        };
        lists = record {
          lists = λ k low high. refl;
          list_0 = λ _. refl;
          begins = λ k low high. ([], sym (append-nil (m.of book 0)));
        };
        numbers = record {
          held = λ k p is held. refl;
          revoked = λ k p is s revoked. let found = found_there c k p is in let clash : Held ≡ p.token = ap (λ (q : ProcessorState). q.token) found.2 in absurd cc;
          read = λ k x within never. absurd cc;
          refusal = λ k x never. absurd cc;
        };
        readiness = λ never. absurd cc;
        seats = record { processors = λ k low high. (v, refl, inr (refl, first_kept k low high)); operator = (v, refl, refl) };
        each = only;
      }
    where
      sizes : (es : List E) → length (first_slots book es) ≡ length es + 1
      sizes es = let slot : E → Slot E B = λ e. Edition (Some e) in let e : length (map (λ e. Edition (Some e)) es) ≡ length es = length-map es slot in omega arith

      home_at : (k : ℕ) (y : Slot E B) → 0 < k → get_elem? (map at.some (first_slots book editions)) k ≡ at.some (at.some y) → (e : E) × (y ≡ Edition (Some e)) × Current m (m.book_number book) (m.name edition) (m.book_tag book) e
      home_at zero y low is = absurd (omega arith)
      home_at (suc k) y low is =
          let got = home_of-map (map (λ e. Edition (Some e)) editions) k (at.some y) is in
          let same : y ≡ got.0 = at.some-injective y got.0 got.1 in
          let e = edition_of-map editions k got.0 got.2 in
          let all = opens.same k e.0 e.2 in
          (e.0, same ∙ e.1, record { number_is = all.0; name_is = all.1; tag_is = all.2 })

      v : View E B T L I
      v = first_view m (length editions) edition book

      c : WholeState E B T L I
      c = first_core (length editions) edition book

      kept_at : (k : ℕ) (part : Part E L I) → get_elem? (None ∷ values_from (λ place. Some (first_part m book place)) 1 (length editions)) k ≡ at.some (Some part)
          → KeptAt m (first_core (length editions) edition book) 0 false k part
      kept_at zero part is = let clash : None ≡ Some part = at.some-injective None (Some part) is in absurd cc
      kept_at (suc j) part is =
          let inside : j < length editions = let h = get_within (values_from (λ place. Some (first_part m book place)) 1 (length editions)) j (Some part) is in omega (arith, length-values (λ place. Some (first_part m book place)) 1 (length editions)) in
          let one : Some (Some part) ≡ Some (Some (first_part m book (1 + j))) = sym (at_slice (values_from (λ place. Some (first_part m book place)) 1 (length editions)) j (Some part) is) ∙ values_at (λ place. Some (first_part m book place)) 1 (length editions) j inside in
          let same : part ≡ first_part m book (1 + j) = cc in
          let place : 1 + j ≡ suc j = omega arith in
          record {
            low = omega arith;
            high = omega arith;
            seat = refl;
            part_is = same ∙ ap (first_part m book) place;
            out = refl;
            behind = refl;
            fresh = λ _. (ap (λ (p : Part E L I). p.sections) same, refl);
          }

      first_kept : (k : ℕ) → 0 < k → k ≤ length editions → KeepsPart (first_view m (length editions) edition book) k
      first_kept zero low high = absurd (omega arith)
      first_kept (suc j) low high = (first_part m book (1 + j), values_at (λ place. Some (first_part m book place)) 1 (length editions) j (omega arith))

      first_keeps : OperatorKeeps m (first_core (length editions) edition book) 0 (first_view m (length editions) edition book)
      first_keeps = record {
        place = refl;
        number = refl;
        opened = refl;
        history = refl;
        own = refl;
        ready = refl;
        stale = refl;
        revoked_size = length-replicate (length editions + 1) false;
        drained_size = length-replicate (length editions + 1) false;
        kept_size = let e = length-values (λ place. Some (first_part m book place)) 1 (length editions) in omega arith;
        revoked = λ k low high. flag_of-replicate (length editions + 1) k;
        drained = λ k low high. flag_of-replicate (length editions + 1) k;
        kept = kept_at;
      }

      only : (id : ℕ) (u : View E B T L I) → get_elem? (first_view m (length editions) edition book ∷ []) id ≡ at.some u → Agrees m (first_core (length editions) edition book) id u
      only zero u is =
          subst (λ (x : View E B T L I). Agrees m (first_core (length editions) edition book) 0 x) (at.some-injective (first_view m (length editions) edition book) u is) (record {
            live = λ _. record { count = refl; low = omega arith; high = omega arith; seat = refl; phase = refl; part = refl; behind = refl; book = sym (ap (λ (b : Bool). if b then Some book else None) (ne_eqb 0 (length editions + 1) (λ clash. absurd (omega arith)))) };
            processor = λ never. absurd cc;
            operator = λ _. first_keeps;
            receipt = λ never. absurd cc;
          })
      only (suc id) u is = absurd (at.some-ne-none u (sym is))

  -- the same, where what it stands for is known by equations
  pub opens_whole : (editions : List E) (edition : E) (book : B) (n : ℕ) (words : List ℕ) (slots : List (Slot E B)) (e : E) (b : B) → OpensTable m editions edition book → m.book_number book < 2 ^ 64
      → n ≡ length editions → words ≡ first_words (length editions) (m.book_number book) → slots ≡ first_slots book editions → e ≡ edition → b ≡ book → Whole m (opening words slots (first_view m n e b))
  opens_whole editions edition book n words slots e b opens fits n_is words_are slots_are e_is b_is =
      let P : (ℕ → List ℕ → List (Slot E B) → E → B → Type 0) = λ n ws ss x y. Whole m (opening ws ss (first_view m n x y)) in
      subst (λ (x : ℕ). P x words slots e b) (sym n_is)
      (subst (λ (x : List ℕ). P (length editions) x slots e b) (sym words_are)
      (subst (λ (x : List (Slot E B)). P (length editions) (first_words (length editions) (m.book_number book)) x e b) (sym slots_are)
      (subst (λ (x : E). P (length editions) (first_words (length editions) (m.book_number book)) (first_slots book editions) x b) (sym e_is)
      (subst (λ (x : B). P (length editions) (first_words (length editions) (m.book_number book)) (first_slots book editions) edition x) (sym b_is)
      (first_core (length editions) edition book, opening_shows editions edition book opens fits)))))
