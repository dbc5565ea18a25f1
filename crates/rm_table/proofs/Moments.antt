-- What words, slots and views show at every moment between two steps.
use Rattle.std.proofs.Common.{◌≡◌, ◌≢◌, ℕ, suc, ◌+◌, ◌-◌, ◌<◌, ◌≤◌, ◌⊎◌, inl, inr, Bool, true, false, Option, Some, None, List, [], ◌∷◌, ◌++◌, length, refl, sym, ◌∙◌, ap, arith, subst, ⊎_elim, eq-eqb}
use Rattle.std.specs.Prelude.{slice_get, slice_index, if◌then◌else◌, ◌==◌}
use Rattle.std.proofs.lemmas.Bool.{eqb-true}
use mathlib.Core.Option as at
use lib.ListN.{get_elem?}
use Rattle.atomic_table.specs.Table.{State}
use Rattle.rm_core.specs.declared.processor_state.Phase.TheVariants.{Out, In}
use Rattle.rm_core.proofs.Changes.{All-processor_of}
use Rattle.rm_table.specs.declared.view.Role.TheVariants.{Processor, Operator}
use Rattle.rm_table.specs.declared.padded_slot.Slot.{Slot}
use Rattle.rm_table.specs.declared.part.Part.{Part}
use Rattle.rm_table.specs.declared.view.View.{View}
use Rattle.rm_table.specs.Layout.{number_index, behind_index, holder_word, is_held_by}
use Rattle.rm_table.specs.Meanings.{Meanings, numbered_names, BeginsWith}
use Rattle.rm_table.specs.Moves.{IsLast}
use Rattle.rm_table.specs.Rule.{WholeState, core_of, Live, KeptAt, OperatorKeeps, IsSeatOf, Shows}
use Rattle.rm_table.specs.Moments.{HasSeat, IsReader, IsCountedOut, ReadsPublished, ReadingLaw, StayingLaw, HomeLaw, AwayLaw, ApartLaw, SeatLaw, OperatorLaw, PlaceLaw, BehindLaw, BookLaw, SeenLaw, PrefixLaw, HeardLaw}
use Rattle.rm_table.proofs.Base.{there, get_within, at_slice, slice_at}
use Rattle.rm_table.proofs.Own.{in_history}

module _ {L T : Type 0} where
  -- the last pair of a numbered history
  last_numbered : (from : ℕ) (history : List (L × T)) (number : ℕ) → from + length history ≡ number + 1 → 0 < length history → (j : ℕ) × (name : L) × (slice_get (numbered_names from history) j ≡ Some (number, name))
  last_numbered from [] number counts some = absurd (omega arith)
  last_numbered from (x ∷ []) number counts some = let e : from ≡ number = omega arith in (0, x.0, ap (λ (n : ℕ). Some (n, x.0)) e)
  last_numbered from (x ∷ y ∷ ys) number counts some = let got = last_numbered (from + 1) (y ∷ ys) number (omega arith) (omega arith) in (suc got.0, got.1, got.2)

-- what stands in the second of two lists stands in both together
pub get_behind : {A : Type 0} (xs ys : List A) (j : ℕ) (a : A) → slice_get ys j ≡ Some a → slice_get (xs ++ ys) (length xs + j) ≡ Some a
get_behind {A} [] ys j a is = let e : length {A = A} [] + j ≡ j = omega arith in ap (λ (k : ℕ). slice_get ys k) e ∙ is
get_behind (x ∷ xs) ys j a is = let e : length (x ∷ xs) + j ≡ suc (length xs + j) = omega arith in ap (λ (k : ℕ). slice_get (x ∷ (xs ++ ys)) k) e ∙ get_behind xs ys j a is

module _ {E B T L I : Type 0} (m : Meanings E B T L I) where
  module _ (c : WholeState E B T L I) (t : State (Slot E B) (View E B T L I)) (shows : Shows m c t) where
    -- the published number is word 0
    number_word : c.number ≡ slice_index t.words number_index
    number_word = sym shows.words.number_is

    live_at : (id : ℕ) (v : View E B T L I) → HasSeat t id v → (v.role ≡ Processor) ⊎ (v.role ≡ Operator) → Live m c id v
    live_at id v is_at somebody = (shows.each id v is_at).live somebody

    within_at : (id : ℕ) (v : View E B T L I) → HasSeat t id v → v.role ≡ Processor → v.place ≤ c.count
    within_at id v is_at role = (shows.each id v is_at).processor role

    keeps_at : (id : ℕ) (o : View E B T L I) → HasSeat t id o → o.role ≡ Operator → OperatorKeeps m c id o
    keeps_at id o is_at role = (shows.each id o is_at).operator role

    last_at : (id : ℕ) (o : View E B T L I) → HasSeat t id o → o.role ≡ Operator → IsLast o c.name c.tag
    last_at id o is_at role =
        let k : OperatorKeeps m c id o = keeps_at id o is_at role in
        ap (λ (xs : List (L × T)). slice_get xs (o.number - o.opened)) k.history ∙ ap (λ (n : ℕ). slice_get c.history (n - o.opened)) k.number ∙ ap (λ (n : ℕ). slice_get c.history (c.number - n)) k.opened
        ∙ at_slice c.history (c.number - c.opened) (c.name, c.tag) shows.past.last

    -- a processor that is in reads the published edition
    pub reads : (id : ℕ) (v : View E B T L I) → HasSeat t id v → v.role ≡ Processor → v.phase ≡ In → ReadsPublished m t v
    reads id v is_at role inside =
        let l : Live m c id v = live_at id v is_at (inl role) in
        let got = shows.insides.reading v.place l.low (within_at id v is_at role) (sym l.phase ∙ inside) in
        record {
          edition = got.0;
          reading = ap (λ (p : Part E L I). p.reading) l.part ∙ got.1;
          number = got.2.number_is ∙ number_word;
          last = λ i o there role. (
            (keeps_at i o there role).number ∙ sym got.2.number_is,
            last_at i o there role ∙ ap (λ (n : L). Some (n, c.tag)) (sym got.2.name_is) ∙ ap (λ (g : T). Some (m.name got.0, g)) (sym got.2.tag_is),
          );
        }

    -- a processor of the core that is in has its own seat
    reader_at : (k : ℕ) → 0 < k → k ≤ c.count → (c.state k).phase ≡ In → IsReader t k
    reader_at k low high inside =
        let got = shows.seats.processors k low high in
        ⊎_elim
        (λ own. (c.seat k, got.0, got.1, own.0, own.1, (live_at (c.seat k) got.0 got.1 (inl own.0)).phase ∙ ap (λ (j : ℕ). (c.state j).phase) own.1 ∙ inside))
        (λ kept.
        let q : KeptAt m c (c.seat k) (got.0).closing k kept.1.0 = (keeps_at (c.seat k) got.0 got.1 kept.0).kept k kept.1.0 (slice_at (got.0).kept k (Some kept.1.0) kept.1.1) in
        let clash : Out ≡ In = sym q.out ∙ inside in absurd cc)
        got.2

    -- an edition away from its slot is with its processor, which is in, or that processor is counted out
    pub away : (k : ℕ) → 0 < k → get_elem? t.homes k ≡ at.some at.none → IsReader t k ⊎ IsCountedOut t k
    away k low is =
        let high : k ≤ c.count = let h = get_within t.homes k at.none is in let s = shows.slots.size in omega arith in
        ⊎_elim
        (λ inside. inl (reader_at k low high inside))
        (λ flag. let o = shows.seats.operator in inr (c.seat (c.count + 1), o.0, o.1, o.2, (keeps_at (c.seat (c.count + 1)) o.0 o.1 o.2).drained k low high ∙ flag))
        (shows.slots.away k low high is)

    -- no processor is in and counted out
    pub apart : (k : ℕ) → 0 < k → k < length t.homes → IsReader t k → IsCountedOut t k → ⊥
    apart k low below reader counted =
        let high : k ≤ c.count = let s = shows.slots.size in omega arith in
        let l : Live m c reader.0 reader.1 = live_at reader.0 reader.1 reader.2 (inl reader.3) in
        let inside : (c.state k).phase ≡ In = ap (λ (j : ℕ). (c.state j).phase) (sym reader.4) ∙ sym l.phase ∙ reader.5 in
        let flag : (c.state k).drained ≡ true = sym ((keeps_at counted.0 counted.1 counted.2 counted.3).drained k low high) ∙ counted.4 in
        All-processor_of (λ q. q.drained ≡ true → q.phase ≢ In) (core_of c) k (c.state k) shows.sound.safe.outside (there c k low high) flag inside

    -- the seat that a word names
    named : (k : ℕ) → 0 < k → k ≤ c.count + 1 → (id : ℕ) × (v : View E B T L I) × HasSeat t id v × (((v.role ≡ Operator) × (v.place ≡ k)) ⊎ ((k ≤ c.count) × IsSeatOf v k))
    named k low high = by_operator (k == c.count + 1) refl
      where
        by_operator : (b : Bool) → (k == c.count + 1) ≡ b → (id : ℕ) × (v : View E B T L I) × HasSeat t id v × (((v.role ≡ Operator) × (v.place ≡ k)) ⊎ ((k ≤ c.count) × IsSeatOf v k))
        by_operator true is =
            let o = shows.seats.operator in
            let same : k ≡ c.count + 1 = eqb-true k (c.count + 1) is in
            (c.seat (c.count + 1), o.0, o.1, inl (o.2, (keeps_at (c.seat (c.count + 1)) o.0 o.1 o.2).place ∙ sym same))
        by_operator false is =
            let other : k ≢ c.count + 1 = λ same. let clash : true ≡ false = sym (eq-eqb k (c.count + 1) same) ∙ is in absurd cc in
            let within : k ≤ c.count = grind (arith, other, high) in
            let got = shows.seats.processors k low within in
            (c.seat k, got.0, got.1, inr (within, got.2))

    -- the holder of the lock behind has a seat whose view says so
    pub behind : (h : ℕ) → c.behind ≡ Some h → (id : ℕ) × (v : View E B T L I) × HasSeat t id v × ((v.role ≡ Processor) ⊎ (v.role ≡ Operator)) × (v.place ≡ h) × (v.behind ≡ true)
    behind h is =
        let bounds = shows.sound.holder h is in
        let got = named h bounds.0 bounds.1 in
        ⊎_elim
        (λ operator. (got.0, got.1, got.2, inr operator.0, operator.1, held got.0 got.1 got.2 (inr operator.0) operator.1))
        (λ processor. ⊎_elim
        (λ own. (got.0, got.1, got.2, inl own.0, own.1, held got.0 got.1 got.2 (inl own.0) own.1))
        (λ kept.
        let q : KeptAt m c got.0 (got.1).closing h kept.1.0 = (keeps_at got.0 got.1 got.2 kept.0).kept h kept.1.0 (slice_at (got.1).kept h (Some kept.1.0) kept.1.1) in
        let clash : true ≡ false = sym (holds h) ∙ q.behind in absurd cc)
        processor.1)
        got.3
      where
        holds : (k : ℕ) → is_held_by c.behind h ≡ true
        holds k = ap (λ (o : Option ℕ). is_held_by o h) is ∙ eq-eqb h h refl

        held : (id : ℕ) (v : View E B T L I) → HasSeat t id v → (v.role ≡ Processor) ⊎ (v.role ≡ Operator) → v.place ≡ h → v.behind ≡ true
        held id v is_at somebody place = (live_at id v is_at somebody).behind ∙ ap (is_held_by c.behind) place ∙ holds h

    -- the book's holder has a seat with the book: of a processor that is in, or the operator's
    pub book : c.holder ≢ 0 → (id : ℕ) × (v : View E B T L I) × HasSeat t id v × (((v.role ≡ Processor) × (v.phase ≡ In)) ⊎ (v.role ≡ Operator)) × (v.place ≡ c.holder) × ((book : B) × (v.book ≡ Some book))
    book taken = by_operator (c.holder == c.count + 1) refl
      where
        has : (id : ℕ) (v : View E B T L I) → HasSeat t id v → (v.role ≡ Processor) ⊎ (v.role ≡ Operator) → v.place ≡ c.holder → (book : B) × (v.book ≡ Some book)
        has id v is_at somebody place = (c.book, (live_at id v is_at somebody).book ∙ ap (λ (b : Bool). if b then Some c.book else None) (eq-eqb c.holder v.place (sym place)))

        by_operator : (b : Bool) → (c.holder == c.count + 1) ≡ b
            → (id : ℕ) × (v : View E B T L I) × HasSeat t id v × (((v.role ≡ Processor) × (v.phase ≡ In)) ⊎ (v.role ≡ Operator)) × (v.place ≡ c.holder) × ((book : B) × (v.book ≡ Some book))
        by_operator true is =
            let o = shows.seats.operator in
            let same : c.holder ≡ c.count + 1 = eqb-true c.holder (c.count + 1) is in
            let place = (keeps_at (c.seat (c.count + 1)) o.0 o.1 o.2).place ∙ sym same in
            (c.seat (c.count + 1), o.0, o.1, inr o.2, place, has (c.seat (c.count + 1)) o.0 o.1 (inr o.2) place)
        by_operator false is =
            let at_desk = shows.desk.inside taken (λ same. let clash : true ≡ false = sym (eq-eqb c.holder (c.count + 1) same) ∙ is in absurd cc) in
            let r = reader_at c.holder (grind (arith, taken)) at_desk.0 at_desk.1 in
            (r.0, r.1, r.2, inl (r.3, r.5), r.4, has r.0 r.1 r.2 (inl r.3) r.4)

  -- each processor that is in reads what is published
  pub reading_holds : ReadingLaw m
  reading_holds t whole id v is_at role inside = reads whole.0 t whole.1 id v is_at role inside

  -- while a processor is in and reads one edition, the published number stays
  pub staying_holds : StayingLaw m
  staying_holds t u at_t at_u id v w v_at w_at v_role w_role v_in w_in same =
      let one = reads at_t.0 t at_t.1 id v v_at v_role v_in in
      let two = reads at_u.0 u at_u.1 id w w_at w_role w_in in
      let both : Some one.edition ≡ Some two.edition = sym one.reading ∙ same ∙ two.reading in
      let edition : one.edition ≡ two.edition = cc in
      sym one.number ∙ ap m.number edition ∙ two.number

  -- an edition in its slot is of the published number
  pub home_holds : HomeLaw m
  home_holds t whole k y low is =
      let high : k ≤ (whole.0).count = let h = get_within t.homes k (at.some y) is in let s = whole.1.slots.size in omega arith in
      let got = whole.1.slots.home k y low high is in
      (got.0, got.1, got.2.number_is ∙ sym whole.1.words.number_is)

  -- an edition is away from its slot only with its processor, or with the operator
  pub away_holds : AwayLaw m
  away_holds t whole k low is = away whole.0 t whole.1 k low is

  -- no processor is in and counted as drained
  pub apart_holds : ApartLaw m
  apart_holds t whole k low below reader counted = apart whole.0 t whole.1 k low below reader counted

  -- each processor has a seat of its own, or the operator's keeps its place
  pub seat_holds : SeatLaw m
  seat_holds t whole k low below =
      let got = whole.1.seats.processors k low (let s = whole.1.slots.size in omega arith) in
      ((whole.0).seat k, got.0, got.1, got.2)

  -- there is an operator's seat, with the last place
  pub operator_holds : OperatorLaw m
  operator_holds t whole =
      let o = whole.1.seats.operator in
      let k : OperatorKeeps m whole.0 ((whole.0).seat ((whole.0).count + 1)) o.0 = (whole.1.each ((whole.0).seat ((whole.0).count + 1)) o.0 o.1).operator o.2 in
      ((whole.0).seat ((whole.0).count + 1), o.0, o.1, o.2, k.place ∙ sym whole.1.slots.size)

  -- no place has two seats
  pub place_holds : PlaceLaw m
  place_holds t whole i j v w v_at w_at v_is w_is same = sym ((whole.1.each i v v_at).live v_is).seat ∙ ap (whole.0).seat same ∙ ((whole.1.each j w w_at).live w_is).seat

  -- the word of the lock behind is 0, or names the seat that holds it
  pub behind_holds : BehindLaw m
  behind_holds t whole taken = by_holder (whole.0).behind refl
    where
      by_holder : (o : Option ℕ) → (whole.0).behind ≡ o
          → (id : ℕ) × (v : View E B T L I) × HasSeat t id v × ((v.role ≡ Processor) ⊎ (v.role ≡ Operator)) × (v.place ≡ slice_index t.words behind_index) × (v.behind ≡ true)
      by_holder None is = absurd (taken (whole.1.words.behind_is ∙ ap holder_word is))
      by_holder (Some h) is =
          let got = behind whole.0 t whole.1 h is in
          (got.0, got.1, got.2, got.3, got.4 ∙ sym (whole.1.words.behind_is ∙ ap holder_word is), got.5)

  -- the book's word is 0, or names the seat that has the book
  pub book_holds : BookLaw m
  book_holds t whole taken =
      let got = book whole.0 t whole.1 (λ free. taken (whole.1.words.book_is ∙ free)) in
      (got.0, got.1, got.2, got.3, got.4 ∙ sym whole.1.words.book_is, got.5)

  -- each number and name that a processor has seen is in the operator's history and published
  pub seen_holds : SeenLaw m
  seen_holds t whole id i v o v_at o_at v_role o_role j x name is =
      let c : WholeState E B T L I = whole.0 in
      let l : Live m c id v = (whole.1.each id v v_at).live (inl v_role) in
      let k : OperatorKeeps m c i o = (whole.1.each i o o_at).operator o_role in
      let found = whole.1.insides.pairs v.place l.low ((whole.1.each id v v_at).processor v_role) j x name (ap (λ (p : Part E L I). get_elem? p.pairs j) (sym l.part) ∙ slice_at v.part.pairs j (x, name) is) in
      let most : x ≤ c.number = in_history m c t whole.1 x name found in (
        let e = k.opened in let low = found.0 in omega arith,
        let e = whole.1.words.number_is in omega arith,
        (found.1.0, ap (λ (xs : List (L × T)). slice_get xs (x - o.opened)) k.history ∙ ap (λ (n : ℕ). slice_get c.history (x - n)) k.opened ∙ at_slice c.history (x - c.opened) (name, found.1.0) found.1.1),
      )

  -- the operator's history begins with that of each receipt
  pub told_holds : PrefixLaw m
  told_holds t whole id i r o r_at o_at r_role o_role =
      let c : WholeState E B T L I = whole.0 in
      let k : OperatorKeeps m c i o = (whole.1.each i o o_at).operator o_role in
      let p = (whole.1.each id r r_at).receipt r_role in
      (p.opened_is ∙ sym k.opened, p.begun, p.counts, subst (λ (h : List (L × T)). BeginsWith h r.history) (sym k.history) p.prefix)

  -- a processor that has heard a receipt has seen the receipt's number
  pub heard_holds : HeardLaw m
  heard_holds v r number begun counts seen =
      let got = last_numbered r.opened r.history r.number counts (omega arith) in
      seen (length v.part.pairs + got.0) r.number got.1 (get_behind v.part.pairs (numbered_names r.opened r.history) got.0 (r.number, got.1) got.2)
