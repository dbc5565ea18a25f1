-- The publication, which sends every edition home.
use Rattle.std.proofs.Common.{◌≡◌, ◌≢◌, ℕ, zero, suc, ◌+◌, ◌-◌, ◌<◌, ◌≤◌, ◌⊎◌, inl, inr, Bool, true, false, Some, List, [], ◌∷◌, ◌++◌, length, length-set, length-append, refl, sym, ◌∙◌, ap, arith, subst, ⊎_elim, append_assoc}
use Rattle.std.specs.Prelude.{slice_set, slice_get, slice_index_or, replicate, nat_lt}
use Rattle.std.proofs.lemmas.List.{length-replicate}
use Rattle.std.proofs.lemmas.Bool.Decides.{nat_tests}
use mathlib.Core.Option as at
use lib.ListN.{get_elem?}
use Rattle.atomic_table.specs.Table.{State, gives, rest, Valid, homes_after, carried_after}
use Rattle.atomic_table.proofs.Lists.{at_set, at_longer, at_last}
use Rattle.rm_core.specs.declared.processor_state.Phase.TheVariants.{In}
use Rattle.rm_core.specs.declared.event.Event.TheVariants.{Publish}
use Rattle.rm_core.specs.declared.processor_state.ProcessorState.{ProcessorState}
use Rattle.rm_core.specs.CoreState.{MayCome, after, operator_of, with_flags_cleared}
use Rattle.rm_core.proofs.Changes.{All-processor_of}
use Rattle.rm_table.specs.declared.padded_slot.Slot.{Slot}
use Rattle.rm_table.specs.declared.padded_slot.Slot.TheVariants.{Edition}
use Rattle.rm_table.specs.declared.view.View.{View}
use Rattle.rm_table.specs.Layout.{number_index, holder_word}
use Rattle.rm_table.specs.Meanings.{Meanings, values_from}
use Rattle.rm_table.specs.Rule.{WholeState, core_of, LockWords, tracker_of, token_of, Current, Live, OperatorKeeps, Shows}
use Rattle.rm_table.specs.Moves.{Hand, with_step, published_as, published_view, HasNext, gives_first, rest_from, editions_from, AllDrained, IsOperator}
use Rattle.rm_table.proofs.Base.{all_values, values-map, length-values, there, at_slice, words_like, words_number}
use Rattle.rm_table.proofs.Keeping.{Beside, each_after, every_seat_after}
use Rattle.rm_table.proofs.Own.{sound_after, numbers_after}
use Rattle.rm_table.proofs.Locks.{no_receipt, book_holder}
use Rattle.rm_table.proofs.Writer.{writer_live, writer_keeps, holds_behind}

-- a false flag at each place
pub flag_of-replicate : (n k : ℕ) → slice_index_or (replicate n false) k false ≡ false
flag_of-replicate zero k = refl
flag_of-replicate (suc n) zero = refl
flag_of-replicate (suc n) (suc k) = flag_of-replicate n k

-- a number is below another, or not
apart_from : (k from : ℕ) → (k < from) ⊎ (from + 0 ≤ k)
apart_from k from = by_test (nat_lt k from) refl
  where
    by_test : (b : Bool) → nat_lt k from ≡ b → (k < from) ⊎ (from + 0 ≤ k)
    by_test true is = inl (grind (arith, nat_tests))
    by_test false is = inr (grind (arith, nat_tests))

module _ {E B : Type 0} where
  -- the first slots of a hand may always be given home
  pub valid_gives : (k : ℕ) (homes : List (at.Option (Slot E B))) (hand : Hand E B) → Valid homes hand (gives_first k)
  valid_gives zero homes hand = tt
  valid_gives (suc k) homes hand = (tt, valid_gives k (homes_after homes hand gives) (rest hand))

  -- once the first slots went home, the rest is in hand
  pub carried_gives : (k : ℕ) (hand : Hand E B) → carried_after hand (gives_first k) ≡ rest_from k hand
  carried_gives zero hand = refl
  carried_gives (suc k) hand = carried_gives k (rest hand)

  -- giving editions home leaves the number of slots
  gave_size : (es : List E) (from : ℕ) (homes : List (at.Option (Slot E B))) (hand : Hand E B) → length (homes_after homes (editions_from from es hand) (gives_first (length es))) ≡ length homes
  gave_size [] from homes hand = refl
  gave_size (e ∷ es) from homes hand = gave_size es (from + 1) (slice_set homes from (at.some (Edition (Some e)))) hand ∙ length-set homes from (at.some (Edition (Some e)))

  -- what a slot has after the editions were given
  gave_at : (P : E → Type 0) (es : List E) (from : ℕ) (homes : List (at.Option (Slot E B))) (hand : Hand E B) → ((j : ℕ) (e : E) → slice_get es j ≡ Some e → P e)
      → (k : ℕ) (h : at.Option (Slot E B)) → get_elem? (homes_after homes (editions_from from es hand) (gives_first (length es))) k ≡ at.some h
      → ((from ≤ k) × (k < from + length es) × ((e : E) × (h ≡ at.some (Edition (Some e))) × P e)) ⊎ (((k < from) ⊎ (from + length es ≤ k)) × (get_elem? homes k ≡ at.some h))
  gave_at P [] from homes hand all k h is = inr (apart_from k from, is)
  gave_at P (e ∷ es) from homes hand all k h is =
      ⊎_elim
      (λ new. let low = new.0 in let high = new.1 in inl (omega arith, omega arith, new.2))
      (λ old. ⊎_elim
      (λ here. let same = here.0 in inl (omega arith, omega arith, (e, sym here.1, all 0 e refl)))
      (λ other. let apart = other.0 in inr (⊎_elim (λ low. inl (below k from apart low)) (λ high. inr (omega arith)) old.0, other.1))
      (at_set homes from k (at.some (Edition (Some e))) h old.1))
      (gave_at P es (from + 1) (slice_set homes from (at.some (Edition (Some e)))) hand (λ j x got. all (suc j) x got) k h is)
    where
      below : (k from : ℕ) → k ≢ from → k < from + 1 → k < from
      below k from other low = grind (arith, other)

module _ {E B T L I : Type 0} (m : Meanings E B T L I) where
  -- what a publication changes
  abbrev pub published_core : WholeState E B T L I → L → T → WholeState E B T L I
  published_core c name tag = record c {
    number = c.number + 1;
    state = λ k. with_flags_cleared (c.state k);
    stale = true;
    ready = false;
    history = c.history ++ (name, tag) ∷ [];
    name = name;
    tag = tag;
    own = c.own ++ m.item tag ∷ [];
  }

  -- a publication is of the name and tag that the editions in hand have
  pub published_is : (v : View E B T L I) (hand : Hand E B) (h : HasNext m v hand) → 0 < v.count → published_view m v hand ≡ published_as m v h.name h.tag
  published_is v hand h some = by_first h.editions refl
    where
      by_first : (es : List E) → h.editions ≡ es → published_view m v hand ≡ published_as m v h.name h.tag
      by_first [] is = let c = h.count in let n : length h.editions ≡ 0 = ap length is in absurd (omega arith)
      by_first (e ∷ es) is =
          let front : hand ≡ (1, Edition (Some e)) ∷ editions_from (1 + 1) es h.others = h.hand_is ∙ ap (λ (xs : List E). editions_from 1 xs h.others) is in
          let same = h.same 0 e (ap (λ (xs : List E). slice_get xs 0) is) in
          ap (published_view m v) front ∙ ap (λ (l : L). published_as m v l (m.tag e)) same.1 ∙ ap (λ (g : T). published_as m v h.name g) same.2

  module _ (c : WholeState E B T L I) (t : State (Slot E B) (View E B T L I)) (id : ℕ) (v : View E B T L I) (shows : Shows m c t) (is_at : get_elem? t.views id ≡ at.some v) (writer : IsOperator v) where
    o_live : Live m c id v
    o_live = writer_live m c t id v shows is_at writer

    o_keeps : OperatorKeeps m c id v
    o_keeps = writer_keeps m c t id v shows is_at writer

    -- the state after a publication is what its event makes of the lock's core
    pub publish_event : (name : L) (tag : T) → core_of (published_core c name tag) ≡ after (core_of c) Publish
    publish_event name tag = ap (λ (ps : List ProcessorState). record (core_of c) { number = c.number + 1; processors = ps }) (values-map with_flags_cleared c.state 1 c.count)

    each_drained : AllDrained v → (k : ℕ) → 0 < k → k ≤ c.count → (c.state k).drained ≡ true
    each_drained drained k low high = sym (o_keeps.drained k low high) ∙ drained k low (let e = o_live.count in omega arith)

    -- the lock's core allows a publication once all are drained and the lock behind is held
    pub publish_may : AllDrained v → v.behind ≡ true → MayCome (core_of c) Publish
    publish_may drained behind = (
      holds_behind m c t id v shows is_at writer behind,
      all_values (λ p. p.drained ≡ true) c.state 1 c.count (λ k low high. each_drained drained k (omega arith) (omega arith)),
    )

    -- nobody is in at a publication
    pub nobody_in : AllDrained v → (k : ℕ) → 0 < k → k ≤ c.count → (c.state k).phase ≢ In
    nobody_in drained k low high = All-processor_of (λ q. q.drained ≡ true → q.phase ≢ In) (core_of c) k (c.state k) shows.sound.safe.outside (there c k low high) (each_drained drained k low high)

    -- after a publication the table shows a state by the rule
    pub publish_shows : (hand : Hand E B) (h : HasNext m v hand) (x : ℕ) (book : B) → AllDrained v → v.behind ≡ true → v.book ≡ Some book → x ≡ v.number + 1
        → Shows m (published_core c h.name h.tag) (record {
          words = slice_set t.words number_index x;
          homes = homes_after t.homes (editions_from 1 h.editions h.others) (gives_first (length h.editions));
          views = slice_set t.views id (with_step (published_as m v h.name h.tag) number_index x);
        })
    publish_shows hand h x book drained behind has is =
        let d : WholeState E B T L I = published_core c h.name h.tag in
        let w : View E B T L I = with_step (published_as m v h.name h.tag) number_index x in
        let l : Live m c id v = o_live in
        let o : OperatorKeeps m c id v = o_keeps in
        let n : v.count ≡ c.count = l.count in
        let number : v.number + 1 ≡ c.number + 1 = ap (λ (k : ℕ). k + 1) o.number in
        let P : E → Type 0 = Current m (c.number + 1) h.name h.tag in
        let all : (j : ℕ) (e : E) → slice_get h.editions j ≡ Some e → P e = λ j e got. let same = h.same j e got in record { number_is = same.0 ∙ number; name_is = same.1; tag_is = same.2 } in
        let holder : c.holder ≡ c.count + 1 = (book_holder m c t id v shows is_at (inr writer) book has).0 ∙ o.place in
        let beside : Beside c d v.place = record {
          count = refl;
          opened = refl;
          history = ((h.name, h.tag) ∷ [], refl);
          seat = λ k. refl;
          phase = λ k other. refl;
          part = λ k other. refl;
          behind = λ k other. refl;
          book = λ k other low. refl;
          operator = λ other. absurd (other o.place);
        } in
        record {
          words = subst (λ (k : ℕ). LockWords c.count (c.number + 1) (holder_word c.behind) c.holder (tracker_of d.state c.part) (token_of d.state) (slice_set t.words number_index k)) (sym (is ∙ number))
              (words_like (tracker_of d.state c.part) (token_of d.state) (λ k. refl) (λ k. refl) (words_number (c.number + 1) shows.words));
          sound = sound_after c d Publish (publish_event h.name h.tag) refl (publish_may drained behind) shows.sound.holder shows.sound;
          past = record {
            begun = let b = shows.past.begun in omega arith;
            counts = let p = shows.past.counts in omega (arith, length-append c.history ((h.name, h.tag) ∷ []));
            last = at_last c.history (h.name, h.tag) (c.number + 1 - c.opened) (let p = shows.past.counts in let b = shows.past.begun in omega arith);
          };
          slots = record {
            size = gave_size h.editions 1 t.homes h.others ∙ shows.slots.size;
            home = λ k y low high got. ⊎_elim
                (λ new. (new.2.0, at.some-injective y (Edition (Some new.2.0)) new.2.1, new.2.2))
                (λ old. let e = h.count in absurd (⊎_elim (λ below. omega arith) (λ above. omega arith) old.0))
                (gave_at P h.editions 1 t.homes h.others all k (at.some y) got);
            away = λ k low high got. ⊎_elim
                (λ new. absurd (at.some-ne-none (Edition (Some new.2.0)) (sym new.2.1)))
                (λ old. let e = h.count in absurd (⊎_elim (λ below. omega arith) (λ above. omega arith) old.0))
                (gave_at P h.editions 1 t.homes h.others all k at.none got);
            book_home = λ y got. ⊎_elim (λ new. let low = new.0 in absurd (omega arith)) (λ old. shows.slots.book_home y old.1) (gave_at P h.editions 1 t.homes h.others all 0 (at.some y) got);
            book_away = λ got. ⊎_elim (λ new. let low = new.0 in absurd (omega arith)) (λ old. shows.slots.book_away old.1) (gave_at P h.editions 1 t.homes h.others all 0 at.none got);
          };
          insides = record {
            reading = λ k low high inside. absurd (nobody_in drained k low high inside);
            pairs = λ k low high j y name got. let old = shows.insides.pairs k low high j y name got in
                (old.0, (old.1.0, at_longer c.history ((h.name, h.tag) ∷ []) (y - c.opened) (name, old.1.0) old.1.1));
          };
          desk = record {
            inside = λ taken processor. absurd (processor holder);
            writer = λ _. holder;
            number_is = λ never. absurd cc;
            tag_is = λ never. absurd cc;
          };
          lists = record {
            lists = shows.lists.lists;
            list_0 = λ never. absurd cc;
            begins = λ k low high. let old = shows.lists.begins k low high in
                (old.0 ++ m.item h.tag ∷ [], ap (λ (xs : List I). xs ++ m.item h.tag ∷ []) old.1 ∙ append_assoc (c.part k).first old.0 (m.item h.tag ∷ []));
          };
          numbers = numbers_after c d Publish (publish_event h.name h.tag) (publish_may drained behind) shows.sound (λ k. refl)
              (λ k y within holds read.
              let writing : c.behind ≡ Some (operator_of (core_of c)) = holds_behind m c t id v shows is_at writer behind in
              let same : k ≡ length (values_from c.state 1 c.count) + 1 = cc in
              absurd (omega (arith, length-values c.state 1 c.count)))
              (λ k y told. inl told) shows.numbers;
          readiness = λ never. absurd cc;
          seats = every_seat_after c.count c.seat t.views id v w is_at (λ k mine. mine) (λ role. role) shows.seats;
          each = each_after m c d v.place id w t.views shows.each l.seat beside (record {
            live = λ _. record {
              count = l.count;
              low = l.low;
              high = l.high;
              seat = l.seat;
              phase = l.phase;
              part = l.part;
              behind = l.behind;
              book = l.book;
            };
            processor = (shows.each id v is_at).processor;
            operator = λ role. record {
              place = o.place;
              number = number;
              opened = o.opened;
              history = ap (λ (xs : List (L × T)). xs ++ (h.name, h.tag) ∷ []) o.history;
              own = ap (λ (xs : List I). xs ++ m.item h.tag ∷ []) o.own;
              ready = refl;
              stale = refl;
              revoked_size = length-replicate (v.count + 1) false ∙ ap (λ (k : ℕ). k + 1) n;
              drained_size = length-replicate (v.count + 1) false ∙ ap (λ (k : ℕ). k + 1) n;
              kept_size = o.kept_size;
              revoked = λ k low high. flag_of-replicate (v.count + 1) k;
              drained = λ k low high. flag_of-replicate (v.count + 1) k;
              kept = λ k part got. absurd (writer.split.1 k part (at_slice v.kept k (Some part) got));
            };
            receipt = λ receipt. absurd (no_receipt m c t id v shows is_at (inr writer) receipt);
          });
        }
