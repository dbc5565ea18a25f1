-- The steps that take the book and give it back.
use Rattle.std.proofs.Common.{◌≡◌, ◌≢◌, ℕ, ◌+◌, ◌-◌, ◌<◌, ◌≤◌, inl, Bool, true, false, Option, Some, None, List, [], ◌∷◌, ◌++◌, length-set, refl, sym, ◌∙◌, ap, arith, subst, ⊎_elim, eq-eqb, ne_eqb}
use Rattle.std.specs.Prelude.{slice_set, if◌then◌else◌, ◌==◌}
use Rattle.std.proofs.lemmas.Bool.{eqb-true}
use mathlib.Core.Option as at
use lib.ListN.{get_elem?}
use Rattle.atomic_table.specs.Table.{State, stepped, takes, gives}
use Rattle.atomic_table.proofs.Lists.{at_set}
use Rattle.rm_core.specs.declared.processor_state.Phase.TheVariants.{In}
use Rattle.rm_core.specs.declared.event.Event.TheVariants.{ReadNumber}
use Rattle.rm_core.specs.declared.processor_state.ProcessorState.{ProcessorState}
use Rattle.rm_table.specs.declared.view.Role.TheVariants.{Processor, Operator}
use Rattle.rm_table.specs.declared.padded_slot.Slot.{Slot}
use Rattle.rm_table.specs.declared.padded_slot.Slot.TheVariants.{Book}
use Rattle.rm_table.specs.declared.part.Part.{Part}
use Rattle.rm_table.specs.declared.view.View.{View}
use Rattle.rm_table.specs.Layout.{book_index, tracker_word, holder_word}
use Rattle.rm_table.specs.Meanings.{Meanings, with_value_at, BeginsWith}
use Rattle.rm_table.specs.Rule.{WholeState, lent_book, LockWords, tracker_of, token_of, Slots, Desk, Lists, Live, OperatorKeeps, Shows}
use Rattle.rm_table.specs.Moves.{Hand, with_step, book_part, book_taken, given_part, book_given, FoundBy, LeftBy, LeftByOperator, AllDrained, IsOperator, IsWorking}
use Rattle.rm_table.proofs.Base.{put_here, put_else, at_put, put_keeps, at_slice, slice_at, words_like, words_book}
use Rattle.rm_table.proofs.Keeping.{Beside, begins_same, each_after, every_seat_after}
use Rattle.rm_table.proofs.Own.{numbers_after}
use Rattle.rm_table.proofs.Slots.{book_at_home}
use Rattle.rm_table.proofs.Locks.{no_receipt, working_live, book_holder, nothing_kept, operator_keeps}
use Rattle.rm_table.proofs.Writer.{last_known}
use Rattle.rm_table.proofs.Publishing.{nobody_in}

pos_of_ne : (n : ℕ) → n ≢ 0 → 0 < n
pos_of_ne n other = grind (arith, other)

-- what a step on the book changes
abbrev pub desk_core : {E B T L I : Type 0} → WholeState E B T L I → ℕ → ℕ → B → Bool → Bool → Part E L I → WholeState E B T L I
desk_core c p holder book stale ready a = record c { holder = holder; book = book; stale = stale; ready = ready; part = with_value_at c.part p a }

module _ {E B T L I : Type 0} (m : Meanings E B T L I) where
  -- the book is taken
  slots_book_taken : {number n : ℕ} {state : ℕ → ProcessorState} {name : L} {tag : T} {holder : ℕ} {book : B} {homes : List (at.Option (Slot E B))} (p : ℕ) → 0 < p
      → Slots m number n state name tag holder book homes → Slots m number n state name tag p book (slice_set homes 0 at.none)
  slots_book_taken {homes = homes} p low s = record {
    size = length-set homes 0 at.none ∙ s.size;
    home = λ k y above within is. ⊎_elim (λ same. let clash = same.0 in absurd (omega arith)) (λ other. s.home k y above within other.1) (at_set homes 0 k at.none (at.some y) is);
    away = λ k above within is. ⊎_elim (λ same. let clash = same.0 in absurd (omega arith)) (λ other. s.away k above within other.1) (at_set homes 0 k at.none at.none is);
    book_home = λ y is. ⊎_elim (λ same. absurd (at.some-ne-none y (sym same.1))) (λ other. absurd (other.0 refl)) (at_set homes 0 0 at.none (at.some y) is);
    book_away = λ _ free. absurd (omega arith);
  }

  -- the book is given back
  slots_book_given : {number n : ℕ} {state : ℕ → ProcessorState} {name : L} {tag : T} {holder : ℕ} {book : B} {homes : List (at.Option (Slot E B))} (holder' : ℕ) (y : B)
      → Slots m number n state name tag holder book homes → Slots m number n state name tag holder' y (slice_set homes 0 (at.some (Book (Some y))))
  slots_book_given {homes = homes} holder' y s = record {
    size = length-set homes 0 (at.some (Book (Some y))) ∙ s.size;
    home = λ k z above within is. ⊎_elim (λ same. let clash = same.0 in absurd (omega arith)) (λ other. s.home k z above within other.1) (at_set homes 0 k (at.some (Book (Some y))) (at.some z) is);
    away = λ k above within is. ⊎_elim (λ same. absurd (at.some-ne-none (Book (Some y)) same.1)) (λ other. s.away k above within other.1) (at_set homes 0 k (at.some (Book (Some y))) at.none is);
    book_home = λ z is. ⊎_elim (λ same. at.some-injective z (Book (Some y)) (sym same.1)) (λ other. absurd (other.0 refl)) (at_set homes 0 0 (at.some (Book (Some y))) (at.some z) is);
    book_away = λ is. ⊎_elim (λ same. absurd (at.some-ne-none (Book (Some y)) same.1)) (λ other. absurd (other.0 refl)) (at_set homes 0 0 (at.some (Book (Some y))) at.none is);
  }

  module _ (c : WholeState E B T L I) (t : State (Slot E B) (View E B T L I)) (id : ℕ) (v : View E B T L I) (shows : Shows m c t) (is_at : get_elem? t.views id ≡ at.some v) (working : IsWorking v) where
    w_live : Live m c id v
    w_live = working_live m c t id v shows is_at working

    -- a step on the book
    desk_shows : (holder : ℕ) (book : B) (stale ready : Bool) (a : Part E L I) (lends : Option B) (now_ready now_stale : Bool) (steps : List (ℕ × ℕ)) (x : ℕ) (homes : List (at.Option (Slot E B)))
        → x ≡ holder
        → Slots m c.number c.count c.state c.name c.tag holder book homes
        → Desk m c.number c.count c.state c.tag holder book stale
        → Lists m c.count book stale c.own (with_value_at c.part v.place a)
        → (ready ≡ true → m.book_ready book ≡ true)
        → ((k : ℕ) → k ≢ v.place → 0 < k → lent_book holder book k ≡ lent_book c.holder c.book k)
        → lends ≡ lent_book holder book v.place
        → a.sections ≡ v.part.sections → a.held ≡ v.part.held → a.refusal ≡ v.part.refusal → a.read ≡ v.part.read → a.reading ≡ v.part.reading → a.pairs ≡ v.part.pairs
        → (v.place ≢ c.count + 1 → (ready ≡ c.ready) × (stale ≡ c.stale))
        → (v.role ≡ Operator → (now_ready ≡ ready) × (now_stale ≡ stale))
        → Shows m (desk_core c v.place holder book stale ready a) (record {
          words = slice_set t.words book_index x;
          homes = homes;
          views = slice_set t.views id (record v { book = lends; ready = now_ready; stale = now_stale; part = a; steps = steps });
        })
    desk_shows holder book stale ready a lends now_ready now_stale steps x homes is slots_are desk_is lists_are ready_is others lends_is sections held refusal read reading pairs quiet now =
        let p : ℕ = v.place in
        let d : WholeState E B T L I = desk_core c p holder book stale ready a in
        let w : View E B T L I = record v { book = lends; ready = now_ready; stale = now_stale; part = a; steps = steps } in
        let l : Live m c id v = w_live in
        let was : v.part ≡ c.part p = l.part in
        let beside : Beside c d p = record {
          count = refl;
          opened = refl;
          history = begins_same c.history;
          seat = λ k. refl;
          phase = λ k other. refl;
          part = λ k other. put_else c.part p a k other;
          behind = λ k other. refl;
          book = others;
          operator = λ other. record {
            number = refl;
            opened = refl;
            history = refl;
            own = refl;
            ready = (quiet other).0;
            stale = (quiet other).1;
            revoked = λ k. refl;
            drained = λ k. refl;
            token = λ k other. refl;
          };
        } in
        record {
          words = words_like (tracker_of c.state d.part) (token_of c.state)
              (λ k. ap (λ (n : ℕ). tracker_word n (c.state k).phase) (put_keeps (λ (y : Part E L I). y.sections) c.part p a (sections ∙ ap (λ (y : Part E L I). y.sections) was) k)) (λ k. refl)
              (subst (λ (n : ℕ). LockWords c.count c.number (holder_word c.behind) n (tracker_of c.state c.part) (token_of c.state) (slice_set t.words book_index x)) is (words_book x shows.words));
          sound = shows.sound;
          past = shows.past;
          slots = slots_are;
          insides = record {
            reading = λ k low within inside. let got = shows.insides.reading k low within inside in
                (got.0, put_keeps (λ (y : Part E L I). y.reading) c.part p a (reading ∙ ap (λ (y : Part E L I). y.reading) was) k ∙ got.1, got.2);
            pairs = λ k low within j n name got. shows.insides.pairs k low within j n name
                (ap (λ (ps : List (ℕ × L)). get_elem? ps j) (sym (put_keeps (λ (y : Part E L I). y.pairs) c.part p a (pairs ∙ ap (λ (y : Part E L I). y.pairs) was) k)) ∙ got);
          };
          desk = desk_is;
          lists = lists_are;
          numbers = numbers_after c d ReadNumber refl tt shows.sound
              (λ k. put_keeps (λ (y : Part E L I). y.held) c.part p a (held ∙ ap (λ (y : Part E L I). y.held) was) k)
              (λ k n within holds got. shows.numbers.read k n within holds (sym (put_keeps (λ (y : Part E L I). y.read) c.part p a (read ∙ ap (λ (y : Part E L I). y.read) was) k) ∙ got))
              (λ k n told. inl (sym (put_keeps (λ (y : Part E L I). y.refusal) c.part p a (refusal ∙ ap (λ (y : Part E L I). y.refusal) was) k) ∙ told))
              shows.numbers;
          readiness = ready_is;
          seats = every_seat_after c.count c.seat t.views id v w is_at (λ k mine. mine) (λ role. role) shows.seats;
          each = each_after m c d p id w t.views shows.each l.seat beside (record {
            live = λ _. record {
              count = l.count;
              low = l.low;
              high = l.high;
              seat = l.seat;
              phase = l.phase;
              part = sym (put_here c.part p a);
              behind = l.behind;
              book = lends_is;
            };
            processor = (shows.each id v is_at).processor;
            operator = λ role. let k : OperatorKeeps m c id v = operator_keeps m c t id v shows is_at working role in record {
              place = k.place;
              number = k.number;
              opened = k.opened;
              history = k.history;
              own = k.own;
              ready = (now role).0;
              stale = (now role).1;
              revoked_size = k.revoked_size;
              drained_size = k.drained_size;
              kept_size = k.kept_size;
              revoked = k.revoked;
              drained = k.drained;
              kept = λ j part got. absurd ((nothing_kept m c t id v shows is_at working role).1 j part (at_slice v.kept j (Some part) got));
            };
            receipt = λ receipt. absurd (no_receipt m c t id v shows is_at working receipt);
          });
        }

    -- nobody that isn't the operator has published since it took the book
    pub fresh : c.holder ≢ c.count + 1 → c.stale ≡ false
    fresh other = by_flag c.stale refl
      where
        by_flag : (b : Bool) → c.stale ≡ b → c.stale ≡ false
        by_flag true is = absurd (other (shows.desk.writer is))
        by_flag false is = is

    lent_else : (holder : ℕ) (book : B) (k : ℕ) → holder ≢ k → lent_book holder book k ≡ None
    lent_else holder book k other = ap (λ (b : Bool). if b then Some book else None) (ne_eqb holder k other)

    lent_here : (p : ℕ) (book : B) → lent_book p book p ≡ Some book
    lent_here p book = ap (λ (b : Bool). if b then Some book else None) (eq-eqb p p refl)

    -- take book
    pub book_is_home : c.holder ≡ 0 → get_elem? t.homes 0 ≡ at.some (at.some (Book (Some c.book)))
    book_is_home free = book_at_home m free shows.slots

    part_same : {X : Type 0} (f : Part E L I → X) (a : Part E L I) → f a ≡ f v.part → (k : ℕ) → f (with_value_at c.part v.place a k) ≡ f (c.part k)
    part_same f a same = put_keeps f c.part v.place a (same ∙ ap f w_live.part)

    -- once a free book is taken the table shows a state by the rule
    pub take_book_shows : (hand : Hand E B) (found : ℕ) → c.holder ≡ 0 → (v.role ≡ Processor → v.phase ≡ In)
        → Shows m (desk_core c v.place v.place c.book c.stale c.ready (book_part v.part)) (stepped t book_index v.place id hand (with_step (book_taken v c.book) book_index found) (takes 0 (Book (Some c.book))))
    take_book_shows hand found free inside =
        let l : Live m c id v = w_live in
        let a : Part E L I = book_part v.part in
        let low : 0 < v.place = l.low in
        let new : c.stale ≡ false = fresh (λ e. absurd (omega arith)) in
        desk_shows v.place c.book c.stale c.ready a (Some c.book) v.ready v.stale (v.steps ++ (book_index, found) ∷ []) v.place (slice_set t.homes 0 at.none) refl
        (slots_book_taken v.place low shows.slots)
        (record {
          inside = λ taken processor. by_role taken processor;
          writer = λ stale. let clash : true ≡ false = sym stale ∙ new in absurd cc;
          number_is = shows.desk.number_is;
          tag_is = shows.desk.tag_is;
        })
        (record {
          lists = λ k above within. shows.lists.lists k above within ∙ sym (part_same (λ y. y.own) a refl k);
          list_0 = shows.lists.list_0;
          begins = λ k above within. subst (λ (xs : List I). BeginsWith c.own xs) (sym (part_same (λ y. y.first) a refl k)) (shows.lists.begins k above within);
        })
        shows.readiness
        (λ k other above. lent_else v.place c.book k (λ e. other (sym e)) ∙ sym (lent_else c.holder c.book k (λ e. absurd (omega arith))))
        (sym (lent_here v.place c.book)) refl refl refl refl refl refl (λ other. (refl, refl))
        (λ role. let k : OperatorKeeps m c id v = operator_keeps m c t id v shows is_at working role in (k.ready, k.stale))
      where
        by_role : v.place ≢ 0 → v.place ≢ c.count + 1 → (v.place ≤ c.count) × ((c.state v.place).phase ≡ In)
        by_role taken processor =
            ⊎_elim (λ role. ((shows.each id v is_at).processor role, sym w_live.phase ∙ inside role))
            (λ operator. absurd (processor (operator_keeps m c t id v shows is_at working operator.role).place)) working

    -- what is found in the book
    pub book_found : c.holder ≡ 0 → (v.role ≡ Processor → v.phase ≡ In) → FoundBy m v c.book
    book_found free inside =
        let l : Live m c id v = w_live in
        let new : c.stale ≡ false = fresh (λ e. absurd (omega arith)) in record {
          own = λ role. shows.lists.lists v.place l.low ((shows.each id v is_at).processor role) ∙ ap (λ (y : Part E L I). y.own) (sym l.part);
          first = λ role.
              let begins = shows.lists.begins v.place l.low ((shows.each id v is_at).processor role) in
              (begins.0, shows.lists.list_0 new ∙ begins.1 ∙ ap (λ (y : Part E L I). y.first ++ begins.0) (sym l.part));
          edition = λ role.
              let got = shows.insides.reading v.place l.low ((shows.each id v is_at).processor role) (sym l.phase ∙ inside role) in
              (got.0, ap (λ (y : Part E L I). y.reading) l.part ∙ got.1, shows.desk.number_is new ∙ sym got.2.number_is, shows.desk.tag_is new ∙ sym got.2.tag_is);
          operator = λ role.
              let k : OperatorKeeps m c id v = operator_keeps m c t id v shows is_at working role in
              let writer : IsOperator v = record { role = role; split = nothing_kept m c t id v shows is_at working role } in
              record {
                number = shows.desk.number_is new ∙ sym k.number;
                tag = (c.name, last_known m c t id v shows is_at writer c.name (m.book_tag c.book) refl (shows.desk.tag_is new));
                list_0 = shows.lists.list_0 new ∙ sym k.own;
                ready = λ ready. shows.readiness (sym k.ready ∙ ready);
                unpublished = k.stale ∙ new;
              };
        }

    -- once all are drained nobody but the operator has the book
    pub book_free : v.role ≡ Operator → AllDrained v → v.book ≡ None → c.holder ≡ 0
    book_free role drained none = by_holder (c.holder == 0) refl
      where
        by_holder : (b : Bool) → (c.holder == 0) ≡ b → c.holder ≡ 0
        by_holder true is = eqb-true c.holder 0 is
        by_holder false is =
            let k : OperatorKeeps m c id v = operator_keeps m c t id v shows is_at working role in
            let writer : IsOperator v = record { role = role; split = nothing_kept m c t id v shows is_at working role } in
            let not_operator : c.holder ≢ c.count + 1 = λ same.
            let mine : v.book ≡ Some c.book = w_live.book ∙ ap (λ (b : Bool). if b then Some c.book else None) (eq-eqb c.holder v.place (same ∙ sym k.place)) in
            let clash : None ≡ Some c.book = sym none ∙ mine in absurd cc in
            let taken : c.holder ≢ 0 = λ free. let clash : true ≡ false = sym (eq-eqb c.holder 0 free) ∙ is in absurd cc in
            let at_desk = shows.desk.inside taken not_operator in
            absurd (nobody_in m c t id v shows is_at writer drained c.holder (pos_of_ne c.holder taken) at_desk.0 at_desk.1)

    -- give book, by a processor
    pub give_processor_shows : (hand : Hand E B) (y : B) (taken : B) → v.role ≡ Processor → v.book ≡ Some taken → LeftBy m v.place taken y
        → Shows m (desk_core c v.place 0 y c.stale c.ready (given_part m v.part v.place y)) (stepped t book_index 0 id ((0, Book (Some y)) ∷ hand) (with_step (book_given m v y) book_index 0) gives)
    give_processor_shows hand y taken role has left =
        let l : Live m c id v = w_live in
        let p : ℕ = v.place in
        let a : Part E L I = given_part m v.part p y in
        let high : p ≤ c.count = (shows.each id v is_at).processor role in
        let mine = book_holder m c t id v shows is_at working taken has in
        let same : c.book ≡ taken = mine.1 in
        let new : c.stale ≡ false = fresh (λ e. let h = mine.0 in absurd (omega arith)) in
        let low : 0 < p = l.low in
        desk_shows 0 y c.stale c.ready a None (m.book_ready y) false (v.steps ++ (book_index, 0) ∷ []) 0 (slice_set t.homes 0 (at.some (Book (Some y)))) refl
        (slots_book_given 0 y shows.slots)
        (record {
          inside = λ free. absurd (free refl);
          writer = λ stale. let clash : true ≡ false = sym stale ∙ new in absurd cc;
          number_is = λ n. left.number ∙ ap m.book_number (sym same) ∙ shows.desk.number_is n;
          tag_is = λ n. left.tag ∙ ap m.book_tag (sym same) ∙ shows.desk.tag_is n;
        })
        (record {
          lists = at_put (λ k (x : Part E L I). 0 < k → k ≤ c.count → m.of y k ≡ x.own) c.part p a (λ above within. refl)
              (λ k other above within. left.lists k other ∙ ap (λ (b : B). m.of b k) (sym same) ∙ shows.lists.lists k above within);
          list_0 = λ n. left.lists 0 (λ e. absurd (omega arith)) ∙ ap (λ (b : B). m.of b 0) (sym same) ∙ shows.lists.list_0 n;
          begins = λ k above within. subst (λ (xs : List I). BeginsWith c.own xs) (sym (part_same (λ x. x.first) a refl k)) (shows.lists.begins k above within);
        })
        (λ ready. left.ready (ap m.book_ready (sym same) ∙ shows.readiness ready))
        (λ k other above. lent_else 0 y k (λ e. absurd (omega arith)) ∙ sym (lent_else c.holder c.book k (λ e. other (sym e ∙ mine.0))))
        (sym (lent_else 0 y p (λ e. absurd (omega arith)))) refl refl refl refl refl refl (λ other. (refl, refl))
        (λ operator. let clash : Processor ≡ Operator = sym role ∙ operator in absurd cc)

    -- give book, by the operator
    pub give_operator_shows : (hand : Hand E B) (y : B) (taken : B) → v.role ≡ Operator → v.book ≡ Some taken → LeftByOperator m v taken y
        → Shows m (desk_core c v.place 0 y false (m.book_ready y) (given_part m v.part v.place y)) (stepped t book_index 0 id ((0, Book (Some y)) ∷ hand) (with_step (book_given m v y) book_index 0) gives)
    give_operator_shows hand y taken role has left =
        let l : Live m c id v = w_live in
        let p : ℕ = v.place in
        let a : Part E L I = given_part m v.part p y in
        let k : OperatorKeeps m c id v = operator_keeps m c t id v shows is_at working role in
        let mine = book_holder m c t id v shows is_at working taken has in
        let same : c.book ≡ taken = mine.1 in
        let low : 0 < p = l.low in
        desk_shows 0 y false (m.book_ready y) a None (m.book_ready y) false (v.steps ++ (book_index, 0) ∷ []) 0 (slice_set t.homes 0 (at.some (Book (Some y)))) refl
        (slots_book_given 0 y shows.slots)
        (record {
          inside = λ free. absurd (free refl);
          writer = λ never. absurd cc;
          number_is = λ n. left.number ∙ k.number;
          tag_is = λ n. tag_of c.stale refl;
        })
        (record {
          lists = at_put (λ j (x : Part E L I). 0 < j → j ≤ c.count → m.of y j ≡ x.own) c.part p a (λ above within. absurd (let e = k.place in omega arith))
              (λ j other above within. left.lists j (λ e. absurd (omega arith)) ∙ ap (λ (b : B). m.of b j) (sym same) ∙ shows.lists.lists j above within);
          list_0 = λ n. left.list_0 ∙ k.own;
          begins = λ j above within. subst (λ (xs : List I). BeginsWith c.own xs) (sym (part_same (λ x. x.first) a refl j)) (shows.lists.begins j above within);
        })
        (λ ready. ready)
        (λ j other above. lent_else 0 y j (λ e. absurd (omega arith)) ∙ sym (lent_else c.holder c.book j (λ e. other (sym e ∙ mine.0))))
        (sym (lent_else 0 y p (λ e. absurd (omega arith)))) refl refl refl refl refl refl (λ other. absurd (other k.place))
        (λ operator. (refl, refl))
      where
        tag_of : (b : Bool) → c.stale ≡ b → m.book_tag y ≡ c.tag
        tag_of true is =
            let k : OperatorKeeps m c id v = operator_keeps m c t id v shows is_at working role in
            let got = left.tag_published (k.stale ∙ is) in
            let there : get_elem? c.history (c.number - c.opened) ≡ at.some (got.0, m.book_tag y) =
            ap (λ (n : ℕ). get_elem? c.history (n - c.opened)) (sym k.number) ∙ ap (λ (n : ℕ). get_elem? c.history (v.number - n)) (sym k.opened) ∙ ap (λ (xs : List (L × T)). get_elem? xs (v.number - v.opened)) (sym k.history)
            ∙ slice_at v.history (v.number - v.opened) (got.0, m.book_tag y) got.1 in
            ap (λ (z : L × T). z.1) (at.some-injective (got.0, m.book_tag y) (c.name, c.tag) (sym there ∙ shows.past.last))
        tag_of false is =
            let k : OperatorKeeps m c id v = operator_keeps m c t id v shows is_at working role in
            left.tag (k.stale ∙ is) ∙ ap m.book_tag (sym (book_holder m c t id v shows is_at working taken has).1) ∙ shows.desk.tag_is is
