-- The seats: how the opening seat is split, and how the seats are joined again.
use Rattle.std.proofs.Common.{◌≡◌, ◌≢◌, ℕ, zero, suc, ◌+◌, ◌<◌, ◌≤◌, ◌⊎◌, inl, inr, Bool, true, false, Option, Some, None, List, [], ◌∷◌, ◌++◌, length, length-set, refl, sym, ◌∙◌, ap, arith, subst, ⊎_elim, ne_eqb}
use Rattle.std.specs.Prelude.{slice_set, slice_get, if◌then◌else◌}
use mathlib.Core.Option as at
use Rattle.std.proofs.lemmas.Bool.Decides.{eqb_tells}
use Rattle.rm_core.proofs.Changes.{get_set_here, get_set_else}
use lib.ListN.{get_elem?}
use Rattle.atomic_table.specs.Table.{State}
use Rattle.atomic_table.proofs.Lists.{at_set, set_here, set_else, set_again, at_longer, at_last}
use Rattle.rm_core.specs.declared.processor_state.Phase.TheVariants.{Out, In}
use Rattle.rm_table.specs.declared.view.Role.TheVariants.{Processor, Operator, Receipt}
use Rattle.rm_table.specs.declared.padded_slot.Slot.{Slot}
use Rattle.rm_table.specs.declared.part.Part.{Part}
use Rattle.rm_table.specs.declared.view.View.{View}
use Rattle.rm_table.specs.Meanings.{Meanings, with_value_at, BeginsWith}
use Rattle.rm_table.specs.Rule.{WholeState, lent_book, Live, KeptAt, OperatorKeeps, IsSeatOf, EverySeat, Agrees, Shows}
use Rattle.rm_table.specs.Moves.{split_off, processor_view, receipt_view, spent_view, joined_view}
use Rattle.rm_table.proofs.Base.{put_here, put_else, get_within, slice_at}
use Rattle.rm_table.proofs.Keeping.{begins_same, every_seat_after}

at_end : {A : Type 0} (l : List A) (a b : A) (j : ℕ) → get_elem? (l ++ a ∷ []) j ≡ at.some b → (get_elem? l j ≡ at.some b) ⊎ ((j ≡ length l) × (a ≡ b))
at_end [] a b zero e = inr (refl, at.some-injective a b e)
at_end [] a b (suc j) e = absurd (at.some-ne-none b (sym e))
at_end (x ∷ xs) a b zero e = inl e
at_end (x ∷ xs) a b (suc j) e = ⊎_elim (λ old. inl old) (λ new. inr (ap suc new.0, new.1)) (at_end xs a b j e)

-- what changes where a place gets another seat
abbrev pub seat_core : {E B T L I : Type 0} → WholeState E B T L I → ℕ → ℕ → WholeState E B T L I
seat_core c k id = record c { seat = with_value_at c.seat k id }

module _ {E B T L I : Type 0} (m : Meanings E B T L I) where
  module _ (c : WholeState E B T L I) (k id : ℕ) where
    abbrev moved_core : WholeState E B T L I
    moved_core = seat_core c k id

    live_moved : (j : ℕ) (u : View E B T L I) → u.place ≢ k → Live m c j u → Live m moved_core j u
    live_moved j u other l = record {
      count = l.count;
      low = l.low;
      high = l.high;
      seat = put_else c.seat k id u.place other ∙ l.seat;
      phase = l.phase;
      part = l.part;
      behind = l.behind;
      book = l.book;
    }

    kept_moved : (j i : ℕ) (closing : Bool) (part : Part E L I) → i ≢ k → KeptAt m c j closing i part → KeptAt m moved_core j closing i part
    kept_moved j i closing part other l = record {
      low = l.low;
      high = l.high;
      seat = put_else c.seat k id i other ∙ l.seat;
      part_is = l.part_is;
      out = l.out;
      behind = l.behind;
      fresh = l.fresh;
    }

    keeps_moved : (j : ℕ) (u w : View E B T L I) (kept : List (Option (Part E L I))) (closing : Bool) → w ≡ record u { kept = kept; closing = closing } → length kept ≡ length u.kept
        → ((i : ℕ) (part : Part E L I) → get_elem? kept i ≡ at.some (Some part) → KeptAt m moved_core j closing i part) → OperatorKeeps m c j u → OperatorKeeps m moved_core j w
    keeps_moved j u w kept closing is size all l = subst (λ (x : View E B T L I). OperatorKeeps m moved_core j x) (sym is) (record {
      place = l.place;
      number = l.number;
      opened = l.opened;
      history = l.history;
      own = l.own;
      ready = l.ready;
      stale = l.stale;
      revoked_size = l.revoked_size;
      drained_size = l.drained_size;
      kept_size = size ∙ l.kept_size;
      revoked = l.revoked;
      drained = l.drained;
      kept = all;
    })

    -- a seat that doesn't have the place
    agrees_moved : (was j : ℕ) (u : View E B T L I) → c.seat k ≡ was → j ≢ was → Agrees m c j u → Agrees m moved_core j u
    agrees_moved was j u seat apart a = record {
      live = λ role. let l = a.live role in live_moved j u (λ same. apart (sym l.seat ∙ ap c.seat same ∙ seat)) l;
      processor = a.processor;
      receipt = λ role. let r = a.receipt role in record { opened_is = r.opened_is; prefix = r.prefix; begun = r.begun; counts = r.counts };
      operator = λ role. let l = a.operator role in
          keeps_moved j u u u.kept u.closing refl refl (λ i part got. let q = l.kept i part got in kept_moved j i u.closing part (λ same. apart (sym q.seat ∙ ap c.seat same ∙ seat)) q) l;
    }

  module _ (c : WholeState E B T L I) (t : State (Slot E B) (View E B T L I)) (id : ℕ) (v : View E B T L I) (shows : Shows m c t) (is_at : get_elem? t.views id ≡ at.some v) (role : v.role ≡ Operator) where
    operator_live : Live m c id v
    operator_live = (shows.each id v is_at).live (inr role)

    operator_here : OperatorKeeps m c id v
    operator_here = (shows.each id v is_at).operator role

    -- no other view is the operator's seat
    operator_only : (k : ℕ) (u : View E B T L I) → c.seat k ≡ id → get_elem? t.views (c.seat k) ≡ at.some u → u ≡ v
    operator_only k u here found = at.some-injective u v (sym found ∙ ap (get_elem? t.views) here ∙ is_at)

    -- the rest of the rule doesn't speak of seats
    seats_changed : (k id' : ℕ) (views : List (View E B T L I)) → EverySeat c.count (with_value_at c.seat k id') views → ((j : ℕ) (u : View E B T L I) → get_elem? views j ≡ at.some u → Agrees m (seat_core c k id') j u)
        → Shows m (seat_core c k id') (record { words = t.words; homes = t.homes; views = views })
    seats_changed k id' views seats each = record {
      words = shows.words;
      sound = shows.sound;
      past = shows.past;
      slots = shows.slots;
      insides = shows.insides;
      desk = shows.desk;
      lists = shows.lists;
      numbers = shows.numbers;
      readiness = shows.readiness;
      seats = seats;
      each = each;
    }

    -- who is out hasn't the book
    not_lent : (k : ℕ) → 0 < k → k ≤ c.count → (c.state k).phase ≡ Out → None ≡ lent_book c.holder c.book k
    not_lent k low high out =
        sym (ap (λ (b : Bool). if b then Some c.book else None) (ne_eqb c.holder k (λ same.
        let at_desk = shows.desk.inside (λ free. absurd (omega arith)) (λ writer. absurd (omega arith)) in
        let inside : (c.state k).phase ≡ In = subst (λ (n : ℕ). (c.state n).phase ≡ In) same at_desk.1 in
        let clash : Out ≡ In = sym out ∙ inside in absurd cc)))

    -- every seat exists after a split: the new seat has the place
    seats_split : (k : ℕ) (part : Part E L I) → k ≢ c.count + 1 → EverySeat c.count (with_value_at c.seat k (length t.views)) (slice_set t.views id (split_off v k) ++ processor_view v k part ∷ [])
    seats_split k part other = record {
      processors = λ j low high. elim (eqb_tells j k) as (λ _. (u : View E B T L I) × (get_elem? now (with_value_at c.seat k (length t.views) j) ≡ at.some u) × IsSeatOf u j) [
        | inl same ↦ (processor_view v k part, ap (get_elem? now) (ap (with_value_at c.seat k (length t.views)) same.1 ∙ put_here c.seat k (length t.views)) ∙ at_last left (processor_view v k part) (length t.views) (length-set t.views id (split_off v k)), inl (refl, sym same.1))
        | inr apart ↦ let got = shows.seats.processors j low high in moved j apart.1 got.0 got.1 got.2
      ];
      operator = (
        split_off v k,
        ap (get_elem? now) (put_else c.seat k (length t.views) (c.count + 1) (λ same. other (sym same)) ∙ ap c.seat (sym operator_here.place) ∙ operator_live.seat) ∙ mine,
        role,
      );
    }
      where
        left : List (View E B T L I)
        left = slice_set t.views id (split_off v k)

        now : List (View E B T L I)
        now = left ++ processor_view v k part ∷ []

        mine : get_elem? now id ≡ at.some (split_off v k)
        mine = at_longer left (processor_view v k part ∷ []) id (split_off v k) (set_here t.views id (split_off v k) (get_within t.views id v is_at))

        moved : (j : ℕ) → j ≢ k → (u : View E B T L I) → get_elem? t.views (c.seat j) ≡ at.some u → IsSeatOf u j → (u : View E B T L I) × (get_elem? now (with_value_at c.seat k (length t.views) j) ≡ at.some u) × IsSeatOf u j
        moved j apart u found seat = elim (eqb_tells (c.seat j) id) as (λ _. (u : View E B T L I) × (get_elem? now (with_value_at c.seat k (length t.views) j) ≡ at.some u) × IsSeatOf u j) [
          | inl here ↦
              let is : u ≡ v = operator_only j u here.1 found in
              let kept : IsSeatOf v j = subst (λ (x : View E B T L I). IsSeatOf x j) is seat in (
                split_off v k,
                ap (get_elem? now) (put_else c.seat k (length t.views) j apart ∙ here.1) ∙ mine,
                ⊎_elim
                    (λ processor. let clash : Operator ≡ Processor = sym role ∙ processor.0 in absurd cc)
                    (λ operator. inr (role, (operator.1.0, get_set_else v.kept k j None apart ∙ operator.1.1))) kept,
              )
          | inr there ↦ (u, ap (get_elem? now) (put_else c.seat k (length t.views) j apart) ∙ at_longer left (processor_view v k part ∷ []) (c.seat j) u (set_else t.views id (c.seat j) (split_off v k) there.1 ∙ found), seat)
        ]

    -- split seat
    pub split_shows : (k : ℕ) (part : Part E L I) → slice_get v.kept k ≡ Some (Some part)
        → Shows m (seat_core c k (length t.views)) (record { words = t.words; homes = t.homes; views = slice_set t.views id (split_off v k) ++ processor_view v k part ∷ [] })
    split_shows k part kept =
        let l : Live m c id v = operator_live in
        let o : OperatorKeeps m c id v = operator_here in
        let q : KeptAt m c id v.closing k part = o.kept k part (slice_at v.kept k (Some part) kept) in
        let new : ℕ = length t.views in
        let low : 0 < k = q.low in
        let high : k ≤ c.count = q.high in
        seats_changed k new (slice_set t.views id (split_off v k) ++ processor_view v k part ∷ []) (seats_split k part (λ same. absurd (omega arith)))
        (λ j u is. ⊎_elim
        (λ old. ⊎_elim
        (λ here. subst (λ (i : ℕ). Agrees m (seat_core c k new) i u) (sym here.0) (subst (λ (x : View E B T L I). Agrees m (seat_core c k new) id x) here.1 (record {
          live = λ _. let e = live_moved c k new id v (λ same. let p = o.place in absurd (omega arith)) l in record { count = e.count; low = e.low; high = e.high; seat = e.seat; phase = e.phase; part = e.part; behind = e.behind; book = e.book };
          processor = (shows.each id v is_at).processor;
          receipt = λ receipt. let clash : Operator ≡ Receipt = sym role ∙ receipt in absurd cc;
          operator = λ _. keeps_moved c k new id v (split_off v k) (slice_set v.kept k None) v.closing refl (length-set v.kept k None)
              (λ i other got. ⊎_elim (λ same. let clash : None ≡ Some other = same.1 in absurd cc)
              (λ others. kept_moved c k new id i v.closing other others.0 (o.kept i other others.1)) (at_set v.kept k i None (Some other) got)) o;
        })))
        (λ other. agrees_moved c k new id j u q.seat other.0 (shows.each j u other.1))
        (at_set t.views id j (split_off v k) u old))
        (λ last. subst (λ (x : View E B T L I). Agrees m (seat_core c k new) j x) last.1 (record {
          live = λ _. record {
            count = l.count;
            low = q.low;
            high = omega arith;
            seat = put_here c.seat k new ∙ sym (last.0 ∙ length-set t.views id (split_off v k));
            phase = sym q.out;
            part = q.part_is;
            behind = sym q.behind;
            book = not_lent k q.low q.high q.out;
          };
          processor = λ _. q.high;
          operator = λ operator. absurd cc;
          receipt = λ receipt. absurd cc;
        }))
        (at_end (slice_set t.views id (split_off v k)) (processor_view v k part) u j is))

    -- every seat exists after a join: the operator's keeps the place
    seats_join : (other : ℕ) (w : View E B T L I) → ¬ (other ≡ id) → get_elem? t.views other ≡ at.some w → w.role ≡ Processor → w.place ≤ c.count → EverySeat c.count (with_value_at c.seat w.place id) (slice_set (slice_set t.views id (joined_view v w)) other spent_view)
    seats_join other w apart there processor high = record {
      processors = λ j low within. elim (eqb_tells j k) as (λ _. (u : View E B T L I) × (get_elem? now (with_value_at c.seat k id j) ≡ at.some u) × IsSeatOf u j) [
        | inl same ↦ (joined_view v w, ap (get_elem? now) (ap (with_value_at c.seat k id) same.1 ∙ put_here c.seat k id) ∙ mine, inr (role, (w.part, ap (slice_get (slice_set v.kept k (Some w.part))) same.1 ∙ get_set_here v.kept k (Some w.part) (let e = operator_here.kept_size in omega arith))))
        | inr else' ↦ let got = shows.seats.processors j low within in moved j else'.1 got.0 got.1 got.2
      ];
      operator = (
        joined_view v w,
        ap (get_elem? now) (put_else c.seat k id (c.count + 1) (λ same. absurd (omega arith)) ∙ ap c.seat (sym operator_here.place) ∙ operator_live.seat) ∙ mine,
        role,
      );
    }
      where
        k : ℕ
        k = w.place

        left : List (View E B T L I)
        left = slice_set t.views id (joined_view v w)

        now : List (View E B T L I)
        now = slice_set left other spent_view

        mine : get_elem? now id ≡ at.some (joined_view v w)
        mine = set_else left other id spent_view (λ same. apart (sym same)) ∙ set_here t.views id (joined_view v w) (get_within t.views id v is_at)

        moved : (j : ℕ) → j ≢ k → (u : View E B T L I) → get_elem? t.views (c.seat j) ≡ at.some u → IsSeatOf u j → (u : View E B T L I) × (get_elem? now (with_value_at c.seat k id j) ≡ at.some u) × IsSeatOf u j
        moved j else' u found seat = elim (eqb_tells (c.seat j) id) as (λ _. (u : View E B T L I) × (get_elem? now (with_value_at c.seat k id j) ≡ at.some u) × IsSeatOf u j) [
          | inl here ↦
              let is : u ≡ v = operator_only j u here.1 found in
              let kept : IsSeatOf v j = subst (λ (x : View E B T L I). IsSeatOf x j) is seat in (
                joined_view v w,
                ap (get_elem? now) (put_else c.seat k id j else' ∙ here.1) ∙ mine,
                ⊎_elim
                    (λ mine. let clash : Operator ≡ Processor = sym role ∙ mine.0 in absurd cc)
                    (λ operator. inr (role, (operator.1.0, get_set_else v.kept k j (Some w.part) else' ∙ operator.1.1))) kept,
              )
          | inr elsewhere ↦
              let no_spent : c.seat j ≢ other = λ same.
              let is : u ≡ w = at.some-injective u w (sym found ∙ ap (get_elem? t.views) same ∙ there) in
              let mine : IsSeatOf w j = subst (λ (x : View E B T L I). IsSeatOf x j) is seat in
              absurd (⊎_elim (λ processor. else' (sym processor.1)) (λ operator. let clash : Processor ≡ Operator = sym processor ∙ operator.0 in absurd cc) mine) in
              (u, ap (get_elem? now) (put_else c.seat k id j else') ∙ set_else left other (c.seat j) spent_view no_spent ∙ set_else t.views id (c.seat j) (joined_view v w) elsewhere.1 ∙ found, seat)
        ]

    -- join seat
    pub join_shows : (other : ℕ) (w : View E B T L I) → ¬ (other ≡ id) → get_elem? t.views other ≡ at.some w → w.role ≡ Processor → w.phase ≡ Out → w.behind ≡ false
        → Shows m (seat_core c w.place id) (record { words = t.words; homes = t.homes; views = slice_set (slice_set t.views id (joined_view v w)) other spent_view })
    join_shows other w apart there processor out unheld =
        let l : Live m c id v = operator_live in
        let o : OperatorKeeps m c id v = operator_here in
        let a : Live m c other w = (shows.each other w there).live (inl processor) in
        let k : ℕ = w.place in
        let high : k ≤ c.count = (shows.each other w there).processor processor in
        let low : 0 < k = a.low in
        seats_changed k id (slice_set (slice_set t.views id (joined_view v w)) other spent_view) (seats_join other w apart there processor high)
        (λ j u is. ⊎_elim
        (λ spent. subst (λ (x : View E B T L I). Agrees m (seat_core c k id) j x) spent.1 (record {
          live = λ never. ⊎_elim (λ one. absurd cc) (λ one. absurd cc) never;
          processor = λ never. absurd cc;
          operator = λ never. absurd cc;
          receipt = λ never. absurd cc;
        }))
        (λ rest. ⊎_elim
        (λ here. subst (λ (i : ℕ). Agrees m (seat_core c k id) i u) (sym here.0) (subst (λ (x : View E B T L I). Agrees m (seat_core c k id) id x) here.1 (record {
          live = λ _. let e = live_moved c k id id v (λ same. let p = o.place in absurd (omega arith)) l in record { count = e.count; low = e.low; high = e.high; seat = e.seat; phase = e.phase; part = e.part; behind = e.behind; book = e.book };
          processor = (shows.each id v is_at).processor;
          receipt = λ receipt. let clash : Operator ≡ Receipt = sym role ∙ receipt in absurd cc;
          operator = λ _. keeps_moved c k id id v (joined_view v w) (slice_set v.kept k (Some w.part)) true refl (length-set v.kept k (Some w.part))
              (λ i part got. ⊎_elim
              (λ same.
              let part_same : w.part ≡ part = let e : Some w.part ≡ Some part = same.1 in cc in
              subst (λ (n : ℕ). KeptAt m (seat_core c k id) id true n part) (sym same.0) (record {
                low = a.low;
                high = high;
                seat = put_here c.seat k id;
                part_is = sym part_same ∙ a.part;
                out = sym a.phase ∙ out;
                behind = sym a.behind ∙ unheld;
                fresh = λ never. absurd cc;
              }))
              (λ others. let q = kept_moved c k id id i v.closing part others.0 (o.kept i part others.1) in record { low = q.low; high = q.high; seat = q.seat; part_is = q.part_is; out = q.out; behind = q.behind; fresh = λ never. absurd cc })
              (at_set v.kept k i (Some w.part) (Some part) got)) o;
        })))
        (λ else'. agrees_moved c k id other j u a.seat rest.0 (shows.each j u else'.1))
        (at_set t.views id j (joined_view v w) u rest.1))
        (at_set (slice_set t.views id (joined_view v w)) other j spent_view u is))

    -- split seat, at place 0: one more seat, a receipt's
    pub receipt_shows : Shows m c (record { words = t.words; homes = t.homes; views = slice_set t.views id v ++ receipt_view v ∷ [] })
    receipt_shows =
        let o : OperatorKeeps m c id v = operator_here in
        let more : List (View E B T L I) = receipt_view v ∷ [] in
        subst (λ (us : List (View E B T L I)). Shows m c (record { words = t.words; homes = t.homes; views = us ++ more })) (sym (set_again t.views id v is_at)) (record {
          words = shows.words;
          sound = shows.sound;
          past = shows.past;
          slots = shows.slots;
          insides = shows.insides;
          desk = shows.desk;
          lists = shows.lists;
          numbers = shows.numbers;
          readiness = shows.readiness;
          seats = record {
            processors = λ k low high. let got = shows.seats.processors k low high in (got.0, at_longer t.views more (c.seat k) got.0 got.1, got.2);
            operator = let got = shows.seats.operator in (got.0, at_longer t.views more (c.seat (c.count + 1)) got.0 got.1, got.2);
          };
          each = λ j u is. ⊎_elim
              (λ old. shows.each j u old)
              (λ last. subst (λ (x : View E B T L I). Agrees m c j x) last.1 (record {
                live = λ never. ⊎_elim (λ one. absurd cc) (λ one. absurd cc) never;
                processor = λ never. absurd cc;
                operator = λ never. absurd cc;
                receipt = λ _. record { opened_is = o.opened; prefix = subst (λ (h : List (L × T)). BeginsWith h v.history) o.history (begins_same v.history); begun = let n = o.number in let p = o.opened in let b = shows.past.begun in omega arith; counts = let h = ap (λ (h : List (L × T)). length h) o.history in let n = o.number in let p = o.opened in let e = shows.past.counts in omega arith };
              }))
              (at_end t.views (receipt_view v) u j is);
        })

  -- join seat, of a receipt: its seat is spent
  pub spent_shows : (c : WholeState E B T L I) (t : State (Slot E B) (View E B T L I)) (other : ℕ) (w : View E B T L I) → Shows m c t → get_elem? t.views other ≡ at.some w → w.role ≡ Receipt
      → Shows m c (record { words = t.words; homes = t.homes; views = slice_set t.views other spent_view })
  spent_shows c t other w shows there receipt = record {
    words = shows.words;
    sound = shows.sound;
    past = shows.past;
    slots = shows.slots;
    insides = shows.insides;
    desk = shows.desk;
    lists = shows.lists;
    numbers = shows.numbers;
    readiness = shows.readiness;
    seats = every_seat_after c.count c.seat t.views other w spent_view there
        (λ k mine. absurd (⊎_elim (λ processor. let clash : Receipt ≡ Processor = sym receipt ∙ processor.0 in absurd cc) (λ operator. let clash : Receipt ≡ Operator = sym receipt ∙ operator.0 in absurd cc) mine))
        (λ operator. let clash : Receipt ≡ Operator = sym receipt ∙ operator in absurd cc) shows.seats;
    each = λ j u is. ⊎_elim
        (λ spent. subst (λ (x : View E B T L I). Agrees m c j x) spent.1 (record {
          live = λ never. ⊎_elim (λ one. absurd cc) (λ one. absurd cc) never;
          processor = λ never. absurd cc;
          operator = λ never. absurd cc;
          receipt = λ never. absurd cc;
        }))
        (λ rest. shows.each j u rest.1)
        (at_set t.views other j spent_view u is);
  }
