-- A step of a processor on its own state.
use Rattle.std.proofs.Common.{◌≡◌, ℕ, ◌+◌, ◌-◌, ◌<◌, ◌≤◌, ◌⊎◌, inl, inr, Bool, true, false, Some, List, refl, sym, ◌∙◌, ap, arith, subst, ⊎_elim}
use Rattle.std.specs.Prelude.{slice_set, if◌then◌else◌}
use mathlib.Core.Option as at
use lib.ListN.{get_elem?}
use Rattle.atomic_table.specs.Table.{State}
use Rattle.rm_core.specs.declared.processor_state.Phase.TheVariants.{In}
use Rattle.rm_core.specs.declared.processor_state.Token.TheVariants.{Held, Revoked}
use Rattle.rm_core.specs.declared.event.Event.{Event}
use Rattle.rm_core.specs.declared.processor_state.ProcessorState.{ProcessorState}
use Rattle.rm_core.specs.CoreState.{CoreState, MayCome, after, Safe, Fits, processor_of}
use Rattle.rm_core.specs.Runs.{is_regain_of}
use Rattle.rm_core.specs.declared.processor_state.Token.{Token}
use Rattle.rm_core.proofs.Changes.{All-processor_of}
use Rattle.rm_core.proofs.Steps.{Safe-after}
use Rattle.rm_core.proofs.Fitting.{Fits-after}
use Rattle.rm_core.proofs.Numbers.{KnowsAt, Knows, Knows-after}
use Rattle.rm_core.proofs.OneRun.{Pending-after}
use Rattle.rm_table.specs.declared.view.Role.TheVariants.{Processor, Operator, Receipt}
use Rattle.rm_table.specs.declared.padded_slot.Slot.{Slot}
use Rattle.rm_table.specs.declared.part.Part.{Part}
use Rattle.rm_table.specs.declared.view.View.{View}
use Rattle.rm_table.specs.Layout.{holder_word, is_held_by}
use Rattle.rm_table.specs.Meanings.{Meanings, with_value_at, BeginsWith}
use Rattle.rm_table.specs.Rule.{WholeState, core_of, lent_book, LockWords, tracker_of, token_of, Sound, IsPending, InHistory, Current, Slots, Numbers, Live, Shows}
use Rattle.rm_table.specs.Moves.{SeenUpTo, SeenAs}
use Rattle.rm_table.proofs.Base.{put_here, put_else, at_put, put_keeps, there, get_within, slice_at}
use Rattle.rm_table.proofs.Keeping.{Beside, begins_same, each_after, every_seat_after}

-- the name that was found, another where there is none
abbrev name_at : {L T : Type 0} → L → at.Option (L × T) → L
name_at other at.none = other
name_at other (at.some named) = named.0

module _ {E B T L I : Type 0} where
  -- an event keeps the core sound
  pub sound_after : (c d : WholeState E B T L I) (e : Event) → core_of d ≡ after (core_of c) e → d.count ≡ c.count → MayCome (core_of c) e
      → ((h : ℕ) → d.behind ≡ Some h → (0 < h) × (h ≤ d.count + 1)) → Sound c.count (core_of c) → Sound d.count (core_of d)
  sound_after c d e is same may holder s = record {
    safe = subst Safe (sym is) (Safe-after (core_of c) e s.safe may);
    fits = subst Fits (sym is) (Fits-after (core_of c) e s.safe s.fits may);
    holder = holder;
  }

  knows_of : (c : WholeState E B T L I) → Numbers c.count (core_of c) c.part → (k : ℕ) → Knows (core_of c) k (c.part k).held
  knows_of c n k p is = record { held = n.held k p is; revoked = n.revoked k p is }

  -- and it keeps the numbers, where they change as the event has it
  pub numbers_after : (c d : WholeState E B T L I) (e : Event) → core_of d ≡ after (core_of c) e → MayCome (core_of c) e → Sound c.count (core_of c)
      → ((k : ℕ) → (d.part k).held ≡ (if is_regain_of k e then c.number else (c.part k).held))
      → ((k x : ℕ) → k ≤ d.count → d.behind ≡ Some k → (d.part k).read ≡ Some x → x ≡ d.number)
      → ((k x : ℕ) → (d.part k).refusal ≡ Some x → ((c.part k).refusal ≡ Some x) ⊎ IsPending (core_of d) k x)
      → Numbers c.count (core_of c) c.part → Numbers d.count (core_of d) d.part
  numbers_after c d e is may s helds reads refusals n = record {
    held = λ k p at. (knows k p at).held;
    revoked = λ k p at. (knows k p at).revoked;
    read = reads;
    refusal = λ k x told. ⊎_elim (λ old. subst (λ (t : CoreState). IsPending t k x) (sym is) (Pending-after (core_of c) e k x may (n.refusal k x old))) (λ new. new) (refusals k x told);
  }
    where
      knows : (k : ℕ) (p : ProcessorState) → processor_of (core_of d) k ≡ Some p → KnowsAt (core_of d).number (d.part k).held p
      knows k =
          subst (λ (t : CoreState). (p : ProcessorState) → processor_of t k ≡ Some p → KnowsAt t.number (d.part k).held p) (sym is)
          (subst (λ (x : ℕ). Knows (after (core_of c) e) k x) (sym (helds k)) (Knows-after (core_of c) e k (c.part k).held s.safe may (knows_of c n k)))

-- what a step of a processor on its own state and part changes
abbrev pub own_core : {E B T L I : Type 0} → WholeState E B T L I → ℕ → ProcessorState → Part E L I → WholeState E B T L I
own_core c p r a = record c { state = with_value_at c.state p r; part = with_value_at c.part p a }

module _ {E B T L I : Type 0} (m : Meanings E B T L I) where
  -- a processor's step on its own state changes nothing that other seats may see
  own_beside : (c : WholeState E B T L I) (p : ℕ) (r : ProcessorState) (a : Part E L I) → r.revoked ≡ (c.state p).revoked → r.drained ≡ (c.state p).drained → Beside c (own_core c p r a) p
  own_beside c p r a revoked drained = record {
    count = refl;
    opened = refl;
    history = begins_same c.history;
    seat = λ k. refl;
    phase = λ k other. ap (λ (x : ProcessorState). x.phase) (put_else c.state p r k other);
    part = λ k other. put_else c.part p a k other;
    behind = λ k other. refl;
    book = λ k other low. refl;
    operator = λ _. record {
      number = refl;
      opened = refl;
      history = refl;
      own = refl;
      ready = refl;
      stale = refl;
      revoked = put_keeps (λ (x : ProcessorState). x.revoked) c.state p r revoked;
      drained = put_keeps (λ (x : ProcessorState). x.drained) c.state p r drained;
      token = λ k other. ap (λ (x : ProcessorState). x.token) (put_else c.state p r k other);
    };
  }

  -- the number that a processor knows is at most the published one
  pub known_number : (c : WholeState E B T L I) (t : State (Slot E B) (View E B T L I)) → Shows m c t → (k : ℕ) → 0 < k → k ≤ c.count → (c.part k).held ≤ c.number
  known_number c t shows k low high = by_token (c.state k).token refl
    where
      by_token : (token : Token) → (c.state k).token ≡ token → (c.part k).held ≤ c.number
      by_token Held is = let e = shows.numbers.held k (c.state k) (there c k low high) is in omega arith
      by_token (Revoked s) is =
          let below = shows.numbers.revoked k (c.state k) (there c k low high) s is in by_flag (c.state k).revoked refl
        where
          by_flag : (b : Bool) → (c.state k).revoked ≡ b → (c.part k).held ≤ c.number
          by_flag true flagged =
              let next : (c.state k).token ≡ Revoked (c.number + 1) = All-processor_of (λ q. q.revoked ≡ true → q.token ≡ Revoked (c.number + 1)) (core_of c) k (c.state k) shows.sound.safe.announced (there c k low high) flagged in
              let below = shows.numbers.revoked k (c.state k) (there c k low high) (c.number + 1) next in omega arith
          by_flag false unflagged =
              let old = All-processor_of (λ q. q.revoked ≡ false → (s : ℕ) → q.token ≡ Revoked s → s ≤ c.number) (core_of c) k (c.state k) shows.sound.safe.past (there c k low high) unflagged s is in
              let below = shows.numbers.revoked k (c.state k) (there c k low high) s is in omega arith

  -- a number of the history is published
  pub in_history : (c : WholeState E B T L I) (t : State (Slot E B) (View E B T L I)) → Shows m c t → (x : ℕ) (name : L) → InHistory c.opened c.history x name → x ≤ c.number
  in_history c t shows x name found =
      let inside = get_within c.history (x - c.opened) (name, found.1.0) found.1.1 in
      let counts = shows.past.counts in
      let begun = found.0 in
      omega arith

  -- no pair that a processor saw is past the published number
  pub seen_published : (c : WholeState E B T L I) (t : State (Slot E B) (View E B T L I)) → Shows m c t → (k : ℕ) → 0 < k → k ≤ c.count → SeenUpTo (c.part k) c.number
  seen_published c t shows k low high j x name is = in_history c t shows x name (shows.insides.pairs k low high j x name (slice_at (c.part k).pairs j (x, name) is))

  -- each name that it saw under the published number is the published one
  pub seen_as_published : (c : WholeState E B T L I) (t : State (Slot E B) (View E B T L I)) → Shows m c t → (k : ℕ) → 0 < k → k ≤ c.count → SeenAs (c.part k) c.number c.name
  seen_as_published c t shows k low high j other is =
      let found = shows.insides.pairs k low high j c.number other (slice_at (c.part k).pairs j (c.number, other) is) in
      ap (name_at other) (sym found.1.1 ∙ shows.past.last)

  -- What a processor's step has to bring: r and a are its state and part after it, w its view.
  pub record OwnStep (c : WholeState E B T L I) (t : State (Slot E B) (View E B T L I)) (id : ℕ) (v : View E B T L I) (e : Event) (r : ProcessorState) (a : Part E L I) (w : View E B T L I) (words : List ℕ) (homes : List (at.Option (Slot E B))) : Type 0 where
    pub shows : Shows m c t
    pub is_at : get_elem? t.views id ≡ at.some v
    pub role : v.role ≡ Processor
    pub core_is : core_of (own_core c v.place r a) ≡ after (core_of c) e
    pub may : MayCome (core_of c) e
    pub revoked : r.revoked ≡ (c.state v.place).revoked
    pub drained : r.drained ≡ (c.state v.place).drained
    pub words_are : LockWords c.count c.number (holder_word c.behind) c.holder (tracker_of (with_value_at c.state v.place r) (with_value_at c.part v.place a)) (token_of (with_value_at c.state v.place r)) words
    pub slots_are : Slots m c.number c.count (with_value_at c.state v.place r) c.name c.tag c.holder c.book homes
    pub reading : r.phase ≡ In → (x : E) × (a.reading ≡ Some x) × Current m c.number c.name c.tag x
    pub pairs : (j x : ℕ) (l : L) → get_elem? a.pairs j ≡ at.some (x, l) → InHistory c.opened c.history x l
    pub desk : c.holder ≡ v.place → r.phase ≡ In
    pub own : a.own ≡ v.part.own
    pub first : a.first ≡ v.part.first
    pub helds : (k : ℕ) → (with_value_at c.part v.place a k).held ≡ (if is_regain_of k e then c.number else (c.part k).held)
    pub read : (x : ℕ) → c.behind ≡ Some v.place → a.read ≡ Some x → x ≡ c.number
    pub refusal : (x : ℕ) → a.refusal ≡ Some x → (v.part.refusal ≡ Some x) ⊎ IsPending (core_of (own_core c v.place r a)) v.place x
    pub now_role : w.role ≡ Processor
    pub now_count : w.count ≡ v.count
    pub now_place : w.place ≡ v.place
    pub now_phase : w.phase ≡ r.phase
    pub now_part : w.part ≡ a
    pub now_behind : w.behind ≡ v.behind
    pub now_book : w.book ≡ v.book

  -- what a processor's seat knows of itself is so
  pub processor_live : (c : WholeState E B T L I) (t : State (Slot E B) (View E B T L I)) (id : ℕ) (v : View E B T L I) → Shows m c t → get_elem? t.views id ≡ at.some v → v.role ≡ Processor → Live m c id v
  processor_live c t id v shows is_at role = (shows.each id v is_at).live (inl role)

  -- after a processor's step on its own state the table shows a state by the rule
  pub own_shows : (c : WholeState E B T L I) (t : State (Slot E B) (View E B T L I)) (id : ℕ) (v : View E B T L I) (e : Event) (r : ProcessorState) (a : Part E L I) (w : View E B T L I) (words : List ℕ) (homes : List (at.Option (Slot E B)))
      → OwnStep c t id v e r a w words homes → Shows m (own_core c v.place r a) (record { words = words; homes = homes; views = slice_set t.views id w })
  own_shows c t id v e r a w words homes o =
      let p : ℕ = v.place in
      let d : WholeState E B T L I = own_core c p r a in
      let l : Live m c id v = processor_live c t id v o.shows o.is_at o.role in
      let high : p ≤ c.count = (o.shows.each id v o.is_at).processor o.role in
      let b : Beside c d p = own_beside c p r a o.revoked o.drained in
      let state_is : with_value_at c.state p r p ≡ r = put_here c.state p r in
      let part_is : with_value_at c.part p a p ≡ a = put_here c.part p a in
      record {
        words = o.words_are;
        sound = sound_after c d e o.core_is refl o.may o.shows.sound.holder o.shows.sound;
        past = o.shows.past;
        slots = o.slots_are;
        insides = record {
          reading = at_put (λ k (x : ProcessorState). 0 < k → k ≤ c.count → x.phase ≡ In → (y : E) × ((with_value_at c.part p a k).reading ≡ Some y) × Current m c.number c.name c.tag y) c.state p r
              (λ low within inside. let got = o.reading inside in (got.0, ap (λ (x : Part E L I). x.reading) part_is ∙ got.1, got.2))
              (λ k other low within inside. let got = o.shows.insides.reading k low within inside in (got.0, ap (λ (x : Part E L I). x.reading) (put_else c.part p a k other) ∙ got.1, got.2));
          pairs = at_put (λ k (x : Part E L I). 0 < k → k ≤ c.count → (j n : ℕ) (l : L) → get_elem? x.pairs j ≡ at.some (n, l) → InHistory c.opened c.history n l) c.part p a
              (λ low within. o.pairs)
              (λ k other. o.shows.insides.pairs k);
        };
        desk = record {
          inside = λ taken processor. let was = o.shows.desk.inside taken processor in
              (was.0, at_put (λ k (x : ProcessorState). c.holder ≡ k → x.phase ≡ In) c.state p r o.desk (λ k other here. subst (λ (n : ℕ). (c.state n).phase ≡ In) here was.1) c.holder refl);
          writer = o.shows.desk.writer;
          number_is = o.shows.desk.number_is;
          tag_is = o.shows.desk.tag_is;
        };
        lists = record {
          lists = at_put (λ k (x : Part E L I). 0 < k → k ≤ c.count → m.of c.book k ≡ x.own) c.part p a
              (λ low within. o.shows.lists.lists p low within ∙ sym (ap (λ (x : Part E L I). x.own) l.part) ∙ sym o.own)
              (λ k other. o.shows.lists.lists k);
          list_0 = o.shows.lists.list_0;
          begins = at_put (λ k (x : Part E L I). 0 < k → k ≤ c.count → BeginsWith c.own x.first) c.part p a
              (λ low within. subst (λ (xs : List I). BeginsWith c.own xs) (sym (ap (λ (x : Part E L I). x.first) l.part) ∙ sym o.first) (o.shows.lists.begins p low within))
              (λ k other. o.shows.lists.begins k);
        };
        numbers = numbers_after c d e o.core_is o.may o.shows.sound o.helds
            (λ k x. at_put (λ k (y : Part E L I). k ≤ c.count → c.behind ≡ Some k → y.read ≡ Some x → x ≡ c.number) c.part p a (λ within. o.read x) (λ k other. o.shows.numbers.read k x) k)
            (λ k x. at_put (λ k (y : Part E L I). y.refusal ≡ Some x → ((c.part k).refusal ≡ Some x) ⊎ IsPending (core_of d) k x) c.part p a
            (λ told. ⊎_elim (λ old. inl (ap (λ (y : Part E L I). y.refusal) (sym l.part) ∙ old)) (λ new. inr new) (o.refusal x told))
            (λ k other told. inl told) k)
            o.shows.numbers;
        readiness = o.shows.readiness;
        seats = every_seat_after c.count c.seat t.views id v w o.is_at
            (λ k mine. ⊎_elim (λ own. inl (o.now_role, o.now_place ∙ own.1)) (λ operator. let clash : Processor ≡ Operator = sym o.role ∙ operator.0 in absurd cc) mine)
            (λ operator. let clash : Processor ≡ Operator = sym o.role ∙ operator in absurd cc) o.shows.seats;
        each = each_after m c d p id w t.views o.shows.each l.seat b (record {
          live = λ _. record {
            count = o.now_count ∙ l.count;
            low = let e = o.now_place in let low = l.low in omega arith;
            high = let e = o.now_place in omega arith;
            seat = ap c.seat o.now_place ∙ l.seat;
            phase = o.now_phase ∙ sym (ap (λ (x : ProcessorState). x.phase) (ap (with_value_at c.state p r) o.now_place ∙ state_is));
            part = o.now_part ∙ sym (ap (with_value_at c.part p a) o.now_place ∙ part_is);
            behind = o.now_behind ∙ l.behind ∙ ap (is_held_by c.behind) (sym o.now_place);
            book = o.now_book ∙ l.book ∙ ap (lent_book c.holder c.book) (sym o.now_place);
          };
          processor = λ _. let e = o.now_place in omega arith;
          operator = λ operator. let clash : Processor ≡ Operator = sym o.now_role ∙ operator in absurd cc;
          receipt = λ receipt. let clash : Processor ≡ Receipt = sym o.now_role ∙ receipt in absurd cc;
        });
      }
