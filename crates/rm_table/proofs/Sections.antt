-- The steps of a processor that begin and end a section, and by which it takes its token again.
use Rattle.std.proofs.Common.{◌≡◌, ◌≢◌, ℕ, zero, suc, ◌+◌, ◌-◌, ◌<◌, ◌≤◌, ◌⊎◌, inl, inr, Bool, true, false, Option, Some, None, List, ◌∷◌, refl, sym, ◌∙◌, ap, arith, subst, ⊎_elim, eq-eqb, ne_eqb}
use Rattle.std.specs.Prelude.{slice_set, slice_index, max, if◌then◌else◌, ◌==◌}
use Rattle.std.proofs.lemmas.Bool.Decides.{eqb_tells}
use mathlib.Core.Option as at
use lib.ListN.{get_elem?}
use Rattle.atomic_table.specs.Table.{State, stepped, keeps, takes, gives}
use Rattle.atomic_table.proofs.Lists.{at_snoc}
use Rattle.rm_core.specs.declared.processor_state.Phase.TheVariants.{Out, Raised, In}
use Rattle.rm_core.specs.declared.processor_state.Token.{Token}
use Rattle.rm_core.specs.declared.processor_state.Token.TheVariants.{Held, Revoked}
use Rattle.rm_core.specs.declared.event.Heard.TheVariants.{Revoked as HeardRevoked}
use Rattle.rm_core.specs.declared.event.Event.TheVariants.{Raise, Check, Lower, Regain}
use Rattle.rm_core.specs.declared.processor_state.ProcessorState.{ProcessorState}
use Rattle.rm_core.specs.CoreState.{CoreState, MayCome, after, step_answer, after_check, with_token_read, token_answer}
use Rattle.rm_core.proofs.Changes.{All-processor_of}
use Rattle.rm_core.proofs.Numbers.{step_answer-check}
use Rattle.rm_core.proofs.OneRun.{pending_check, pending_regain, Pending-after}
use Rattle.rm_table.specs.declared.view.Role.TheVariants.{Processor}
use Rattle.rm_table.specs.declared.padded_slot.Slot.{Slot}
use Rattle.rm_table.specs.declared.padded_slot.Slot.TheVariants.{Edition}
use Rattle.rm_table.specs.declared.part.Part.{Part}
use Rattle.rm_table.specs.declared.view.View.{View}
use Rattle.rm_table.specs.Layout.{tracker_index, token_index, tracker_word, token_word, holder_word, is_held_by}
use Rattle.rm_table.specs.Meanings.{Meanings, with_value_at}
use Rattle.rm_table.specs.Rule.{WholeState, core_of, LockWords, tracker_of, token_of, IsPending, InHistory, Current, Slots, Live, Shows}
use Rattle.rm_table.specs.Moves.{Hand, with_step, begun_part, raised_view, greater_refusal, refused_part, refused_view, left_part, lowered_view, regained_part, regained_view, entered_part, entered_view}
use Rattle.rm_table.proofs.Base.{put_here, put_else, at_put, put_keeps, is_there, there, core-put, words_unchanged, words_like, words_tracker, words_token}
use Rattle.rm_table.proofs.Own.{own_core, own_shows, processor_live}
use Rattle.rm_table.proofs.Slots.{IsAway, slots_stay, slots_take, slots_give}

-- the greater refusal is the one that stood, or the new one
greater_is : (standing : Option ℕ) (number x : ℕ) → Some (greater_refusal standing number) ≡ Some x → (standing ≡ Some x) ⊎ (number ≡ x)
greater_is None number x is = let same : number ≡ x = cc in inr same
greater_is (Some t) number x is =
    let same : max t number ≡ x = cc in
    ⊎_elim (λ old. inl (ap (λ (n : ℕ). Some n) (sym old ∙ same))) (λ new. inr (sym new ∙ same)) (greater_of t number)
  where
    greater_of : (a b : ℕ) → (max a b ≡ a) ⊎ (max a b ≡ b)
    greater_of zero b = inr (omega arith)
    greater_of (suc a) zero = inl (omega arith)
    greater_of (suc a) (suc b) = elim (greater_of a b) as (λ _. (max (suc a) (suc b) ≡ suc a) ⊎ (max (suc a) (suc b) ≡ suc b)) [ inl e ↦ inl (omega (arith, e)) | inr e ↦ inr (omega (arith, e)) ]

module _ {E B T L I : Type 0} (m : Meanings E B T L I) where
  -- whoever isn't revoked isn't drained, so whoever holds its token isn't
  pub held_not_drained : (c : WholeState E B T L I) (t : State (Slot E B) (View E B T L I)) → Shows m c t → (p : ℕ) → 0 < p → p ≤ c.count → (c.state p).token ≡ Held → (c.state p).drained ≡ true → ⊥
  held_not_drained c t shows p low high held drained =
      let s : CoreState = core_of c in
      let is = there c p low high in
      let revoked : (c.state p).revoked ≡ true = All-processor_of (λ q. q.drained ≡ true → q.revoked ≡ true) s p (c.state p) shows.sound.safe.within is drained in
      let gone : (c.state p).token ≡ Revoked (c.number + 1) = All-processor_of (λ q. q.revoked ≡ true → q.token ≡ Revoked (c.number + 1)) s p (c.state p) shows.sound.safe.announced is revoked in
      let clash : Held ≡ Revoked (c.number + 1) = sym held ∙ gone in
      absurd cc

  module _ (c : WholeState E B T L I) (t : State (Slot E B) (View E B T L I)) (id : ℕ) (v : View E B T L I) (shows : Shows m c t) (is_at : get_elem? t.views id ≡ at.some v) (role : v.role ≡ Processor) where
    high_of : v.place ≤ c.count
    high_of = (shows.each id v is_at).processor role

    live_of : Live m c id v
    live_of = processor_live m c t id v shows is_at role

    -- who is out or raised doesn't have the book
    not_at_desk : (c.state v.place).phase ≢ In → c.holder ≡ v.place → ⊥
    not_at_desk outside here =
        let l = live_of in
        let h = high_of in
        let at_desk = shows.desk.inside (λ free. let low = l.low in absurd (omega arith)) (λ writer. absurd (omega arith)) in
        outside (subst (λ (k : ℕ). (c.state k).phase ≡ In) here at_desk.1)

    same_held : (a : Part E L I) → a.held ≡ v.part.held → (k : ℕ) → (with_value_at c.part v.place a k).held ≡ (c.part k).held
    same_held a same = put_keeps (λ (x : Part E L I). x.held) c.part v.place a (same ∙ ap (λ (x : Part E L I). x.held) live_of.part)

    same_read : (x : ℕ) → c.behind ≡ Some v.place → v.part.read ≡ Some x → x ≡ c.number
    same_read x holds read = shows.numbers.read v.place x high_of holds (ap (λ (y : Part E L I). y.read) (sym live_of.part) ∙ read)

    same_pairs : (j x : ℕ) (l : L) → get_elem? v.part.pairs j ≡ at.some (x, l) → InHistory c.opened c.history x l
    same_pairs j x l is = shows.insides.pairs v.place live_of.low high_of j x l (ap (λ (y : Part E L I). get_elem? y.pairs j) (sym live_of.part) ∙ is)

    -- a processor that is in reads the current edition
    pub same_reading : (c.state v.place).phase ≡ In → (x : E) × (v.part.reading ≡ Some x) × Current m c.number c.name c.tag x
    same_reading inside =
        let got = shows.insides.reading v.place live_of.low high_of inside in
        (got.0, ap (λ (y : Part E L I). y.reading) live_of.part ∙ got.1, got.2)

    same_away : (r : ProcessorState) → ((c.state v.place).phase ≡ In → IsAway r) → r.drained ≡ (c.state v.place).drained → (k : ℕ) → IsAway (c.state k) → IsAway (with_value_at c.state v.place r k)
    same_away r inside drained = at_put (λ k x. IsAway (c.state k) → IsAway x) c.state v.place r (λ was. ⊎_elim inside (λ flag. inr (drained ∙ flag)) was) (λ k other was. was)

    others_away : (r : ProcessorState) (k : ℕ) → k ≢ v.place → IsAway (c.state k) → IsAway (with_value_at c.state v.place r k)
    others_away r k other was = subst IsAway (sym (put_else c.state v.place r k other)) was

    -- the processor, raised
    abbrev pub raised_state : ProcessorState
    raised_state = record (c.state v.place) { phase = Raised }

    tracker_set : (r : ProcessorState) (a : Part E L I) (x : ℕ) → r.token ≡ (c.state v.place).token → x ≡ tracker_word a.sections r.phase
        → LockWords c.count c.number (holder_word c.behind) c.holder (tracker_of (with_value_at c.state v.place r) (with_value_at c.part v.place a)) (token_of (with_value_at c.state v.place r)) (slice_set t.words (tracker_index v.place) x)
    tracker_set r a x token is =
        let p : ℕ = v.place in
        words_like (tracker_of (with_value_at c.state p r) (with_value_at c.part p a)) (token_of (with_value_at c.state p r)) (λ k. refl)
        (put_keeps (λ (y : ProcessorState). token_word y.token) c.state p r (ap token_word token))
        (words_tracker p x (tracker_of (with_value_at c.state p r) (with_value_at c.part p a)) live_of.low high_of
        (ap (λ (y : Part E L I). tracker_word y.sections (with_value_at c.state p r p).phase) (put_here c.part p a) ∙ ap (λ (y : ProcessorState). tracker_word a.sections y.phase) (put_here c.state p r) ∙ sym is)
        (λ k other. ap (λ (y : Part E L I). tracker_word y.sections (with_value_at c.state p r k).phase) (put_else c.part p a k other) ∙ ap (λ (y : ProcessorState). tracker_word (c.part k).sections y.phase) (put_else c.state p r k other))
        shows.words)

    -- raise
    pub raise_event : v.phase ≡ Out → core_of (own_core c v.place raised_state (begun_part v.part)) ≡ after (core_of c) (Raise v.place)
    raise_event out = core-put c v.place (λ q. record q { phase = Raised }) live_of.low high_of

    -- after a raise the table shows a state by the rule
    pub raise_shows : (x : ℕ) (hand : Hand E B) → v.phase ≡ Out → x ≡ tracker_word (v.part.sections + 1) Raised
        → Shows m (own_core c v.place raised_state (begun_part v.part)) (stepped t (tracker_index v.place) x id hand (with_step (raised_view v) (tracker_index v.place) x) keeps)
    raise_shows x hand out is =
        let was : (c.state v.place).phase ≡ Out = sym live_of.phase ∙ out in
        own_shows m c t id v (Raise v.place) raised_state (begun_part v.part) (with_step (raised_view v) (tracker_index v.place) x) (slice_set t.words (tracker_index v.place) x) t.homes
        (record {
          shows = shows;
          is_at = is_at;
          role = role;
          core_is = raise_event out;
          may = is_there c (λ q. q.phase ≡ Out) v.place live_of.low high_of was;
          revoked = refl;
          drained = refl;
          words_are = tracker_set raised_state (begun_part v.part) x refl is;
          slots_are = slots_stay m (with_value_at c.state v.place raised_state) (same_away raised_state (λ inside. let clash : Out ≡ In = sym was ∙ inside in absurd cc) refl) shows.slots;
          reading = λ never. absurd cc;
          pairs = same_pairs;
          desk = λ here. absurd (not_at_desk (λ inside. let clash : Out ≡ In = sym was ∙ inside in absurd cc) here);
          own = refl;
          first = refl;
          helds = same_held (begun_part v.part) refl;
          read = same_read;
          refusal = λ x told. inl told;
          now_role = role;
          now_count = refl;
          now_place = refl;
          now_phase = refl;
          now_part = refl;
          now_behind = refl;
          now_book = refl;
        })

    -- a check changes no tracker word and no token word
    words_loaded : (r : ProcessorState) (a : Part E L I) (i : ℕ) → a.sections ≡ v.part.sections → r.token ≡ (c.state v.place).token → tracker_word v.part.sections r.phase ≡ tracker_word v.part.sections (c.state v.place).phase
        → LockWords c.count c.number (holder_word c.behind) c.holder (tracker_of (with_value_at c.state v.place r) (with_value_at c.part v.place a)) (token_of (with_value_at c.state v.place r)) (slice_set t.words i (slice_index t.words i))
    words_loaded r a i sections token phase =
        let p : ℕ = v.place in
        let same : a.sections ≡ (c.part p).sections = sections ∙ ap (λ (y : Part E L I). y.sections) live_of.part in
        words_like (tracker_of (with_value_at c.state p r) (with_value_at c.part p a)) (token_of (with_value_at c.state p r))
        (λ k.
        ap (λ (n : ℕ). tracker_word n (with_value_at c.state p r k).phase) (put_keeps (λ (y : Part E L I). y.sections) c.part p a same k)
        ∙ at_put (λ k x. tracker_word (c.part k).sections x.phase ≡ tracker_word (c.part k).sections (c.state k).phase) c.state p r
        (let e : (c.part p).sections ≡ v.part.sections = ap (λ (y : Part E L I). y.sections) (sym live_of.part) in
        ap (λ (n : ℕ). tracker_word n r.phase) e ∙ phase ∙ ap (λ (n : ℕ). tracker_word n (c.state p).phase) (sym e))
        (λ k other. refl) k)
        (put_keeps (λ (y : ProcessorState). token_word y.token) c.state p r (ap token_word token))
        (words_unchanged i shows.words)

    -- check, where the token is held
    abbrev pub in_state : ProcessorState
    in_state = record (c.state v.place) { phase = In }

    -- a check of a held token makes of the state what its event makes of the lock's core
    pub check_held_event : (a : Part E L I) → (c.state v.place).token ≡ Held → core_of (own_core c v.place in_state a) ≡ after (core_of c) (Check v.place)
    check_held_event a held =
        let same : in_state ≡ after_check (c.state v.place) = ap (λ (k : Token). with_token_read k (c.state v.place)) (sym held) in
        ap (λ (r : ProcessorState). core_of (own_core c v.place r a)) same ∙ core-put c v.place after_check live_of.low high_of

    -- after a check that found the token held the table shows a state by the rule
    pub check_held_shows : (i : ℕ) (hand : Hand E B) (e : E) → v.phase ≡ Raised → (c.state v.place).token ≡ Held → get_elem? t.homes v.place ≡ at.some (at.some (Edition (Some e))) → Current m c.number c.name c.tag e
        → Shows m (own_core c v.place in_state (entered_part m v.part e)) (stepped t i (slice_index t.words i) id hand (with_step (entered_view m v e) i (slice_index t.words i)) (takes v.place (Edition (Some e))))
    check_held_shows i hand e raised held home current =
        let was : (c.state v.place).phase ≡ Raised = sym live_of.phase ∙ raised in
        let a : Part E L I = entered_part m v.part e in
        own_shows m c t id v (Check v.place) in_state a (with_step (entered_view m v e) i (slice_index t.words i)) (slice_set t.words i (slice_index t.words i)) (slice_set t.homes v.place at.none)
        (record {
          shows = shows;
          is_at = is_at;
          role = role;
          core_is = check_held_event a held;
          may = is_there c (λ q. q.phase ≡ Raised) v.place live_of.low high_of was;
          revoked = refl;
          drained = refl;
          words_are = words_loaded in_state a i refl refl (ap (tracker_word v.part.sections) (sym was));
          slots_are = slots_take m (with_value_at c.state v.place in_state) v.place live_of.low (subst IsAway (sym (put_here c.state v.place in_state)) (inl refl)) (others_away in_state) shows.slots;
          reading = λ inside. (e, refl, current);
          pairs = λ j x l is. ⊎_elim (λ old. same_pairs j x l old)
              (λ new.
              let number_is : m.number e ≡ x = ap (λ (z : ℕ × L). z.0) new in
              let name_is : m.name e ≡ l = ap (λ (z : ℕ × L). z.1) new in
              let n : c.number ≡ x = sym current.number_is ∙ number_is in
              (let b = shows.past.begun in omega arith, (c.tag, ap (λ (k : ℕ). get_elem? c.history (k - c.opened)) (sym n) ∙ shows.past.last ∙ ap (λ (y : L). at.some (y, c.tag)) (sym current.name_is ∙ name_is))))
              (at_snoc v.part.pairs (m.number e, m.name e) (x, l) j is);
          desk = λ here. refl;
          own = refl;
          first = refl;
          helds = same_held a refl;
          read = same_read;
          refusal = λ x told. inl told;
          now_role = role;
          now_count = refl;
          now_place = refl;
          now_phase = refl;
          now_part = refl;
          now_behind = refl;
          now_book = refl;
        })

    -- check, where the token is revoked
    pub check_refused_event : (a : Part E L I) (number : ℕ) → (c.state v.place).token ≡ Revoked number → core_of (own_core c v.place (c.state v.place) a) ≡ after (core_of c) (Check v.place)
    check_refused_event a number revoked =
        let same : c.state v.place ≡ after_check (c.state v.place) = ap (λ (k : Token). with_token_read k (c.state v.place)) (sym revoked) in
        ap (λ (r : ProcessorState). core_of (own_core c v.place r a)) same ∙ core-put c v.place after_check live_of.low high_of

    -- after a check that found the token revoked the table shows a state by the rule
    pub check_refused_shows : (i number : ℕ) (hand : Hand E B) → v.phase ≡ Raised → (c.state v.place).token ≡ Revoked number
        → Shows m (own_core c v.place (c.state v.place) (refused_part v.part number)) (stepped t i (slice_index t.words i) id hand (with_step (refused_view v number) i (slice_index t.words i)) keeps)
    check_refused_shows i number hand raised revoked =
        let was : (c.state v.place).phase ≡ Raised = sym live_of.phase ∙ raised in
        let a : Part E L I = refused_part v.part number in
        let may : MayCome (core_of c) (Check v.place) = is_there c (λ q. q.phase ≡ Raised) v.place live_of.low high_of was in
        let outside : (c.state v.place).phase ≢ In = λ inside. let clash : Raised ≡ In = sym was ∙ inside in absurd cc in
        let hears : step_answer (core_of c) (Check v.place) ≡ HeardRevoked number = step_answer-check (core_of c) v.place (c.state v.place) (there c v.place live_of.low high_of) ∙ ap token_answer revoked in
        let pending : IsPending (core_of c) v.place number = pending_check (core_of c) v.place number shows.sound.safe may hears in
        own_shows m c t id v (Check v.place) (c.state v.place) a (with_step (refused_view v number) i (slice_index t.words i)) (slice_set t.words i (slice_index t.words i)) t.homes
        (record {
          shows = shows;
          is_at = is_at;
          role = role;
          core_is = check_refused_event a number revoked;
          may = may;
          revoked = refl;
          drained = refl;
          words_are = words_loaded (c.state v.place) a i refl refl refl;
          slots_are = slots_stay m (with_value_at c.state v.place (c.state v.place)) (same_away (c.state v.place) (λ inside. inl inside) refl) shows.slots;
          reading = λ inside. absurd (outside inside);
          pairs = same_pairs;
          desk = λ here. absurd (not_at_desk outside here);
          own = refl;
          first = refl;
          helds = same_held a refl;
          read = same_read;
          refusal = λ x told. ⊎_elim (λ old. inl old)
              (λ same. inr (subst (λ (n : ℕ). IsPending (core_of (own_core c v.place (c.state v.place) a)) v.place n) same
              (subst (λ (s : CoreState). IsPending s v.place number) (sym (check_refused_event a number revoked)) (Pending-after (core_of c) (Check v.place) v.place number may pending))))
              (greater_is v.part.refusal number x told);
          now_role = role;
          now_count = refl;
          now_place = refl;
          now_phase = live_of.phase;
          now_part = refl;
          now_behind = refl;
          now_book = refl;
        })

    -- lower
    abbrev pub out_state : ProcessorState
    out_state = record (c.state v.place) { phase = Out }

    -- a lowering makes of the state what its event makes of the lock's core
    pub lower_event : core_of (own_core c v.place out_state (left_part v.part)) ≡ after (core_of c) (Lower v.place)
    lower_event = core-put c v.place (λ q. record q { phase = Out }) live_of.low high_of

    -- who has no book is not at its desk
    not_holding : v.book ≡ None → c.holder ≡ v.place → ⊥
    not_holding none here =
        let mine : v.book ≡ (if c.holder == v.place then Some c.book else None) = live_of.book in
        ⊎_elim (λ same. let e : (if c.holder == v.place then Some c.book else None) ≡ Some c.book = ap (λ (b : Bool). if b then Some c.book else None) same.0 in let clash : None ≡ Some c.book = sym none ∙ mine ∙ e in absurd cc)
        (λ other. other.1 here) (eqb_tells c.holder v.place)

    -- after a lowering that leaves the slots by the rule the table shows a state by the rule
    lower_shows : (x : ℕ) (homes : List (at.Option (Slot E B))) → (v.phase ≡ Raised) ⊎ (v.phase ≡ In) → v.book ≡ None → x ≡ tracker_word v.part.sections Out
        → Slots m c.number c.count (with_value_at c.state v.place out_state) c.name c.tag c.holder c.book homes
        → Shows m (own_core c v.place out_state (left_part v.part)) (record { words = slice_set t.words (tracker_index v.place) x; homes = homes; views = slice_set t.views id (with_step (lowered_view v) (tracker_index v.place) x) })
    lower_shows x homes begun none is slots =
        let e : v.phase ≡ (c.state v.place).phase = live_of.phase in
        own_shows m c t id v (Lower v.place) out_state (left_part v.part) (with_step (lowered_view v) (tracker_index v.place) x) (slice_set t.words (tracker_index v.place) x) homes
        (record {
          shows = shows;
          is_at = is_at;
          role = role;
          core_is = lower_event;
          may = is_there c (λ q. (q.phase ≡ Raised) ⊎ (q.phase ≡ In)) v.place live_of.low high_of (⊎_elim (λ r. inl (sym e ∙ r)) (λ r. inr (sym e ∙ r)) begun);
          revoked = refl;
          drained = refl;
          words_are = tracker_set out_state (left_part v.part) x refl is;
          slots_are = slots;
          reading = λ never. absurd cc;
          pairs = same_pairs;
          desk = λ here. absurd (not_holding none here);
          own = refl;
          first = refl;
          helds = same_held (left_part v.part) refl;
          read = same_read;
          refusal = λ x told. inl told;
          now_role = role;
          now_count = refl;
          now_place = refl;
          now_phase = refl;
          now_part = refl;
          now_behind = refl;
          now_book = refl;
        })

    -- after a refused processor's lowering the table shows a state by the rule
    pub lower_raised_shows : (x : ℕ) (hand : Hand E B) → v.phase ≡ Raised → v.book ≡ None → x ≡ tracker_word v.part.sections Out
        → Shows m (own_core c v.place out_state (left_part v.part)) (stepped t (tracker_index v.place) x id hand (with_step (lowered_view v) (tracker_index v.place) x) keeps)
    lower_raised_shows x hand raised none is =
        let was : (c.state v.place).phase ≡ Raised = sym live_of.phase ∙ raised in
        lower_shows x t.homes (inl raised) none is
        (slots_stay m (with_value_at c.state v.place out_state) (same_away out_state (λ inside. let clash : Raised ≡ In = sym was ∙ inside in absurd cc) refl) shows.slots)

    -- after a lowering that gives the edition home the table shows a state by the rule
    pub lower_in_shows : (x : ℕ) (hand : Hand E B) (e : E) → v.phase ≡ In → v.book ≡ None → x ≡ tracker_word v.part.sections Out → Current m c.number c.name c.tag e
        → Shows m (own_core c v.place out_state (left_part v.part)) (stepped t (tracker_index v.place) x id ((v.place, Edition (Some e)) ∷ hand) (with_step (lowered_view v) (tracker_index v.place) x) gives)
    lower_in_shows x hand e inside none is current =
        lower_shows x (slice_set t.homes v.place (at.some (Edition (Some e)))) (inr inside) none is
        (slots_give m (with_value_at c.state v.place out_state) v.place e live_of.low current (others_away out_state) shows.slots)

    -- regain
    abbrev pub held_state : ProcessorState
    held_state = record (c.state v.place) { token = Held }

    -- a regain makes of the state what its event makes of the lock's core
    pub regain_event : (number : ℕ) → core_of (own_core c v.place held_state (regained_part v.part number)) ≡ after (core_of c) (Regain v.place)
    regain_event number = core-put c v.place (λ q. record q { token = Held }) live_of.low high_of

    -- who holds the lock behind is the core's holder
    behind_of : v.behind ≡ true → c.behind ≡ Some v.place
    behind_of held = holder_of c.behind (sym (sym held ∙ live_of.behind))
      where
        holder_of : (o : Option ℕ) → is_held_by o v.place ≡ true → o ≡ Some v.place
        holder_of None is = absurd cc
        holder_of (Some h) is = ⊎_elim (λ same. ap (λ (n : ℕ). Some n) same.1) (λ other. let clash : true ≡ false = sym is ∙ other.0 in absurd cc) (eqb_tells h v.place)

    -- the lock's core allows a regain to a processor that is out and holds the lock behind
    pub regain_may : v.phase ≡ Out → v.behind ≡ true → MayCome (core_of c) (Regain v.place)
    regain_may out behind = (is_there c (λ q. q.phase ≡ Out) v.place live_of.low high_of (sym live_of.phase ∙ out), behind_of behind)

    -- a number that was read under the lock behind is the published one
    pub number_read_is : (number : ℕ) → v.behind ≡ true → v.part.read ≡ Some number → number ≡ c.number
    number_read_is number behind read = same_read number (behind_of behind) read

    -- the number of a refusal is published once the refused processor holds the lock behind
    pub refusal_published : (number : ℕ) → v.phase ≡ Out → v.behind ≡ true → v.part.refusal ≡ Some number → number ≤ c.number
    refusal_published number out behind refused =
        pending_regain (core_of c) v.place number shows.sound.safe (regain_may out behind) (shows.numbers.refusal v.place number (ap (λ (y : Part E L I). y.refusal) (sym live_of.part) ∙ refused))

    -- after a regain the table shows a state by the rule
    pub regain_shows : (number : ℕ) (hand : Hand E B) → v.phase ≡ Out → v.behind ≡ true → v.part.read ≡ Some number
        → Shows m (own_core c v.place held_state (regained_part v.part number)) (stepped t (token_index v.count v.place) 0 id hand (with_step (regained_view v number) (token_index v.count v.place) 0) keeps)
    regain_shows number hand out behind read =
        let p : ℕ = v.place in
        let a : Part E L I = regained_part v.part number in
        let was : (c.state p).phase ≡ Out = sym live_of.phase ∙ out in
        let outside : (c.state p).phase ≢ In = λ inside. let clash : Out ≡ In = sym was ∙ inside in absurd cc in
        let known : number ≡ c.number = number_read_is number behind read in
        own_shows m c t id v (Regain p) held_state a (with_step (regained_view v number) (token_index v.count p) 0) (slice_set t.words (token_index v.count p) 0) t.homes
        (record {
          shows = shows;
          is_at = is_at;
          role = role;
          core_is = regain_event number;
          may = regain_may out behind;
          revoked = refl;
          drained = refl;
          words_are =
              subst (λ (n : ℕ). LockWords c.count c.number (holder_word c.behind) c.holder (tracker_of (with_value_at c.state p held_state) (with_value_at c.part p a)) (token_of (with_value_at c.state p held_state)) (slice_set t.words (token_index n p) 0)) (sym live_of.count)
              (words_like (tracker_of (with_value_at c.state p held_state) (with_value_at c.part p a)) (token_of (with_value_at c.state p held_state))
              (λ k.
              ap (λ (n : ℕ). tracker_word n (with_value_at c.state p held_state k).phase) (put_keeps (λ (y : Part E L I). y.sections) c.part p a (ap (λ (y : Part E L I). y.sections) live_of.part) k)
              ∙ ap (tracker_word (c.part k).sections) (put_keeps (λ (y : ProcessorState). y.phase) c.state p held_state refl k))
              (λ k. refl)
              (words_token p 0 (token_of (with_value_at c.state p held_state)) live_of.low high_of
              (ap (λ (y : ProcessorState). token_word y.token) (put_here c.state p held_state))
              (λ k other. ap (λ (y : ProcessorState). token_word y.token) (put_else c.state p held_state k other))
              shows.words));
          slots_are = slots_stay m (with_value_at c.state p held_state) (same_away held_state (λ inside. inl inside) refl) shows.slots;
          reading = λ inside. absurd (outside inside);
          pairs = same_pairs;
          desk = λ here. absurd (not_at_desk outside here);
          own = refl;
          first = refl;
          helds = at_put (λ k x. x.held ≡ (if k == p then c.number else (c.part k).held)) c.part p a
              (sym (ap (λ (b : Bool). if b then c.number else (c.part p).held) (eq-eqb p p refl) ∙ sym known))
              (λ k other. sym (ap (λ (b : Bool). if b then c.number else (c.part k).held) (ne_eqb k p other)));
          read = same_read;
          refusal = λ x told. absurd cc;
          now_role = role;
          now_count = refl;
          now_place = refl;
          now_phase = live_of.phase;
          now_part = refl;
          now_behind = refl;
          now_book = refl;
        })
