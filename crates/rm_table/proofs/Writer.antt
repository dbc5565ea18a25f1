-- The steps of the operator that revoke a token and find a processor out.
use Rattle.std.proofs.Common.{◌≡◌, ◌≢◌, ℕ, ◌+◌, ◌-◌, ◌%◌, ◌^◌, ◌<◌, ◌≤◌, ◌⊎◌, inl, inr, Bool, true, false, Some, List, [], ◌∷◌, ◌++◌, length, length-set, refl, sym, ◌∙◌, ap, arith, subst, ⊎_elim}
use Rattle.std.specs.Prelude.{slice_get, slice_set, slice_index, slice_index_or, if◌then◌else◌}
use Rattle.std.proofs.lemmas.List.{get_or-set_same, get_or-set_other}
use mathlib.Core.Option as at
use lib.ListN.{get_elem?}
use Rattle.atomic_table.specs.Table.{State, stepped, keeps, takes}
use Rattle.rm_core.specs.declared.processor_state.Phase.{Phase}
use Rattle.rm_core.specs.declared.processor_state.Phase.TheVariants.{Out, Raised, In}
use Rattle.rm_core.specs.declared.processor_state.Token.TheVariants.{Revoked}
use Rattle.rm_core.specs.declared.event.Event.{Event}
use Rattle.rm_core.specs.declared.event.Event.TheVariants.{Revoke, Drain}
use Rattle.rm_core.specs.declared.processor_state.ProcessorState.{ProcessorState}
use Rattle.rm_core.specs.CoreState.{MayCome, after, operator_of, after_drain, with_tracker_read}
use Rattle.rm_core.specs.Runs.{is_regain_of}
use Rattle.rm_table.specs.declared.padded_slot.Slot.{Slot}
use Rattle.rm_table.specs.declared.padded_slot.Slot.TheVariants.{Edition}
use Rattle.rm_table.specs.declared.view.View.{View}
use Rattle.rm_table.specs.Layout.{token_index, tracker_word, token_word, holder_word}
use Rattle.rm_table.specs.Meanings.{Meanings, with_value_at}
use Rattle.rm_table.specs.Rule.{WholeState, core_of, LockWords, tracker_of, token_of, Current, Slots, Live, OperatorKeeps, Shows}
use Rattle.rm_table.specs.Moves.{Hand, with_step, revoked_view, drained_view, is_revoked, is_drained, IsLast, IsOperator}
use Rattle.rm_table.proofs.Base.{put_here, put_else, at_put, put_keeps, at_slice, length-values, values_like, is_there, core-put, words_unchanged, words_like, words_token}
use Rattle.rm_table.proofs.Keeping.{Beside, begins_same, each_after, every_seat_after}
use Rattle.rm_table.proofs.Own.{sound_after, numbers_after}
use Rattle.rm_table.proofs.Locks.{no_receipt, working_live, operator_keeps, held_behind}
use Rattle.rm_table.proofs.Slots.{IsAway, slots_stay, slots_take, at_home}

-- what a revocation and a drain change
abbrev pub state_core : {E B T L I : Type 0} → WholeState E B T L I → ℕ → ProcessorState → WholeState E B T L I
state_core c k r = record c { state = with_value_at c.state k r }

-- the words of a tracker are even where its processor is out
pub even_word : (sections : ℕ) (phase : Phase) → (phase ≡ Out) × (tracker_word sections phase % 2 ≡ 0) ⊎ (phase ≢ Out) × (tracker_word sections phase % 2 ≡ 1)
even_word sections Out = inl (refl, omega arith)
even_word sections Raised = inr ((λ clash. absurd cc), omega arith)
even_word sections In = inr ((λ clash. absurd cc), omega arith)

module _ {E B T L I : Type 0} (m : Meanings E B T L I) where
  module _ (c : WholeState E B T L I) (t : State (Slot E B) (View E B T L I)) (id : ℕ) (v : View E B T L I) (shows : Shows m c t) (is_at : get_elem? t.views id ≡ at.some v) (writer : IsOperator v) where
    -- what the operator's seat knows of itself is so
    pub writer_live : Live m c id v
    writer_live = working_live m c t id v shows is_at (inr writer)

    -- what the operator keeps is so
    pub writer_keeps : OperatorKeeps m c id v
    writer_keeps = operator_keeps m c t id v shows is_at (inr writer) writer.role

    -- the flags of one processor set
    flag_set : (xs : List Bool) (state : ℕ → ProcessorState) (f : ProcessorState → Bool) (k : ℕ) (r : ProcessorState) → k < length xs → f r ≡ true
        → ((j : ℕ) → 0 < j → j ≤ c.count → slice_index_or xs j false ≡ f (state j)) → (j : ℕ) → 0 < j → j ≤ c.count → slice_index_or (slice_set xs k true) j false ≡ f (with_value_at state k r j)
    flag_set xs state f k r inside is flags =
        at_put (λ j x. 0 < j → j ≤ c.count → slice_index_or (slice_set xs k true) j false ≡ f x) state k r
        (λ low high. get_or-set_same xs k true false inside ∙ sym is)
        (λ j other low high. get_or-set_other xs k j true false other ∙ flags j low high)

    -- a step of the operator on one processor's token or flags
    writer_shows : (e : Event) (k : ℕ) (r : ProcessorState) (rs ds : List Bool) (steps : List (ℕ × ℕ)) (words : List ℕ) (homes : List (at.Option (Slot E B))) → core_of (state_core c k r) ≡ after (core_of c) e → MayCome (core_of c) e
        → r.phase ≡ (c.state k).phase → ((j : ℕ) → is_regain_of j e ≡ false)
        → LockWords c.count c.number (holder_word c.behind) c.holder (tracker_of (with_value_at c.state k r) c.part) (token_of (with_value_at c.state k r)) words
        → Slots m c.number c.count (with_value_at c.state k r) c.name c.tag c.holder c.book homes
        → length rs ≡ c.count + 1 → length ds ≡ c.count + 1
        → ((j : ℕ) → 0 < j → j ≤ c.count → slice_index_or rs j false ≡ (with_value_at c.state k r j).revoked)
        → ((j : ℕ) → 0 < j → j ≤ c.count → slice_index_or ds j false ≡ (with_value_at c.state k r j).drained)
        → Shows m (state_core c k r) (record { words = words; homes = homes; views = slice_set t.views id (record v { revoked = rs; drained = ds; steps = steps }) })
    writer_shows e k r rs ds steps words homes core_is may phase unregained words_are slots_are rs_size ds_size rs_are ds_are =
        let d : WholeState E B T L I = state_core c k r in
        let l : Live m c id v = writer_live in
        let o : OperatorKeeps m c id v = writer_keeps in
        let phases : (j : ℕ) → (with_value_at c.state k r j).phase ≡ (c.state j).phase = put_keeps (λ (x : ProcessorState). x.phase) c.state k r phase in
        let beside : Beside c d v.place = record {
          count = refl;
          opened = refl;
          history = begins_same c.history;
          seat = λ j. refl;
          phase = λ j other. phases j;
          part = λ j other. refl;
          behind = λ j other. refl;
          book = λ j other low. refl;
          operator = λ other. absurd (other o.place);
        } in
        record {
          words = words_are;
          sound = sound_after c d e core_is refl may shows.sound.holder shows.sound;
          past = shows.past;
          slots = slots_are;
          insides = record {
            reading = λ j low within inside. shows.insides.reading j low within (sym (phases j) ∙ inside);
            pairs = shows.insides.pairs;
          };
          desk = record {
            inside = λ taken processor. let was = shows.desk.inside taken processor in (was.0, phases c.holder ∙ was.1);
            writer = shows.desk.writer;
            number_is = shows.desk.number_is;
            tag_is = shows.desk.tag_is;
          };
          lists = shows.lists;
          numbers = numbers_after c d e core_is may shows.sound (λ j. sym (ap (λ (z : Bool). if z then c.number else (c.part j).held) (unregained j))) shows.numbers.read (λ j x told. inl told) shows.numbers;
          readiness = shows.readiness;
          seats = every_seat_after c.count c.seat t.views id v (record v { revoked = rs; drained = ds; steps = steps }) is_at (λ j mine. mine) (λ role. role) shows.seats;
          each = each_after m c d v.place id (record v { revoked = rs; drained = ds; steps = steps }) t.views shows.each l.seat beside (record {
            live = λ _. record {
              count = l.count;
              low = l.low;
              high = l.high;
              seat = l.seat;
              phase = l.phase ∙ sym (phases v.place);
              part = l.part;
              behind = l.behind;
              book = l.book;
            };
            processor = (shows.each id v is_at).processor;
            operator = λ role. record {
              place = o.place;
              number = o.number;
              opened = o.opened;
              history = o.history;
              own = o.own;
              ready = o.ready;
              stale = o.stale;
              revoked_size = rs_size;
              drained_size = ds_size;
              kept_size = o.kept_size;
              revoked = rs_are;
              drained = ds_are;
              kept = λ j part is. absurd (writer.split.1 j part (at_slice v.kept j (Some part) is));
            };
            receipt = λ receipt. absurd (no_receipt m c t id v shows is_at (inr writer) receipt);
          });
        }

    -- revoke
    abbrev pub revoked_state : ℕ → ProcessorState
    revoked_state k = record (c.state k) { token = Revoked (c.number + 1); revoked = true }

    -- a revocation makes of the state what its event makes of the lock's core
    pub revoke_event : (k : ℕ) → 0 < k → k ≤ c.count → core_of (state_core c k (revoked_state k)) ≡ after (core_of c) (Revoke k)
    revoke_event k low high = core-put c k (λ q. record q { token = Revoked (c.number + 1); revoked = true }) low high

    -- the operator that holds the lock behind is its holder in the lock's core
    pub holds_behind : v.behind ≡ true → c.behind ≡ Some (operator_of (core_of c))
    holds_behind behind =
        let e : v.place ≡ operator_of (core_of c) = let p = writer_keeps.place in let n = length-values c.state 1 c.count in omega arith in
        held_behind m c t id v shows is_at (inr writer) behind ∙ ap (λ (n : ℕ). Some n) e

    -- the lock's core allows the operator that holds the lock behind to revoke a token that isn't yet
    pub revoke_may : (k : ℕ) → 0 < k → k ≤ v.count → v.behind ≡ true → is_revoked v k ≡ false → v.number < 2 ^ 64 - 1 → MayCome (core_of c) (Revoke k)
    revoke_may k low high behind unrevoked room =
        let within : k ≤ c.count = let e = writer_live.count in omega arith in
        (is_there c (λ q. q.revoked ≡ false) k low within (sym (writer_keeps.revoked k low within) ∙ unrevoked), holds_behind behind, let e = writer_keeps.number in omega arith)

    -- after a revocation the table shows a state by the rule
    pub revoke_shows : (k x : ℕ) (hand : Hand E B) → 0 < k → k ≤ v.count → v.behind ≡ true → is_revoked v k ≡ false → v.number < 2 ^ 64 - 1 → x ≡ v.number + 1
        → Shows m (state_core c k (revoked_state k)) (stepped t (token_index v.count k) x id hand (with_step (revoked_view v k) (token_index v.count k) x) keeps)
    revoke_shows k x hand low high behind unrevoked room is =
        let l : Live m c id v = writer_live in
        let o : OperatorKeeps m c id v = writer_keeps in
        let within : k ≤ c.count = let e = l.count in omega arith in
        let r : ProcessorState = revoked_state k in
        let number : x ≡ c.number + 1 = is ∙ ap (λ (n : ℕ). n + 1) o.number in
        let was : (c.state k).revoked ≡ false = sym (o.revoked k low within) ∙ unrevoked in
        writer_shows (Revoke k) k r (slice_set v.revoked k true) v.drained (v.steps ++ (token_index v.count k, x) ∷ []) (slice_set t.words (token_index v.count k) x) t.homes
        (revoke_event k low within)
        (is_there c (λ q. q.revoked ≡ false) k low within was, holds_behind behind, let e = o.number in omega arith)
        refl (λ j. refl)
        (subst (λ (n : ℕ). LockWords c.count c.number (holder_word c.behind) c.holder (tracker_of (with_value_at c.state k r) c.part) (token_of (with_value_at c.state k r)) (slice_set t.words (token_index n k) x)) (sym l.count)
        (words_like (tracker_of (with_value_at c.state k r) c.part) (token_of (with_value_at c.state k r))
        (λ j. ap (tracker_word (c.part j).sections) (put_keeps (λ (y : ProcessorState). y.phase) c.state k r refl j)) (λ j. refl)
        (words_token k x (token_of (with_value_at c.state k r)) low within (ap (λ (y : ProcessorState). token_word y.token) (put_here c.state k r) ∙ sym number)
        (λ j other. ap (λ (y : ProcessorState). token_word y.token) (put_else c.state k r j other)) shows.words)))
        (slots_stay m (with_value_at c.state k r) (at_put (λ j y. IsAway (c.state j) → IsAway y) c.state k r (λ away. away) (λ j other away. away)) shows.slots)
        (length-set v.revoked k true ∙ o.revoked_size) o.drained_size
        (flag_set v.revoked c.state (λ y. y.revoked) k r (let e = o.revoked_size in omega arith) refl o.revoked)
        (λ j low' within'. o.drained j low' within' ∙ sym (put_keeps (λ (y : ProcessorState). y.drained) c.state k r refl j))

    -- drain
    pub drain_may : (k : ℕ) → 0 < k → k ≤ v.count → is_revoked v k ≡ true → is_drained v k ≡ false → MayCome (core_of c) (Drain k)
    drain_may k low high revoked undrained =
        let within : k ≤ c.count = let e = writer_live.count in omega arith in
        is_there c (λ q. (q.revoked ≡ true) × (q.drained ≡ false)) k low within
        (sym (writer_keeps.revoked k low within) ∙ revoked, sym (writer_keeps.drained k low within) ∙ undrained)

    -- a processor, drained
    abbrev pub drained_state : ℕ → ProcessorState
    drained_state k = record (c.state k) { drained = true }

    -- a drain of a processor that is out makes of the state what its event makes of the lock's core
    pub drain_event : (k : ℕ) → 0 < k → k ≤ c.count → (c.state k).phase ≡ Out → core_of (state_core c k (drained_state k)) ≡ after (core_of c) (Drain k)
    drain_event k low high out =
        let same : drained_state k ≡ after_drain (c.state k) = ap (λ (p : Phase). with_tracker_read p (c.state k)) (sym out) in
        ap (λ (r : ProcessorState). core_of (state_core c k r)) same ∙ core-put c k after_drain low high

    -- a drain that finds the processor raised or in changes nothing
    pub drain_missed_event : (k : ℕ) → 0 < k → k ≤ c.count → (c.state k).phase ≢ Out → core_of c ≡ after (core_of c) (Drain k)
    drain_missed_event k low high inside =
        let same : c.state k ≡ after_drain (c.state k) = not_out (c.state k).phase (c.state k) inside in
        ap (λ (ps : List ProcessorState). record (core_of c) { processors = ps })
        (values_like c.state (with_value_at c.state k (after_drain (c.state k))) 1 c.count (λ j. sym (put_keeps (λ (y : ProcessorState). y) c.state k (after_drain (c.state k)) (sym same) j)))
        ∙ core-put c k after_drain low high
      where
        not_out : (phase : Phase) (q : ProcessorState) → phase ≢ Out → q ≡ with_tracker_read phase q
        not_out Out q inside = absurd (inside refl)
        not_out Raised q inside = refl
        not_out In q inside = refl

    -- a processor that is out and not drained yet has its edition at home
    pub drain_home : (k : ℕ) → 0 < k → k ≤ v.count → is_drained v k ≡ false → (c.state k).phase ≡ Out → (e : E) × (get_elem? t.homes k ≡ at.some (at.some (Edition (Some e)))) × Current m c.number c.name c.tag e
    drain_home k low high undrained out =
        let within : k ≤ c.count = let e = writer_live.count in omega arith in
        at_home m k low within
        (λ away. ⊎_elim (λ inside. let clash : Out ≡ In = sym out ∙ inside in absurd cc) (λ flag. let clash : true ≡ false = sym flag ∙ sym (writer_keeps.drained k low within) ∙ undrained in absurd cc) away)
        shows.slots

    -- after a drain that found the processor out the table shows a state by the rule
    pub drain_shows : (i k : ℕ) (hand : Hand E B) (e : E) → 0 < k → k ≤ v.count → is_revoked v k ≡ true → is_drained v k ≡ false → (c.state k).phase ≡ Out
        → Shows m (state_core c k (drained_state k)) (stepped t i (slice_index t.words i) id hand (with_step (drained_view v k) i (slice_index t.words i)) (takes k (Edition (Some e))))
    drain_shows i k hand e low high revoked undrained out =
        let o : OperatorKeeps m c id v = writer_keeps in
        let within : k ≤ c.count = let e = writer_live.count in omega arith in
        let r : ProcessorState = drained_state k in
        writer_shows (Drain k) k r v.revoked (slice_set v.drained k true) (v.steps ++ (i, slice_index t.words i) ∷ []) (slice_set t.words i (slice_index t.words i)) (slice_set t.homes k at.none)
        (drain_event k low within out) (drain_may k low high revoked undrained) refl (λ j. refl)
        (words_like (tracker_of (with_value_at c.state k r) c.part) (token_of (with_value_at c.state k r))
        (λ j. ap (tracker_word (c.part j).sections) (put_keeps (λ (y : ProcessorState). y.phase) c.state k r refl j))
        (put_keeps (λ (y : ProcessorState). token_word y.token) c.state k r refl)
        (words_unchanged i shows.words))
        (slots_take m (with_value_at c.state k r) k low (subst IsAway (sym (put_here c.state k r)) (inr refl)) (λ j other away. subst IsAway (sym (put_else c.state k r j other)) away) shows.slots)
        o.revoked_size (length-set v.drained k true ∙ o.drained_size)
        (λ j low' within'. o.revoked j low' within' ∙ sym (put_keeps (λ (y : ProcessorState). y.revoked) c.state k r refl j))
        (flag_set v.drained c.state (λ y. y.drained) k r (let e = o.drained_size in omega arith) refl o.drained)

    -- what the operator knows to be last is the last of the history
    pub last_known : (name : L) (tag : T) → name ≡ c.name → tag ≡ c.tag → IsLast v name tag
    last_known name tag name_is tag_is =
        let o : OperatorKeeps m c id v = writer_keeps in
        ap (λ (xs : List (L × T)). slice_get xs (v.number - v.opened)) o.history ∙ ap (λ (n : ℕ). slice_get c.history (n - v.opened)) o.number ∙ ap (λ (n : ℕ). slice_get c.history (c.number - n)) o.opened
        ∙ at_slice c.history (c.number - c.opened) (c.name, c.tag) shows.past.last
        ∙ ap (λ (l : L). Some (l, c.tag)) (sym name_is) ∙ ap (λ (g : T). Some (name, g)) (sym tag_is)
