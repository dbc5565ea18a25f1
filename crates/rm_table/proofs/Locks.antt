-- The steps on the lock behind, the reading of the number, and a try that finds another holder.
use Rattle.std.proofs.Common.{◌≡◌, ◌≢◌, ℕ, zero, suc, ◌+◌, ◌-◌, ◌<◌, ◌≤◌, ◌⊎◌, inl, inr, Bool, true, false, Option, Some, None, List, [], ◌∷◌, ◌++◌, length, refl, sym, ◌∙◌, ap, arith, subst, ⊎_elim, eq-eqb, ne_eqb}
use Rattle.std.specs.Prelude.{slice_set, slice_index, if◌then◌else◌, All, ◌==◌}
use Rattle.std.proofs.lemmas.Bool.{eqb-true}
use Rattle.std.proofs.lemmas.Bool.Decides.{eqb_tells}
use mathlib.Core.Option as at
use lib.ListN.{get_elem?}
use Rattle.atomic_table.specs.Table.{State, stepped, keeps}
use Rattle.atomic_table.proofs.Lists.{at_longer}
use Rattle.rm_core.specs.declared.event.Event.{Event}
use Rattle.rm_core.specs.declared.event.Event.TheVariants.{TakeBack, GiveBack, ReadNumber}
use Rattle.rm_core.specs.CoreState.{MayCome, after}
use Rattle.rm_core.specs.Runs.{is_regain_of}
use Rattle.rm_table.specs.declared.view.Role.TheVariants.{Processor, Operator, Receipt}
use Rattle.rm_table.specs.declared.padded_slot.Slot.{Slot}
use Rattle.rm_table.specs.declared.part.Part.{Part}
use Rattle.rm_table.specs.declared.view.View.{View}
use Rattle.rm_table.specs.Layout.{behind_index, tracker_word, holder_word, is_held_by}
use Rattle.rm_table.specs.Meanings.{Meanings, numbered_names, with_value_at, BeginsWith}
use Rattle.rm_table.specs.Rule.{WholeState, core_of, LockWords, tracker_of, token_of, InHistory, Live, OperatorKeeps, Shows}
use Rattle.rm_table.specs.Moves.{Hand, with_step, behind_part, behind_taken, unread_part, behind_given, read_part, number_read, informed_part, informed_view, AllSplit, IsWorking, NoneRevoked}
use Rattle.rm_table.proofs.Base.{put_here, put_else, at_put, put_keeps, at_slice, all_values, length-values, words_unchanged, words_like, words_behind}
use Rattle.rm_table.proofs.Keeping.{Beside, begins_same, each_after, every_seat_after}
use Rattle.rm_table.proofs.Own.{sound_after, numbers_after}

-- what a step on the lock behind changes
abbrev pub lock_core : {E B T L I : Type 0} → WholeState E B T L I → ℕ → Option ℕ → Part E L I → WholeState E B T L I
lock_core c p b a = record c { behind = b; part = with_value_at c.part p a }

-- a part that shows the same but for what was read, for pairs seen and for counts
pub record SamePart {E L I : Type 0} (a b : Part E L I) : Type 0 where
  pub sections : a.sections ≡ b.sections
  pub held : a.held ≡ b.held
  pub refusal : a.refusal ≡ b.refusal
  pub reading : a.reading ≡ b.reading
  pub own : a.own ≡ b.own
  pub first : a.first ≡ b.first

module _ {E B T L I : Type 0} (m : Meanings E B T L I) where
  module _ (c : WholeState E B T L I) (t : State (Slot E B) (View E B T L I)) (id : ℕ) (v : View E B T L I) (shows : Shows m c t) (is_at : get_elem? t.views id ≡ at.some v) (working : IsWorking v) where
    -- who works is a processor or the operator
    pub somebody : (v.role ≡ Processor) ⊎ (v.role ≡ Operator)
    somebody = ⊎_elim (λ processor. inl processor) (λ operator. inr operator.role) working

    -- who works is no receipt
    pub no_receipt : v.role ≡ Receipt → ⊥
    no_receipt receipt = ⊎_elim (λ processor. let clash : Processor ≡ Receipt = sym processor ∙ receipt in absurd cc) (λ operator. let clash : Operator ≡ Receipt = sym operator ∙ receipt in absurd cc) somebody

    -- what a seat at work knows of itself is so
    pub working_live : Live m c id v
    working_live = (shows.each id v is_at).live somebody

    -- who has the book is its holder
    pub book_holder : (book : B) → v.book ≡ Some book → (c.holder ≡ v.place) × (c.book ≡ book)
    book_holder book has = by_test (c.holder == v.place) refl
      where
        by_test : (b : Bool) → (c.holder == v.place) ≡ b → (c.holder ≡ v.place) × (c.book ≡ book)
        by_test true is =
            let e : v.book ≡ Some c.book = working_live.book ∙ ap (λ (b : Bool). if b then Some c.book else None) is in
            (eqb-true c.holder v.place is, cc)
        by_test false is =
            let e : v.book ≡ None = working_live.book ∙ ap (λ (b : Bool). if b then Some c.book else None) is in
            absurd cc

    -- nothing is kept of any processor
    pub nothing_kept : v.role ≡ Operator → AllSplit v
    nothing_kept role = ⊎_elim (λ processor. let clash : Processor ≡ Operator = sym processor ∙ role in absurd cc) (λ operator. operator.split) working

    -- what the operator at work keeps is so
    pub operator_keeps : v.role ≡ Operator → OperatorKeeps m c id v
    operator_keeps role = (shows.each id v is_at).operator role

    -- the view after the step, where it differs in these fields alone
    abbrev pub moved : Bool → Part E L I → List (ℕ × ℕ) → View E B T L I
    moved behind a steps = record v { behind = behind; part = a; steps = steps }

    -- after a step on the lock behind the table shows a state by the rule
    lock_shows : (e : Event) (b : Option ℕ) (behind : Bool) (a : Part E L I) (steps : List (ℕ × ℕ)) (words : List ℕ) → core_of (lock_core c v.place b a) ≡ after (core_of c) e → MayCome (core_of c) e
        → behind ≡ is_held_by b v.place → ((k : ℕ) → k ≢ v.place → is_held_by b k ≡ is_held_by c.behind k) → ((k : ℕ) → k ≢ v.place → b ≡ Some k → c.behind ≡ Some k) → ((h : ℕ) → b ≡ Some h → (0 < h) × (h ≤ c.count + 1))
        → ((k : ℕ) → is_regain_of k e ≡ false) → SamePart a v.part → ((x : ℕ) → v.place ≤ c.count → b ≡ Some v.place → a.read ≡ Some x → x ≡ c.number)
        → (v.place ≤ c.count → (j x : ℕ) (l : L) → get_elem? a.pairs j ≡ at.some (x, l) → InHistory c.opened c.history x l)
        → LockWords c.count c.number (holder_word b) c.holder (tracker_of c.state c.part) (token_of c.state) words
        → Shows m (lock_core c v.place b a) (record { words = words; homes = t.homes; views = slice_set t.views id (moved behind a steps) })
    lock_shows e b behind a steps words core_is may behind_is others others_some bounds unregained same read pairs words_are =
        let p : ℕ = v.place in
        let d : WholeState E B T L I = lock_core c p b a in
        let l : Live m c id v = working_live in
        let part_is : with_value_at c.part p a p ≡ a = put_here c.part p a in
        let was : v.part ≡ c.part p = l.part in
        let beside : Beside c d p = record {
          count = refl;
          opened = refl;
          history = begins_same c.history;
          seat = λ k. refl;
          phase = λ k other. refl;
          part = λ k other. put_else c.part p a k other;
          behind = others;
          book = λ k other low. refl;
          operator = λ _. record { number = refl; opened = refl; history = refl; own = refl; ready = refl; stale = refl; revoked = λ k. refl; drained = λ k. refl; token = λ k other. refl };
        } in
        record {
          words = words_like (tracker_of c.state d.part) (token_of c.state)
              (λ k. ap (λ (n : ℕ). tracker_word n (c.state k).phase) (put_keeps (λ (y : Part E L I). y.sections) c.part p a (same.sections ∙ ap (λ (y : Part E L I). y.sections) was) k)) (λ k. refl) words_are;
          sound = sound_after c d e core_is refl may bounds shows.sound;
          past = shows.past;
          slots = shows.slots;
          insides = record {
            reading = λ k low within inside. let got = shows.insides.reading k low within inside in
                (got.0, put_keeps (λ (y : Part E L I). y.reading) c.part p a (same.reading ∙ ap (λ (y : Part E L I). y.reading) was) k ∙ got.1, got.2);
            pairs = at_put (λ k (y : Part E L I). 0 < k → k ≤ c.count → (j x : ℕ) (l : L) → get_elem? y.pairs j ≡ at.some (x, l) → InHistory c.opened c.history x l) c.part p a
                (λ low within. pairs within)
                (λ k other. shows.insides.pairs k);
          };
          desk = shows.desk;
          lists = record {
            lists = λ k low within. shows.lists.lists k low within ∙ sym (put_keeps (λ (y : Part E L I). y.own) c.part p a (same.own ∙ ap (λ (y : Part E L I). y.own) was) k);
            list_0 = shows.lists.list_0;
            begins = λ k low within. subst (λ (xs : List I). BeginsWith c.own xs) (sym (put_keeps (λ (y : Part E L I). y.first) c.part p a (same.first ∙ ap (λ (y : Part E L I). y.first) was) k)) (shows.lists.begins k low within);
          };
          numbers = numbers_after c d e core_is may shows.sound
              (λ k. put_keeps (λ (y : Part E L I). y.held) c.part p a (same.held ∙ ap (λ (y : Part E L I). y.held) was) k ∙ sym (ap (λ (z : Bool). if z then c.number else (c.part k).held) (unregained k)))
              (λ k x. at_put (λ k (y : Part E L I). k ≤ c.count → b ≡ Some k → y.read ≡ Some x → x ≡ c.number) c.part p a (read x) (λ k other within holds. shows.numbers.read k x within (others_some k other holds)) k)
              (λ k x told. inl (sym (put_keeps (λ (y : Part E L I). y.refusal) c.part p a (same.refusal ∙ ap (λ (y : Part E L I). y.refusal) was) k) ∙ told))
              shows.numbers;
          readiness = shows.readiness;
          seats = every_seat_after c.count c.seat t.views id v (moved behind a steps) is_at (λ k mine. mine) (λ role. role) shows.seats;
          each = each_after m c d p id (moved behind a steps) t.views shows.each l.seat beside (record {
            live = λ _. record {
              count = l.count;
              low = l.low;
              high = l.high;
              seat = l.seat;
              phase = l.phase;
              part = sym part_is;
              behind = behind_is;
              book = l.book;
            };
            processor = (shows.each id v is_at).processor;
            operator = λ role. let k : OperatorKeeps m c id v = operator_keeps role in record {
              place = k.place;
              number = k.number;
              opened = k.opened;
              history = k.history;
              own = k.own;
              ready = k.ready;
              stale = k.stale;
              revoked_size = k.revoked_size;
              drained_size = k.drained_size;
              kept_size = k.kept_size;
              revoked = k.revoked;
              drained = k.drained;
              kept = λ j part is. absurd ((nothing_kept role).1 j part (at_slice v.kept j (Some part) is));
            };
            receipt = λ receipt. absurd (no_receipt receipt);
          });
        }

    -- the pairs of a part are those that it had
    same_pairs : v.place ≤ c.count → (j x : ℕ) (l : L) → get_elem? v.part.pairs j ≡ at.some (x, l) → InHistory c.opened c.history x l
    same_pairs within j x l is = shows.insides.pairs v.place working_live.low within j x l (ap (λ (y : Part E L I). get_elem? y.pairs j) (sym working_live.part) ∙ is)

    -- take back, where nobody holds it
    pub take_back_may : c.behind ≡ None → MayCome (core_of c) (TakeBack v.place)
    take_back_may free = ((working_live.low, let h = working_live.high in let e = length-values c.state 1 c.count in omega arith), free)

    -- once the free lock behind is taken the table shows a state by the rule
    pub take_back_shows : (hand : Hand E B) (found : ℕ) → c.behind ≡ None
        → Shows m (lock_core c v.place (Some v.place) (behind_part v.part)) (stepped t behind_index v.place id hand (with_step (behind_taken v) behind_index found) keeps)
    take_back_shows hand found free =
        lock_shows (TakeBack v.place) (Some v.place) true (behind_part v.part) (v.steps ++ (behind_index, found) ∷ []) (slice_set t.words behind_index v.place) refl (take_back_may free)
        (sym (eq-eqb v.place v.place refl))
        (λ k other. ne_eqb v.place k (λ e. other (sym e)) ∙ ap (λ (o : Option ℕ). is_held_by o k) (sym free))
        (λ k other is. let same : v.place ≡ k = cc in absurd (other (sym same)))
        (λ h is. let same : v.place ≡ h = cc in let low = working_live.low in let high = working_live.high in (omega arith, omega arith))
        (λ k. refl)
        (record { sections = refl; held = refl; refusal = refl; reading = refl; own = refl; first = refl })
        (λ x within holds read. absurd cc)
        same_pairs
        (words_behind v.place shows.words)

    -- who holds the lock behind is the core's holder
    pub held_behind : v.behind ≡ true → c.behind ≡ Some v.place
    held_behind held = holder_of c.behind (sym (sym held ∙ working_live.behind))
      where
        holder_of : (o : Option ℕ) → is_held_by o v.place ≡ true → o ≡ Some v.place
        holder_of None is = absurd cc
        holder_of (Some h) is = ⊎_elim (λ same. ap (λ (n : ℕ). Some n) same.1) (λ other. let clash : true ≡ false = sym is ∙ other.0 in absurd cc) (eqb_tells h v.place)

    -- give back
    pub give_back_may : v.behind ≡ true → (v.role ≡ Operator → NoneRevoked v) → MayCome (core_of c) (GiveBack v.place)
    give_back_may held unrevoked = (
      (working_live.low, let h = working_live.high in let e = length-values c.state 1 c.count in omega arith),
      held_behind held,
      λ same. none_revoked same,
    )
      where
        none_revoked : v.place ≡ length (core_of c).processors + 1 → All (λ p. p.revoked ≡ false) (core_of c).processors
        none_revoked same =
            let n : length (core_of c).processors ≡ c.count = length-values c.state 1 c.count in
            let role : v.role ≡ Operator = ⊎_elim (λ processor. let high = (shows.each id v is_at).processor processor in absurd (omega arith)) (λ operator. operator.role) working in
            let k : OperatorKeeps m c id v = operator_keeps role in
            all_values (λ p. p.revoked ≡ false) c.state 1 c.count
            (λ j low within. sym (k.revoked j (omega arith) (omega arith)) ∙ unrevoked role j (omega arith) (let e = working_live.count in omega arith))

    -- once the lock behind is given back the table shows a state by the rule
    pub give_back_shows : (hand : Hand E B) → v.behind ≡ true → (v.role ≡ Operator → NoneRevoked v)
        → Shows m (lock_core c v.place None (unread_part v.part)) (stepped t behind_index 0 id hand (with_step (behind_given v) behind_index 0) keeps)
    give_back_shows hand held unrevoked =
        let was : c.behind ≡ Some v.place = held_behind held in
        lock_shows (GiveBack v.place) None false (unread_part v.part) (v.steps ++ (behind_index, 0) ∷ []) (slice_set t.words behind_index 0) refl (give_back_may held unrevoked)
        refl
        (λ k other. sym (ap (λ (o : Option ℕ). is_held_by o k) was ∙ ne_eqb v.place k (λ e. other (sym e))))
        (λ k other is. absurd cc)
        (λ h is. absurd cc)
        (λ k. refl)
        (record { sections = refl; held = refl; refusal = refl; reading = refl; own = refl; first = refl })
        (λ x within holds read. absurd cc)
        same_pairs
        (words_behind 0 shows.words)

    -- read number
    read_part_same : (behind : Bool) (number : ℕ) → SamePart (read_part behind v.part number) v.part
    read_part_same true number = record { sections = refl; held = refl; refusal = refl; reading = refl; own = refl; first = refl }
    read_part_same false number = record { sections = refl; held = refl; refusal = refl; reading = refl; own = refl; first = refl }

    read_part_read : (behind : Bool) (number x : ℕ) → number ≡ c.number → v.place ≤ c.count → c.behind ≡ Some v.place → (read_part behind v.part number).read ≡ Some x → x ≡ c.number
    read_part_read true number x is within holds read = let same : number ≡ x = cc in sym same ∙ is
    read_part_read false number x is within holds read = shows.numbers.read v.place x within holds (ap (λ (y : Part E L I). y.read) (sym working_live.part) ∙ read)

    read_part_pairs : (behind : Bool) (number : ℕ) → v.place ≤ c.count → (j x : ℕ) (l : L) → get_elem? (read_part behind v.part number).pairs j ≡ at.some (x, l) → InHistory c.opened c.history x l
    read_part_pairs true number = same_pairs
    read_part_pairs false number = same_pairs

    -- once the number is read the table shows a state by the rule
    pub read_number_shows : (i number : ℕ) (hand : Hand E B) → number ≡ c.number
        → Shows m (lock_core c v.place c.behind (read_part v.behind v.part number)) (stepped t i (slice_index t.words i) id hand (with_step (number_read v number) i (slice_index t.words i)) keeps)
    read_number_shows i number hand is =
        lock_shows ReadNumber c.behind v.behind (read_part v.behind v.part number) (v.steps ++ (i, slice_index t.words i) ∷ []) (slice_set t.words i (slice_index t.words i)) refl tt
        working_live.behind (λ k other. refl) (λ k other is. is) shows.sound.holder (λ k. refl) (read_part_same v.behind number)
        (λ x. read_part_read v.behind number x is) (read_part_pairs v.behind number) (words_unchanged i shows.words)

    -- a try that finds another holder changes nothing
    pub missed_shows : (i found : ℕ) (words : List ℕ) → words ≡ t.words
        → Shows m (lock_core c v.place c.behind v.part) (record { words = words; homes = t.homes; views = slice_set t.views id (with_step v i found) })
    missed_shows i found words same =
        lock_shows ReadNumber c.behind v.behind v.part (v.steps ++ (i, found) ∷ []) words refl tt
        working_live.behind (λ k other. refl) (λ k other is. is) shows.sound.holder (λ k. refl)
        (record { sections = refl; held = refl; refusal = refl; reading = refl; own = refl; first = refl })
        (λ x within holds read. shows.numbers.read v.place x within holds (ap (λ (y : Part E L I). y.read) (sym working_live.part) ∙ read))
        same_pairs
        (subst (λ (xs : List ℕ). LockWords c.count c.number (holder_word c.behind) c.holder (tracker_of c.state c.part) (token_of c.state) xs) (sym same) shows.words)

  -- a receipt's names in the pairs of the processor that has heard it
  numbered_at : (from : ℕ) (history : List (L × T)) (i x : ℕ) (l : L) → get_elem? (numbered_names from history) i ≡ at.some (x, l) → (x ≡ from + i) × ((tag : T) × (get_elem? history i ≡ at.some (l, tag)))
  numbered_at from [] i x l is = absurd (at.some-ne-none (x, l) (sym is))
  numbered_at from (y ∷ ys) zero x l is =
      let e = at.some-injective (from, y.0) (x, l) is in
      let number : from ≡ x = ap (λ (z : ℕ × L). z.0) e in
      let name : y.0 ≡ l = ap (λ (z : ℕ × L). z.1) e in
      (omega (arith, number), (y.1, ap (λ (n : L). at.some (n, y.1)) name))
  numbered_at from (y ∷ ys) (suc i) x l is = let got = numbered_at (from + 1) ys i x l is in (let e = got.0 in omega arith, got.1)

  at_append : {A : Type 0} (xs ys : List A) (j : ℕ) (a : A) → get_elem? (xs ++ ys) j ≡ at.some a → (get_elem? xs j ≡ at.some a) ⊎ ((i : ℕ) × (get_elem? ys i ≡ at.some a))
  at_append [] ys j a is = inr (j, is)
  at_append (x ∷ xs) ys zero a is = inl is
  at_append (x ∷ xs) ys (suc j) a is = at_append xs ys j a is

  -- join seat, of a receipt: what the processor has heard is in the history
  pub hear_shows : (c : WholeState E B T L I) (t : State (Slot E B) (View E B T L I)) (id other : ℕ) (v w : View E B T L I) → Shows m c t → get_elem? t.views id ≡ at.some v → v.role ≡ Processor → get_elem? t.views other ≡ at.some w → w.role ≡ Receipt
      → Shows m (lock_core c v.place c.behind (informed_part v.part w.opened w.history)) (record { words = t.words; homes = t.homes; views = slice_set t.views id (informed_view v w) })
  hear_shows c t id other v w shows is_at role there receipt =
      let l : Live m c id v = working_live c t id v shows is_at (inl role) in
      let r = (shows.each other w there).receipt receipt in
      lock_shows c t id v shows is_at (inl role) ReadNumber c.behind v.behind (informed_part v.part w.opened w.history) v.steps t.words refl tt
      l.behind (λ k other. refl) (λ k other is. is) shows.sound.holder (λ k. refl)
      (record { sections = refl; held = refl; refusal = refl; reading = refl; own = refl; first = refl })
      (λ x within holds read. shows.numbers.read v.place x within holds (ap (λ (y : Part E L I). y.read) (sym l.part) ∙ read))
      (λ within j x name is. ⊎_elim
      (λ old. same_pairs c t id v shows is_at (inl role) within j x name old)
      (λ new.
      let got = numbered_at w.opened w.history new.0 x name new.1 in
      let from : x - c.opened ≡ new.0 = let e = got.0 in let o = r.opened_is in omega arith in
      (let e = got.0 in let o = r.opened_is in omega arith, (got.1.0, ap (get_elem? c.history) from ∙ ap (λ (h : List (L × T)). get_elem? h new.0) r.prefix.1 ∙ at_longer w.history r.prefix.0 new.0 (name, got.1.0) got.1.1)))
      (at_append v.part.pairs (numbered_names w.opened w.history) j (x, name) is))
      shows.words
