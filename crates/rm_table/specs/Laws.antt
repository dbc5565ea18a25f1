-- That each kind of atomic step is the event of its row in the lock's core, a book step, or no event.
use Rattle.std.specs.Prelude.{◌≡◌, ℕ, ◌+◌, ◌-◌, ◌^◌, ◌<◌, ◌≤◌, ◌⊎◌, ◌==◌, true, false, MatchBool, Some, None, length, slice_index, slice_get, slice_set, [], ◌∷◌, ◌++◌}
use mathlib.Core.Option as at
use lib.ListN.{get_elem?}
use prog.Atomic.{either}
use Rattle.atomic_table.specs.Table.{State, step, stepped, Act, Valid, carried_after}
use Rattle.rm_core.specs.declared.processor_state.Phase.TheVariants.{Out, Raised, In}
use Rattle.rm_core.specs.declared.event.Event.{Event}
use Rattle.rm_core.specs.declared.event.Event.TheVariants.{Raise, Check, Lower, TakeBack, GiveBack, Regain, Revoke, Drain, ReadNumber, Publish}
use Rattle.rm_core.specs.CoreState.{CoreState, MayCome, after}
use Rattle.rm_table.specs.declared.view.Role.TheVariants.{Processor, Operator, Receipt}
use Rattle.rm_table.specs.declared.padded_slot.Slot.{Slot}
use Rattle.rm_table.specs.declared.part.Part.{Part}
use Rattle.rm_table.specs.declared.view.View.{View}
use Rattle.rm_table.specs.Layout.{number_index, behind_index, book_index, tracker_index, token_index, tracker_word}
use Rattle.rm_table.specs.Meanings.{Meanings}
use Rattle.rm_table.specs.Rule.{WholeState, core_of, Shows, Whole}
use Rattle.rm_table.specs.Moves.{HasEdition, HasNext, HasBook, IsOperator, IsWorking, NoneRevoked, AllDrained, is_revoked, is_drained, split_off, right_of, kept_at, joined_view, receipt_view, informed_view, spent_view}
use Rattle.rm_table.specs.Plays.{Seated, TellsRaise, TellsCheck, TellsLower, TellsRegain, TellsTakeBehind, TellsGiveBehind, TellsRevoke, TellsDrain, TellsNumber, TellsPublish, TellsTakeBook, TellsGiveBook}

-- How the lock's core goes on at a step that found this number.
abbrev pub Going : Type 1
Going = CoreState → ℕ → CoreState → Type 0

-- the event may come, and the lock's core takes it
abbrev pub TakesEvent : Event → Going
TakesEvent event = λ s found after_it. MayCome s event × (after_it ≡ after s event)

module _ {E B T L I : Type 0} (m : Meanings E B T L I) where
  -- Whatever state the table shows when the word i becomes f of what it was, the seat has a new view and an act, the table shows a state
  -- by the rule again, the lock's core goes on like this, and `then` is told.
  abbrev pub Makes : ℕ → ℕ → Seated m → ℕ → (ℕ → ℕ) → Going → (ℕ → Seated m → Type 0) → Type 0
  Makes slots id me i f going then = (t : State (Slot E B) (View E B T L I)) (whole : Whole m t) → length t.homes ≡ slots → get_elem? t.views id ≡ at.some me.0 → slice_index t.words i < 18446744073709551616
      → (w : View E B T L I) × (a : Act (Slot E B)) × Valid t.homes me.1 a
      × ((d : WholeState E B T L I) × Shows m d (stepped t i (f (slice_index t.words i)) id me.1 w a) × going (core_of whole.0) (slice_index t.words i) (core_of d))
      × then (slice_index t.words i) (w, carried_after me.1 a)

  -- raise is the core's event Raise: a processor that is out stores an odd number in its tracker
  abbrev pub RaiseLaw : Type 0
  RaiseLaw = (slots id : ℕ) (me : Seated m) (i x : ℕ) → i ≡ tracker_index me.0.place → me.0.role ≡ Processor → me.0.phase ≡ Out → x ≡ tracker_word (me.0.part.sections + 1) Raised
      → Makes slots id me i (λ _. x) (TakesEvent (Raise me.0.place)) (λ _. TellsRaise m (step slots i x 0 at.none) me x)

  -- check is the core's event Check: a processor that is raised loads its token
  abbrev pub CheckLaw : Type 0
  CheckLaw = (slots id : ℕ) (me : Seated m) (i : ℕ) → i ≡ token_index me.0.count me.0.place → me.0.role ≡ Processor → me.0.phase ≡ Raised
      → Makes slots id me i (λ n. n) (TakesEvent (Check me.0.place)) (TellsCheck m (step slots i 0 0 at.none) me)

  -- lower is the core's event Lower: a processor that is raised or in, and hasn't the book, stores an even number in its tracker
  abbrev pub LowerLaw : Type 0
  LowerLaw = (slots id : ℕ) (me : Seated m) (i x : ℕ) → i ≡ tracker_index me.0.place → me.0.role ≡ Processor → (me.0.phase ≡ Raised) ⊎ (me.0.phase ≡ In) → me.0.book ≡ None → (me.0.phase ≡ In → HasEdition m me.0 me.1) → x ≡ tracker_word me.0.part.sections Out
      → Makes slots id me i (λ _. x) (TakesEvent (Lower me.0.place)) (λ _. TellsLower m (step slots i x 0 at.none) me x)

  -- regain is the core's event Regain: a processor that is out, holds the lock behind and has read the number stores 0 in its token
  abbrev pub RegainLaw : Type 0
  RegainLaw = (slots id : ℕ) (me : Seated m) (i number : ℕ) → i ≡ token_index me.0.count me.0.place → me.0.role ≡ Processor → me.0.phase ≡ Out → me.0.behind ≡ true → me.0.part.read ≡ Some number
      → Makes slots id me i (λ _. 0) (TakesEvent (Regain me.0.place)) (λ _. TellsRegain m (step slots i 0 0 at.none) me 0)

  -- a try that finds another holder is no event
  abbrev pub TakeBackLaw : Type 0
  TakeBackLaw = (slots id : ℕ) (me : Seated m) (i x : ℕ) → i ≡ behind_index → IsWorking me.0 → x ≡ me.0.place
      → Makes slots id me i (λ n. either (n == 0) x n) (λ s found after_it. MatchBool (found == 0) (TakesEvent (TakeBack me.0.place) s found after_it) (after_it ≡ s)) (TellsTakeBehind m (step slots i 0 x at.none) me)

  -- give back is the core's event GiveBack: who holds the lock behind stores 0 in its word, the operator only where no token is revoked
  abbrev pub GiveBackLaw : Type 0
  GiveBackLaw = (slots id : ℕ) (me : Seated m) (i : ℕ) → i ≡ behind_index → IsWorking me.0 → me.0.behind ≡ true → (me.0.role ≡ Operator → NoneRevoked me.0)
      → Makes slots id me i (λ _. 0) (TakesEvent (GiveBack me.0.place)) (λ _. TellsGiveBehind m (step slots i 0 0 at.none) me 0)

  -- read number is the core's event ReadNumber: what is loaded is the published number
  abbrev pub ReadNumberLaw : Type 0
  ReadNumberLaw = (slots id : ℕ) (me : Seated m) (i : ℕ) → i ≡ number_index → IsWorking me.0
      → Makes slots id me i (λ n. n) (λ s found after_it. (found ≡ s.number) × (after_it ≡ after s ReadNumber)) (TellsNumber m (step slots i 0 0 at.none) me)

  -- revoke is the core's event Revoke: the operator, who holds the lock behind, stores the next number in a processor's token
  abbrev pub RevokeLaw : Type 0
  RevokeLaw = (slots id : ℕ) (me : Seated m) (i k x : ℕ) → i ≡ token_index me.0.count k → IsOperator me.0 → 0 < k → k ≤ me.0.count → me.0.behind ≡ true → is_revoked me.0 k ≡ false → me.0.number < 2 ^ 64 - 1 → x ≡ me.0.number + 1
      → Makes slots id me i (λ _. x) (TakesEvent (Revoke k)) (λ _. TellsRevoke m (step slots i x 0 at.none) me x)

  -- drain is the core's event Drain: the operator loads the tracker of a processor whose token it revoked
  abbrev pub DrainLaw : Type 0
  DrainLaw = (slots id : ℕ) (me : Seated m) (i k : ℕ) → i ≡ tracker_index k → IsOperator me.0 → 0 < k → k ≤ me.0.count → is_revoked me.0 k ≡ true → is_drained me.0 k ≡ false
      → Makes slots id me i (λ n. n) (TakesEvent (Drain k)) (TellsDrain m (step slots i 0 0 at.none) me)

  -- publish is the core's event Publish: once all processors are drained the operator stores the next number
  abbrev pub PublishLaw : Type 0
  PublishLaw = (slots id : ℕ) (me : Seated m) (i x : ℕ) (book : B) → i ≡ number_index → IsOperator me.0 → HasNext m me.0 me.1 → AllDrained me.0 → me.0.behind ≡ true → me.0.book ≡ Some book → 0 < me.0.count → x ≡ me.0.number + 1
      → Makes slots id me i (λ _. x) (TakesEvent Publish) (λ _. TellsPublish m (step slots i x 0 at.none) me x)

  -- a book step: the lock's core stays
  abbrev pub TakeBookLaw : Type 0
  TakeBookLaw = (slots id : ℕ) (me : Seated m) (i x : ℕ) → i ≡ book_index → IsWorking me.0 → (me.0.role ≡ Processor → me.0.phase ≡ In) → x ≡ me.0.place
      → Makes slots id me i (λ n. either (n == 0) x n) (λ s found after_it. after_it ≡ s) (TellsTakeBook m (step slots i 0 x at.none) me)

  -- a book step too: who has the book stores 0 in its word
  abbrev pub GiveBookLaw : Type 0
  GiveBookLaw = (slots id : ℕ) (me : Seated m) (i : ℕ) → i ≡ book_index → IsWorking me.0 → HasBook m me.0 me.1
      → Makes slots id me i (λ _. 0) (λ s found after_it. after_it ≡ s) (λ _. TellsGiveBook m (step slots i 0 0 at.none) me 0)

  -- splitting and joining seats is no event: the words stay, and so does the lock's core. A processor's seat is split off the opening seat, and
  -- joined into the operator's
  abbrev pub SplitLaw : Type 0
  SplitLaw = (id k : ℕ) (v : View E B T L I) (part : Part E L I) → v.role ≡ Operator → slice_get v.kept k ≡ Some (Some part)
      → (t : State (Slot E B) (View E B T L I)) (whole : Whole m t) → get_elem? t.views id ≡ at.some v
      → (d : WholeState E B T L I) × Shows m d (record { words = t.words; homes = t.homes; views = slice_set t.views id (split_off v k) ++ right_of v k (kept_at v k) ∷ [] }) × (core_of d ≡ core_of whole.0)

  -- a processor's seat, which is out and doesn't hold the lock behind, is joined into the operator's
  abbrev pub JoinLaw : Type 0
  JoinLaw = (id other : ℕ) (v w : View E B T L I) → v.role ≡ Operator → w.role ≡ Processor → w.phase ≡ Out → w.behind ≡ false
      → (t : State (Slot E B) (View E B T L I)) (whole : Whole m t) → get_elem? t.views id ≡ at.some v → ¬ (other ≡ id) → get_elem? (slice_set t.views id (joined_view v w)) other ≡ at.some w
      → (d : WholeState E B T L I) × Shows m d (record { words = t.words; homes = t.homes; views = slice_set (slice_set t.views id (joined_view v w)) other spent_view }) × (core_of d ≡ core_of whole.0)

  -- a receipt's seat is split off the operator's, and joined into a processor's
  abbrev pub ReceiptLaw : Type 0
  ReceiptLaw = (id : ℕ) (v : View E B T L I) → v.role ≡ Operator
      → (t : State (Slot E B) (View E B T L I)) (whole : Whole m t) → get_elem? t.views id ≡ at.some v
      → (d : WholeState E B T L I) × Shows m d (record { words = t.words; homes = t.homes; views = slice_set t.views id v ++ receipt_view v ∷ [] }) × (core_of d ≡ core_of whole.0)

  -- a receipt's seat is joined into a processor's
  abbrev pub HearLaw : Type 0
  HearLaw = (id other : ℕ) (v w : View E B T L I) → v.role ≡ Processor → w.role ≡ Receipt
      → (t : State (Slot E B) (View E B T L I)) (whole : Whole m t) → get_elem? t.views id ≡ at.some v → ¬ (other ≡ id) → get_elem? (slice_set t.views id (informed_view v w)) other ≡ at.some w
      → (d : WholeState E B T L I) × Shows m d (record { words = t.words; homes = t.homes; views = slice_set (slice_set t.views id (informed_view v w)) other spent_view }) × (core_of d ≡ core_of whole.0)

  -- All kinds together: each keeps the running rule, and is the event of its row in the lock's core, a book step, or no event.
  pub record EachKindIsItsEvent : Type 0 where
    -- a processor that is out raises its tracker
    pub raise : RaiseLaw
    -- a processor that is raised loads its token
    pub check : CheckLaw
    -- a processor that is raised or in lowers its tracker
    pub lower : LowerLaw
    -- a seat tries for the lock behind
    pub take_back : TakeBackLaw
    -- who holds the lock behind gives it back
    pub give_back : GiveBackLaw
    -- a processor that holds the lock behind takes its token again
    pub regain : RegainLaw
    -- the operator revokes a processor's token
    pub revoke : RevokeLaw
    -- the operator looks whether a processor whose token it revoked is out
    pub drain : DrainLaw
    -- a seat reads the published number
    pub read_number : ReadNumberLaw
    -- the operator publishes the next number
    pub publish : PublishLaw
    -- a seat tries for the book
    pub take_book : TakeBookLaw
    -- who has the book gives it back
    pub give_book : GiveBookLaw
    -- a processor's seat is split off the opening seat
    pub split_seat : SplitLaw
    -- a processor's seat is joined into the operator's
    pub join_seat : JoinLaw
    -- a receipt's seat is split off the operator's
    pub split_receipt : ReceiptLaw
    -- a receipt's seat is joined into a processor's
    pub join_receipt : HearLaw
