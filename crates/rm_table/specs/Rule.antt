-- The running rule: what holds of the table between any two atomic steps of a lock, whatever threads have the seats.
use Rattle.std.specs.Prelude.{◌≡◌, ◌≢◌, ◌⊎◌, ℕ, ◌+◌, ◌-◌, ◌*◌, ◌<◌, ◌≤◌, ◌==◌, Bool, true, false, if◌then◌else◌, Option, Some, None, List, length, slice_index, slice_index_or}
use mathlib.Core.Option as at
use lib.ListN.{get_elem?}
use Rattle.atomic_table.specs.Table.{State}
use Rattle.rm_core.specs.declared.processor_state.Phase.TheVariants.{Out, In}
use Rattle.rm_core.specs.declared.processor_state.Token.TheVariants.{Held, Revoked}
use Rattle.rm_core.specs.CoreState.{CoreState, Safe, Fits, IsProcessor, processor_of}
use Rattle.rm_core.specs.declared.processor_state.ProcessorState.{ProcessorState}
use Rattle.rm_table.specs.declared.view.Role.TheVariants.{Processor, Operator, Receipt}
use Rattle.rm_table.specs.declared.padded_slot.Slot.{Slot}
use Rattle.rm_table.specs.declared.padded_slot.Slot.TheVariants.{Edition, Book}
use Rattle.rm_table.specs.declared.part.Part.{Part}
use Rattle.rm_table.specs.declared.view.View.{View}
use Rattle.rm_table.specs.Layout.{index_of_word, word_count, number_index, behind_index, book_index, tracker_index, token_index, tracker_word, token_word, holder_word, is_held_by}
use Rattle.rm_table.specs.Meanings.{Meanings, values_from, BeginsWith}
use Rattle.rm_table.specs.Moves.{KeepsPart}

-- The state that words, slots and views show together. Of the lock's core: the published number N, the number n of processors, who holds
-- the lock behind, and each processor by its place. Beside it: which seat has each place, what is kept of each processor, the
-- book's holder (0: nobody), the book at home or as its holder took it, and what the operator keeps. Place n + 1 is the operator's.
pub record WholeState (E B T L I : Type 0) : Type 0 where
  pub number : ℕ
  pub count : ℕ
  pub behind : Option ℕ
  pub state : ℕ → ProcessorState
  pub seat : ℕ → ℕ
  pub part : ℕ → Part E L I
  pub holder : ℕ
  pub book : B
  pub stale : Bool
  pub ready : Bool
  pub opened : ℕ
  pub history : List (L × T)
  pub name : L
  pub tag : T
  pub own : List I

-- the state of the lock's core
abbrev pub core_of : {E B T L I : Type 0} → WholeState E B T L I → CoreState
core_of c = record { number = c.number; holder = c.behind; processors = values_from c.state 1 c.count }

-- the book, where this place has it
abbrev pub lent_book : {B : Type 0} → ℕ → B → ℕ → Option B
lent_book holder book place = if holder == place then Some book else None

-- Part 1, the words: the number, who holds the two locks, and of each processor tracker and token. The unused words between them are 0.
pub record LockWords (n number behind holder : ℕ) (tracker token : ℕ → ℕ) (words : List ℕ) : Type 0 where
  pub size : length words ≡ word_count n
  pub number_is : slice_index words number_index ≡ number
  pub behind_is : slice_index words behind_index ≡ behind
  pub book_is : slice_index words book_index ≡ holder
  pub trackers : (k : ℕ) → 0 < k → k ≤ n → slice_index words (tracker_index k) ≡ tracker k
  pub tokens : (k : ℕ) → 0 < k → k ≤ n → slice_index words (token_index n k) ≡ token k
  pub between : (w k : ℕ) → w ≤ 2 * n + 2 → 0 < k → k < 8 → slice_index words (index_of_word w + k) ≡ 0

-- what the tracker's word of processor k says
abbrev pub tracker_of : {E L I : Type 0} → (ℕ → ProcessorState) → (ℕ → Part E L I) → ℕ → ℕ
tracker_of state part k = tracker_word (part k).sections (state k).phase

-- what the token's word of processor k says
abbrev pub token_of : (ℕ → ProcessorState) → ℕ → ℕ
token_of state k = token_word (state k).token

-- Part 1, the state: it is a safe one, and its numbers fit a word.
pub record Sound (n : ℕ) (s : CoreState) : Type 0 where
  pub safe : Safe s
  pub fits : Fits s
  pub holder : (h : ℕ) → s.holder ≡ Some h → (0 < h) × (h ≤ n + 1)

-- the refusal at t is published, or will be with the next publication, for which the processor is revoked
abbrev pub IsPending : CoreState → ℕ → ℕ → Type 0
IsPending s k t = (t ≤ s.number) ⊎ ((t ≤ s.number + 1) × IsProcessor s k (λ p. p.revoked ≡ true))

-- Part 2, the history: one name with its tag for each number from the opening one to N, and the last is the current one.
pub record Past {L T : Type 0} (number opened : ℕ) (history : List (L × T)) (name : L) (tag : T) : Type 0 where
  pub begun : opened ≤ number
  pub counts : opened + length history ≡ number + 1
  pub last : get_elem? history (number - opened) ≡ at.some (name, tag)

-- the history has this name at that number
abbrev pub InHistory : {L T : Type 0} → ℕ → List (L × T) → ℕ → L → Type 0
InHistory {L} {T} opened history number name = (opened ≤ number) × ((tag : T) × (get_elem? history (number - opened) ≡ at.some (name, tag)))

-- Part 6: whoever holds its token knows N, whoever was revoked at s a number below s. A number read under the lock behind is N. A refusal
-- is published, or will be with the next publication.
pub record Numbers {E L I : Type 0} (n : ℕ) (s : CoreState) (part : ℕ → Part E L I) : Type 0 where
  pub held : (k : ℕ) (p : ProcessorState) → processor_of s k ≡ Some p → p.token ≡ Held → (part k).held ≡ s.number
  pub revoked : (k : ℕ) (p : ProcessorState) → processor_of s k ≡ Some p → (t : ℕ) → p.token ≡ Revoked t → (part k).held < t
  pub read : (k x : ℕ) → k ≤ n → s.holder ≡ Some k → (part k).read ≡ Some x → x ≡ s.number
  pub refusal : (k x : ℕ) → (part k).refusal ≡ Some x → IsPending s k x

module _ {E B T L I : Type 0} where
  -- Part 8: a receipt keeps a prefix of the history, from the opening on. It has at least one name, and its number is that of the last.
  pub record KeepsPrefix (opened : ℕ) (history : List (L × T)) (v : View E B T L I) : Type 0 where
    pub opened_is : v.opened ≡ opened
    pub prefix : BeginsWith history v.history
    pub begun : v.opened ≤ v.number
    pub counts : v.opened + length v.history ≡ v.number + 1

  -- the view is that of the processor at that place, or the operator's, which keeps it
  abbrev pub IsSeatOf : View E B T L I → ℕ → Type 0
  IsSeatOf v k = ((v.role ≡ Processor) × (v.place ≡ k)) ⊎ ((v.role ≡ Operator) × KeepsPart v k)

  -- Every seat exists: each processor has a seat of its own, or the operator's keeps its place, and there is the operator's.
  pub record EverySeat (n : ℕ) (seat : ℕ → ℕ) (views : List (View E B T L I)) : Type 0 where
    pub processors : (k : ℕ) → 0 < k → k ≤ n → (v : View E B T L I) × (get_elem? views (seat k) ≡ at.some v) × IsSeatOf v k
    pub operator : (v : View E B T L I) × (get_elem? views (seat (n + 1)) ≡ at.some v) × (v.role ≡ Operator)

module _ {E B T L I : Type 0} (m : Meanings E B T L I) where
  -- the edition is the one that is published
  pub record Current (number : ℕ) (name : L) (tag : T) (e : E) : Type 0 where
    pub number_is : m.number e ≡ number
    pub name_is : m.name e ≡ name
    pub tag_is : m.tag e ≡ tag

  -- Part 2, the slots: an edition at home is the published one. Slot i is away only with processor i, which is in, or with
  -- the operator while i is drained. The book is at home where nobody has it.
  pub record Slots (number n : ℕ) (state : ℕ → ProcessorState) (name : L) (tag : T) (holder : ℕ) (book : B) (homes : List (at.Option (Slot E B))) : Type 0 where
    pub size : length homes ≡ n + 1
    pub home : (k : ℕ) (y : Slot E B) → 0 < k → k ≤ n → get_elem? homes k ≡ at.some (at.some y) → (e : E) × (y ≡ Edition (Some e)) × Current number name tag e
    pub away : (k : ℕ) → 0 < k → k ≤ n → get_elem? homes k ≡ at.some at.none → ((state k).phase ≡ In) ⊎ ((state k).drained ≡ true)
    pub book_home : (y : Slot E B) → get_elem? homes 0 ≡ at.some (at.some y) → y ≡ Book (Some book)
    pub book_away : get_elem? homes 0 ≡ at.some at.none → holder ≢ 0

  -- Part 3: who is in reads the published edition, which its check found in its slot. Each number and name that a processor has seen
  -- is in the history.
  pub record Insides (number n : ℕ) (state : ℕ → ProcessorState) (opened : ℕ) (history : List (L × T)) (name : L) (tag : T) (part : ℕ → Part E L I) : Type 0 where
    pub reading : (k : ℕ) → 0 < k → k ≤ n → (state k).phase ≡ In → (e : E) × ((part k).reading ≡ Some e) × Current number name tag e
    pub pairs : (k : ℕ) → 0 < k → k ≤ n → (j x : ℕ) (l : L) → get_elem? (part k).pairs j ≡ at.some (x, l) → InHistory opened history x l

  -- Part 4: the book's word is 0 or names one who is in, or the operator. Its number and tag are those of the last publication, but
  -- for an operator that has published since it took the book.
  pub record Desk (number n : ℕ) (state : ℕ → ProcessorState) (tag : T) (holder : ℕ) (book : B) (stale : Bool) : Type 0 where
    pub inside : holder ≢ 0 → holder ≢ n + 1 → (holder ≤ n) × ((state holder).phase ≡ In)
    pub writer : stale ≡ true → holder ≡ n + 1
    pub number_is : stale ≡ false → m.book_number book ≡ number
    pub tag_is : stale ≡ false → m.book_tag book ≡ tag

  -- Part 5: the book's list of each processor is that processor's own list, and its list 0 the operator's, which begins with what each
  -- processor knows of it from the opening.
  pub record Lists (n : ℕ) (book : B) (stale : Bool) (own : List I) (part : ℕ → Part E L I) : Type 0 where
    pub lists : (k : ℕ) → 0 < k → k ≤ n → m.of book k ≡ (part k).own
    pub list_0 : stale ≡ false → m.of book 0 ≡ own
    pub begins : (k : ℕ) → 0 < k → k ≤ n → BeginsWith own (part k).first

  -- Part 7: where the operator knows that the book is ready, it is.
  abbrev pub Ready : B → Bool → Type 0
  Ready book ready = ready ≡ true → m.book_ready book ≡ true

  -- What the seat of a processor or of the operator knows is so.
  pub record Live (c : WholeState E B T L I) (id : ℕ) (v : View E B T L I) : Type 0 where
    pub count : v.count ≡ c.count
    pub low : 0 < v.place
    pub high : v.place ≤ c.count + 1
    pub seat : c.seat v.place ≡ id
    pub phase : v.phase ≡ (c.state v.place).phase
    pub part : v.part ≡ c.part v.place
    pub behind : v.behind ≡ is_held_by c.behind v.place
    pub book : v.book ≡ lent_book c.holder c.book v.place

  -- A processor whose seat isn't split off yet, or was joined again: it is out and holds no lock. Before it is split off, it has begun
  -- no section and holds its token.
  pub record KeptAt (c : WholeState E B T L I) (id : ℕ) (closing : Bool) (k : ℕ) (part : Part E L I) : Type 0 where
    pub low : 0 < k
    pub high : k ≤ c.count
    pub seat : c.seat k ≡ id
    pub part_is : part ≡ c.part k
    pub out : (c.state k).phase ≡ Out
    pub behind : is_held_by c.behind k ≡ false
    pub fresh : closing ≡ false → (part.sections ≡ 0) × ((c.state k).token ≡ Held)

  -- what the operator keeps
  pub record OperatorKeeps (c : WholeState E B T L I) (id : ℕ) (v : View E B T L I) : Type 0 where
    pub place : v.place ≡ c.count + 1
    pub number : v.number ≡ c.number
    pub opened : v.opened ≡ c.opened
    pub history : v.history ≡ c.history
    pub own : v.own ≡ c.own
    pub ready : v.ready ≡ c.ready
    pub stale : v.stale ≡ c.stale
    pub revoked_size : length v.revoked ≡ c.count + 1
    pub drained_size : length v.drained ≡ c.count + 1
    pub kept_size : length v.kept ≡ c.count + 1
    pub revoked : (k : ℕ) → 0 < k → k ≤ c.count → slice_index_or v.revoked k false ≡ (c.state k).revoked
    pub drained : (k : ℕ) → 0 < k → k ≤ c.count → slice_index_or v.drained k false ≡ (c.state k).drained
    pub kept : (k : ℕ) (part : Part E L I) → get_elem? v.kept k ≡ at.some (Some part) → KeptAt c id v.closing k part

  -- A spent seat knows nothing.
  pub record Agrees (c : WholeState E B T L I) (id : ℕ) (v : View E B T L I) : Type 0 where
    pub live : (v.role ≡ Processor) ⊎ (v.role ≡ Operator) → Live c id v
    pub processor : v.role ≡ Processor → v.place ≤ c.count
    pub operator : v.role ≡ Operator → OperatorKeeps c id v
    pub receipt : v.role ≡ Receipt → KeepsPrefix c.opened c.history v

  -- The whole rule, at the state that is shown.
  pub record Shows (c : WholeState E B T L I) (t : State (Slot E B) (View E B T L I)) : Type 0 where
    pub words : LockWords c.count c.number (holder_word c.behind) c.holder (tracker_of c.state c.part) (token_of c.state) t.words
    pub sound : Sound c.count (core_of c)
    pub past : Past c.number c.opened c.history c.name c.tag
    pub slots : Slots c.number c.count c.state c.name c.tag c.holder c.book t.homes
    pub insides : Insides c.number c.count c.state c.opened c.history c.name c.tag c.part
    pub desk : Desk c.number c.count c.state c.tag c.holder c.book c.stale
    pub lists : Lists (c.count) c.book c.stale c.own c.part
    pub numbers : Numbers c.count (core_of c) c.part
    pub readiness : Ready c.book c.ready
    pub seats : EverySeat c.count c.seat t.views
    pub each : (id : ℕ) (v : View E B T L I) → get_elem? t.views id ≡ at.some v → Agrees c id v

  -- some whole state is shown by the table's words, slots and views
  abbrev pub Whole : State (Slot E B) (View E B T L I) → Type 0
  Whole t = (c : WholeState E B T L I) × Shows c t
