-- What contracts see of a lock's tokens, and where the seat of each stands.
use Rattle.std.specs.Prelude.{◌≡◌, ℕ, ◌+◌, ◌-◌, ◌^◌, ◌<◌, ◌≤◌, max, Bool, true, false, is_some, IsSome, Some, None, List, [], ◌∷◌, length, slice_get}
use Rattle.atomic_table.specs.Seated.{TableId}
use Rattle.rm_core.specs.declared.processor_state.Phase.TheVariants.{In}
use Rattle.rm_table.specs.declared.view.Role.TheVariants.{Processor}
use Rattle.rm_table.specs.declared.padded_slot.Slot.TheVariants.{Edition, Book}
use Rattle.rm_table.specs.declared.view.View.{View}
use Rattle.rm_table.specs.Meanings.{Meanings}
use Rattle.rm_table.specs.Moves.{Hand, IsOperator, IsLast, AllRevoked, AllDrained, editions_from}
use Rattle.rm_table.specs.Rests.{IsIdle, IsReceipt, IsAtRest}

-- the greatest number among these pairs of number and name, 0 where there is none
abbrev pub greatest_pair_number : {L : Type 0} → List (ℕ × L) → ℕ
greatest_pair_number [] = 0
greatest_pair_number (pair ∷ pairs) = max pair.0 (greatest_pair_number pairs)

-- A token: its lock's table, and what it knows.
pub record TokenState (E B T L I : Type 0) : Type 0 where
  pub table_id : TableId
  pub view : View E B T L I

-- A token that has the book: the book as it stands beside it.
pub record BookTokenState (E B T L I : Type 0) : Type 0 where
  pub table_id : TableId
  pub view : View E B T L I
  pub book : B

module _ {E B T L I : Type 0} where
  -- the token, with the book changed to this one
  abbrev pub with_book : BookTokenState E B T L I → B → BookTokenState E B T L I
  with_book token book = record token { book = book }

  -- the greatest number among the pairs that the processor has seen, which its checks found or a receipt told it of
  abbrev pub told_number : View E B T L I → ℕ
  told_number v = greatest_pair_number v.part.pairs

  -- a processor between two sections, that last held or regained this number, and was told of that one; a
  -- refusal stands or not
  pub record IsOutBy (place number told : ℕ) (refused : Bool) (v : View E B T L I) (hand : Hand E B) : Type 0 where
    pub idle : IsIdle v hand
    pub place_is : v.place ≡ place
    pub number_is : v.part.held ≡ number
    pub told_is : told_number v ≡ told
    pub refused_is : is_some v.part.refusal ≡ refused

  -- a processor in a section, that reads this edition, which it has taken out of its slot
  pub record IsInBy (number : E → ℕ) (place : ℕ) (refused : Bool) (edition : E) (v : View E B T L I) (hand : Hand E B) : Type 0 where
    pub processor : v.role ≡ Processor
    pub inside : v.phase ≡ In
    pub unheld : v.behind ≡ false
    pub bookless : v.book ≡ None
    pub hand_is : hand ≡ (place, Edition None) ∷ []
    pub reading : v.part.reading ≡ Some edition
    pub place_is : v.place ≡ place
    pub number_is : number edition ≡ v.part.held
    pub told_is : told_number v ≡ v.part.held
    pub refused_is : is_some v.part.refusal ≡ refused

  -- a processor in a section, that has the book too, which it has taken out of its slot
  pub record HoldsBy (number : E → ℕ) (place : ℕ) (refused : Bool) (edition : E) (v : View E B T L I) (hand : Hand E B) : Type 0 where
    pub processor : v.role ≡ Processor
    pub inside : v.phase ≡ In
    pub unheld : v.behind ≡ false
    pub taken : IsSome v.book
    pub hand_is : hand ≡ (0, Book None) ∷ (place, Edition None) ∷ []
    pub reading : v.part.reading ≡ Some edition
    pub place_is : v.place ≡ place
    pub number_is : number edition ≡ v.part.held
    pub told_is : told_number v ≡ v.part.held
    pub refused_is : is_some v.part.refusal ≡ refused

  -- a receipt, made when this number was published: it has the history from the opening to that number
  pub record IsReceiptBy (number : ℕ) (v : View E B T L I) (hand : Hand E B) : Type 0 where
    pub receipt : IsReceipt v hand
    pub begun : v.opened ≤ v.number
    pub counts : v.opened + length v.history ≡ v.number + 1
    pub number_is : v.number ≡ number

  -- the operator between two writes
  pub record IsAtRestBy (processors number : ℕ) (v : View E B T L I) (hand : Hand E B) : Type 0 where
    pub at_rest : IsAtRest v hand
    pub begun : v.opened ≤ v.number
    pub few : processors ≤ 64
    pub count_is : v.count ≡ processors
    pub number_is : v.number ≡ number

  module _ (m : Meanings E B T L I) where
    -- the operator between two writes, but that it has the book, which it has taken out of its slot
    pub record KeepsBy (processors number : ℕ) (v : View E B T L I) (hand : Hand E B) : Type 0 where
      pub taken : B
      pub taken_is : v.book ≡ Some taken
      pub taken_number : m.book_number taken ≡ v.number
      pub taken_list : m.of taken 0 ≡ v.own
      pub hand_is : hand ≡ (0, Book None) ∷ []
      pub at_rest : IsAtRest (record v { book = None }) []
      pub begun : v.opened ≤ v.number
      pub few : processors ≤ 64
      pub count_is : v.count ≡ processors
      pub number_is : v.number ≡ number

    -- one edition for each processor, all of the published number, and of the last name and tag of the history
    pub record AreOld (v : View E B T L I) (editions : List E) : Type 0 where
      pub count : length editions ≡ v.count
      pub same : (j : ℕ) (e : E) → slice_get editions j ≡ Some e → (m.number e ≡ v.number) × IsLast v (m.name e) (m.tag e)

    -- the operator in a write: it has revoked every token and found every processor out, whose editions it has in hand in order
    pub record WritesBy (processors number : ℕ) (v : View E B T L I) (hand : Hand E B) : Type 0 where
      pub operator : IsOperator v
      pub some : 0 < v.count
      pub behind : v.behind ≡ true
      pub bookless : v.book ≡ None
      pub unpublished : v.stale ≡ false
      pub ready : v.ready ≡ true
      pub room : v.number < 2 ^ 64 - 1
      pub revoked : AllRevoked v
      pub drained : AllDrained v
      pub kept_size : length v.kept ≡ v.count + 1
      pub begun : v.opened ≤ v.number
      pub counts : v.opened + length v.history ≡ v.number + 1
      pub editions : List E
      pub hand_is : hand ≡ editions_from 1 editions []
      pub old : AreOld v editions
      pub few : processors ≤ 64
      pub count_is : v.count ≡ processors
      pub number_is : v.number ≡ number
