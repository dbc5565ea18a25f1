-- Seats between two sections and between two writes, and the operator's at the opening and the closing.
use Rattle.std.specs.Prelude.{◌≡◌, ◌⊎◌, ℕ, ◌+◌, ◌<◌, ◌≤◌, true, false, Some, None, [], ◌∷◌, length}
use Rattle.rm_core.specs.declared.processor_state.Phase.TheVariants.{Out, In}
use Rattle.rm_table.specs.declared.view.Role.TheVariants.{Processor, Operator, Receipt}
use Rattle.rm_table.specs.declared.padded_slot.Slot.TheVariants.{Edition}
use Rattle.rm_table.specs.declared.part.Part.{Part}
use Rattle.rm_table.specs.declared.view.View.{View}
use Rattle.rm_table.specs.Moves.{Hand, kept_at, IsOperator, NoneRevoked, NoneDrained}

module _ {E B T L I : Type 0} where
  -- a processor's seat between two sections: it is out, holds neither lock, and has no slot in its hand
  pub record IsIdle (v : View E B T L I) (hand : Hand E B) : Type 0 where
    pub processor : v.role ≡ Processor
    pub out : v.phase ≡ Out
    pub unheld : v.behind ≡ false
    pub bookless : v.book ≡ None
    pub empty_hand : hand ≡ []

  -- a processor's seat in a section that it has entered: it holds neither lock, and has in its hand the edition that it reads
  pub record IsInSection (v : View E B T L I) (hand : Hand E B) : Type 0 where
    pub processor : v.role ≡ Processor
    pub inside : v.phase ≡ In
    pub unheld : v.behind ≡ false
    pub bookless : v.book ≡ None
    pub edition : E
    pub hand_is : hand ≡ (v.place, Edition (Some edition)) ∷ []
    pub reading : v.part.reading ≡ Some edition

  -- a receipt's seat
  pub record IsReceipt (v : View E B T L I) (hand : Hand E B) : Type 0 where
    pub receipt : v.role ≡ Receipt
    pub empty_hand : hand ≡ []

  -- The operator's seat between two writes: it keeps no part, since every seat is split off, and holds neither lock. No token is revoked for a
  -- publication to come, and every publication is in the book.
  pub record IsAtRest (v : View E B T L I) (hand : Hand E B) : Type 0 where
    pub operator : IsOperator v
    pub some : 0 < v.count
    pub unpublished : v.stale ≡ false
    pub kept_size : length v.kept ≡ v.count + 1
    pub unheld : v.behind ≡ false
    pub bookless : v.book ≡ None
    pub unrevoked : NoneRevoked v
    pub undrained : NoneDrained v
    pub revoked_size : length v.revoked ≡ v.count + 1
    pub drained_size : length v.drained ≡ v.count + 1
    pub counts : v.opened + length v.history ≡ v.number + 1
    pub empty_hand : hand ≡ []

  -- The opening seat, of which the places below `next` are split off: of each other processor it keeps this part.
  pub record IsOpening (next : ℕ) (parts : ℕ → Part E L I) (v : View E B T L I) (hand : Hand E B) : Type 0 where
    pub operator : v.role ≡ Operator
    pub opening : v.closing ≡ false
    pub some : 0 < v.count
    pub unpublished : v.stale ≡ false
    pub gone : (k : ℕ) (part : Part E L I) → k < next → kept_at v k ≡ Some (Some part) → ⊥
    pub kept : (k : ℕ) → next ≤ k → k ≤ v.count → kept_at v k ≡ Some (Some (parts k))
    pub kept_size : length v.kept ≡ v.count + 1
    pub unheld : v.behind ≡ false
    pub bookless : v.book ≡ None
    pub unrevoked : NoneRevoked v
    pub undrained : NoneDrained v
    pub revoked_size : length v.revoked ≡ v.count + 1
    pub drained_size : length v.drained ≡ v.count + 1
    pub counts : v.opened + length v.history ≡ v.number + 1
    pub empty_hand : hand ≡ []

  -- The operator's seat, into which the places from `next` on are joined: of each it keeps this part, and no token is revoked.
  pub record IsClosing (next : ℕ) (parts : ℕ → Part E L I) (v : View E B T L I) : Type 0 where
    pub operator : v.role ≡ Operator
    pub closing : v.closing ≡ true
    pub kept : (k : ℕ) → next ≤ k → k ≤ v.count → kept_at v k ≡ Some (Some (parts k))
    pub kept_size : length v.kept ≡ v.count + 1
    pub bookless : v.book ≡ None
    pub unrevoked : NoneRevoked v
    pub undrained : NoneDrained v

  -- the operator's seat as the places from `next` on were split off and joined again, with these parts
  abbrev pub IsRejoined : ℕ → (ℕ → Part E L I) → View E B T L I → Hand E B → Type 0
  IsRejoined next parts v hand = ((v.count < next) × IsAtRest v hand) ⊎ IsClosing next parts v

  -- the same two, whatever the parts are
  abbrev pub OpensFrom : ℕ → View E B T L I → Hand E B → Type 0
  OpensFrom next v hand = (parts : ℕ → Part E L I) × IsOpening next parts v hand

  -- the operator's seat, as these places were joined again, with some parts
  abbrev pub IsRejoinedFrom : ℕ → View E B T L I → Hand E B → Type 0
  IsRejoinedFrom next v hand = (parts : ℕ → Part E L I) × IsRejoined next parts v hand
