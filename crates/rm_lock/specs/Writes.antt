-- The operator between the calls that make up a write.
use Rattle.std.specs.Prelude.{◌≡◌, ◌+◌, ◌-◌, ◌^◌, ◌<◌, ◌≤◌, true, false, ℕ, None, List, [], length}
use Rattle.rm_table.specs.declared.view.View.{View}
use Rattle.rm_table.specs.Meanings.{Meanings}
use Rattle.rm_table.specs.Moves.{IsOperator, AllDrained, editions_from}
use Rattle.rm_lock.specs.Tokens.{AreOld}
use Rattle.rm_lock.specs.Calls.{with_looks}
use Rattle.atomic_table.specs.Table.{Me}
use Rattle.rm_table.specs.declared.padded_slot.Slot.{Slot}

module _ {E B T L I : Type 0} where
  -- what the operator knows, but for whom it has revoked and found out, and its steps
  abbrev pub unmarked_view : View E B T L I → View E B T L I
  unmarked_view v = record v { revoked = []; drained = []; steps = [] }

  -- all processors are drained, and nothing else has happened
  pub record IsWriting (v : View E B T L I) : Type 0 where
    pub operator : IsOperator v
    pub some : 0 < v.count
    pub behind : v.behind ≡ true
    pub bookless : v.book ≡ None
    pub unpublished : v.stale ≡ false
    pub ready : v.ready ≡ true
    pub room : v.number < 2 ^ 64 - 1
    pub drained : AllDrained v
    pub kept_size : length v.kept ≡ v.count + 1
    pub begun : v.opened ≤ v.number
    pub counts : v.opened + length v.history ≡ v.number + 1

  module _ (m : Meanings E B T L I) where
    -- every processor was found out, and their old editions are in hand in order
    pub record HasFoundAll (old new : Me (Slot E B) (View E B T L I)) : Type 0 where
      pub same : unmarked_view new.0 ≡ unmarked_view old.0
      pub revoked : new.0.revoked ≡ old.0.revoked
      pub drained : AllDrained new.0
      pub editions : List E
      pub hand_is : new.1 ≡ editions_from 1 editions []
      pub old_ones : AreOld m new.0 editions
      pub looks : List (List ℕ × ℕ)
      pub looks_count : length looks ≡ old.0.count
      pub steps : new.0.steps ≡ with_looks old.0.steps 1 looks
