-- What each call does to a section that may lie in another of its processor, after rmlock(9), RM_RECURSE.
use Rattle.std.specs.Prelude.{◌≡◌, ◌+◌, ◌-◌, ◌<◌, ◌≤◌, Some}
use Rattle.rm_table.specs.Meanings.{Meanings}
use Rattle.rm_lock.specs.Tokens.{TokenState, told_number}
use Rattle.rm_lock.specs.Calls.{Enters, after_lower}
use Rattle.rm_lock.specs.declared.reader_calls.Entry.TheVariants as entry
use Rattle.rm_told.specs.DeepState.{DeepState}
use Rattle.rm_told.specs.declared.told.DeepEntry.{DeepEntry}
use Rattle.rm_told.specs.declared.told.DeepEntry.TheVariants.{In, Revoked}
use Rattle.rm_told.specs.declared.told.Left.{Left}
use Rattle.rm_told.specs.declared.told.Left.TheVariants.{Still, Out}

module _ {E B T L I : Type 0} where
  -- A call to enter does what the lock's own does. In: the section lies in no other.
  abbrev pub EntersAtOne : Meanings E B T L I → TokenState E B T L I → DeepEntry E B L T I → Type 0
  EntersAtOne m before (In d) = Enters m before (entry.In d.reading) × (d.depth ≡ 1)
  EntersAtOne m before (Revoked p number) = Enters m before (entry.Revoked p number)

  -- In: the edition is no earlier than any that the processor saw before or was told of.
  abbrev pub MeetsTold : Meanings E B T L I → TokenState E B T L I → DeepEntry E B L T I → Type 0
  MeetsTold m before (In d) = (e : E) → d.reading.view.part.reading ≡ Some e → told_number before.view ≤ m.number e
  MeetsTold m before (Revoked p number) = Unit {0}

  -- the reading as it was, one section deeper
  abbrev pub one_section_deeper : DeepState E B T L I → DeepState E B T L I
  one_section_deeper d = record d { depth = d.depth + 1 }

  -- What a call to leave does. A section that lies in another ends, and the reading stays as it was; the outermost one ends as the lock's own
  -- does, with one store that lowers the tracker.
  abbrev pub Leaves : DeepState E B T L I → Left E B L T I → Type 0
  Leaves before (Still d) = (1 < before.depth) × (d ≡ record before { depth = before.depth - 1 })
  Leaves before (Out p) = (before.depth ≡ 1) × (p.table_id ≡ before.reading.table_id) × (p.view ≡ after_lower before.reading.view)
