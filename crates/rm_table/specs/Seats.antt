-- What contracts see of a seat and of a table.
use Rattle.std.specs.Prelude.{◌≡◌, ℕ, ◌+◌, ◌<◌, ◌≤◌, Bool, false, Option, Some, List, [], slice_get}
use Rattle.atomic_table.specs.Table.{Me}
use Rattle.atomic_table.specs.Seated.{TableId}
use Rattle.rm_table.specs.declared.view.Role.TheVariants.{Processor}
use Rattle.rm_table.specs.declared.padded_slot.Slot.{Slot}
use Rattle.rm_table.specs.declared.part.Part.{Part}
use Rattle.rm_table.specs.declared.view.View.{View}
use Rattle.rm_table.specs.Layout.{tracker_word, word_count}

-- A seat: its table, and what it knows beside the slots that it has in its hand, the last one taken first.
pub record SeatState (E B T L I : Type 0) : Type 0 where
  pub table_id : TableId
  pub me : Me (Slot E B) (View E B T L I)

-- the table has the words and slots of that many processors
pub record IsSized (processors : ℕ) (table : TableId) : Type 0 where
  pub few : (0 < processors) × (processors ≤ 64)
  pub words : table.words ≡ word_count processors
  pub slots : table.slots ≡ processors + 1

-- before the first join, a processor whose seat isn't split off yet has begun no section
unfoldable pub Unbegun : {E L I : Type 0} → Bool → List (Option (Part E L I)) → Type 0
Unbegun {E} {L} {I} closing kept = closing ≡ false → (k : ℕ) (part : Part E L I) → slice_get kept k ≡ Some (Some part) → part.sections ≡ 0

-- the numbers that a seat stores by are those that it knows
pub record StoresBy {E B T L I : Type 0} (processors place number tracker : ℕ) (table : TableId) (v : View E B T L I) : Type 0 where
  pub sized : IsSized processors table
  pub placed : place ≤ processors + 1
  pub within : v.role ≡ Processor → place ≤ processors
  pub count_is : v.count ≡ processors
  pub place_is : v.place ≡ place
  pub number_is : v.number ≡ number
  pub tracker_is : tracker_word v.part.sections v.phase ≡ tracker
  pub unbegun : Unbegun v.closing v.kept

-- the memory that closing a lock of that many processors takes
pub record HasClosingRoom {E : Type 0} (processors : ℕ) (trackers : List ℕ) (tracker_room : ℕ) (editions : List E) (edition_room : ℕ) : Type 0 where
  pub no_trackers : trackers ≡ []
  pub for_trackers : processors ≤ tracker_room
  pub no_editions : editions ≡ []
  pub for_editions : processors ≤ edition_room
