use Rattle.std.proofs.Common.{◌≡◌, ℕ, ◌+◌, ◌<◌, ◌≤◌, true, false, Some}
use Rattle.std.specs.Prelude.{slice_get, slice_index_or, vec_len, vec_capacity}
use Rattle.std.specs.Slots.{slots_items, slots_filled, slots_len}
use Rattle.rm_table.specs.declared.padded_slot.Slot.TheVariants.{Edition}
use Rattle.rm_table.proofs.closing.take_editions.Given as goal

abbrev pub invariant-loop-place : goal.invariant-loop-place
invariant-loop-place g l =
    (1 ≤ l.place) × (l.place ≤ l.processors + 1) × (l.processors ≤ vec_capacity l.editions) × (vec_len l.editions + 1 ≡ l.place)
    × (slots_items l.closed.slots ≡ slots_items l.initial.closed.slots) × (slots_len l.closed.slots ≡ slots_len l.initial.closed.slots)
    × ((k : ℕ) → l.place ≤ k → k ≤ l.processors → slice_index_or (slots_filled l.closed.slots) k false ≡ true)
    × ((k : ℕ) → 0 < k → k < l.place → slice_index_or (slots_filled l.closed.slots) k false ≡ false)
    × (slice_index_or (slots_filled l.closed.slots) 0 false ≡ slice_index_or (slots_filled l.initial.closed.slots) 0 false)
    × ((j : ℕ) (e : g.row.E.Denot) → slice_get l.editions.items j ≡ Some e → slice_get (slots_items l.initial.closed.slots) (j + 1) ≡ Some (Edition (Some e)))
