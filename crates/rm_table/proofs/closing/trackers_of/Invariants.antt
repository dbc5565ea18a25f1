use Rattle.std.proofs.Common.{◌≡◌, ◌+◌, ◌-◌, ◌≤◌}
use Rattle.std.specs.Prelude.{slice_index, vec_len, vec_capacity}
use Rattle.std.specs.Slots.{slots_items}
use Rattle.rm_table.specs.Layout.{tracker_index}
use Rattle.rm_table.specs.Meanings.{values_from}
use Rattle.rm_table.proofs.closing.trackers_of.Given as goal

abbrev pub invariant-loop-place : goal.invariant-loop-place
invariant-loop-place g l =
    (1 ≤ l.place) × (l.place ≤ l.processors + 1) × (l.processors ≤ vec_capacity l.trackers) × (vec_len l.trackers + 1 ≡ l.place)
    × (l.trackers.items ≡ values_from (λ k. slice_index (slots_items l.closed.words) (tracker_index k)) 1 (l.place - 1))
