use Rattle.std.proofs.Common.{◌≡◌, ◌+◌, ◌≤◌, ℕ}
use Rattle.rm_table.specs.declared.part.Part.{Part}
use Rattle.rm_table.specs.Rests.{IsOpening}
use Rattle.rm_lock.proofs.Splits.{Splitting}
use Rattle.rm_lock.proofs.opening.split_all.Given as goal

abbrev pub invariant-loop-place : goal.invariant-loop-place
invariant-loop-place g l =
    (1 ≤ l.place) × (l.place ≤ l.processors + 1) × (l.seat.table_id ≡ l.table)
    × ((parts : ℕ → Part g.row.E.Denot g.row.E-Label.Denot g.row.B-Item.Denot) → IsOpening 1 parts l.initial.seat.me.0 l.initial.seat.me.1 → Splitting l.place l.table parts l.initial.seat.me l.seat.me l.tokens.items)
