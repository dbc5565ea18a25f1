use Rattle.std.proofs.Common.{◌≡◌, ◌≤◌, List, []}
use Rattle.std.specs.Prelude.{vec_len, length}
use Rattle.rm_table.specs.Moves.{editions_from}
use Rattle.rm_lock.proofs.Hands.{Exchanging}
use Rattle.rm_lock.proofs.publishing.exchange_all.Given as goal

abbrev pub invariant-loop-index : goal.invariant-loop-index
invariant-loop-index g l =
    (l.index ≤ vec_len l.initial.editions) × (vec_len l.editions ≡ vec_len l.initial.editions) × (l.seat.table_id ≡ l.table) × (l.seat.me.0 ≡ l.initial.seat.me.0)
    × ((olds : List g.row.E.Denot) → length olds ≡ vec_len l.initial.editions → l.initial.seat.me.1 ≡ editions_from 1 olds [] → Exchanging l.index olds l.initial.editions.items l.editions.items l.seat.me.1)
