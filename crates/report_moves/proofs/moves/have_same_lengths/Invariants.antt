-- The captures so far have as many records.
use Rattle.std.proofs.Common.{◌≡◌, ℕ, ◌<◌, [], get_or, length}
use Rattle.report_moves.proofs.moves.have_same_lengths.Given as goal

abbrev pub invariant-loop-at : goal.invariant-loop-at
invariant-loop-at l = (k : ℕ) → k < l.at → length (get_or l.old k []) ≡ length (get_or l.new k [])
