-- The results so far are values.
use Rattle.std.proofs.Common.{◌≡◌, Ok, map}
use Rattle.live_replay.proofs.crew.all_finished.Given as goal

abbrev pub invariant-loop-result : goal.invariant-loop-result
invariant-loop-result g l = l.yielded ≡ map Ok l.all.items
