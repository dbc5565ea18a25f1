-- A task for each capture and lane so far.
use Rattle.std.proofs.Common.{◌≡◌, map}
use Rattle.live_replay.proofs.Gathered.{task_of}
use Rattle.live_replay.proofs.replay.open_tasks.Given as goal

abbrev pub invariant-loop-opened : goal.invariant-loop-opened
invariant-loop-opened g l = l.tasks.items ≡ map (task_of l.fn.limit) l.yielded
