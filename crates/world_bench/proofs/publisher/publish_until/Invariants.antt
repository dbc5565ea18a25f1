use Rattle.std.proofs.Common.{◌≡◌}
use Rattle.world_bench.proofs.publisher.publish_until.Given as goal

abbrev pub invariant-loop-published : goal.invariant-loop-published
invariant-loop-published g l = l.desk.world ≡ l.world
