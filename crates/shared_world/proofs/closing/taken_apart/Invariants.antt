use Rattle.std.proofs.Common.{◌≤◌, length}
use Rattle.std.specs.Prelude.{vec_capacity}
use Rattle.shared_world.specs.Apart.{AreApart}
use Rattle.shared_world.proofs.closing.taken_apart.Given as goal

abbrev pub invariant-loop-lane : goal.invariant-loop-lane
invariant-loop-lane l = record {
  apart : AreApart l.yielded l.processors.items l.works.items;
  seats : length l.fn.lanes.items ≤ vec_capacity l.processors;
  works : length l.fn.lanes.items ≤ vec_capacity l.works;
}
