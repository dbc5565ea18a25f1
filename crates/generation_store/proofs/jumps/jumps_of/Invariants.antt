use Rattle.std.proofs.Common.{◌≡◌, ◌++◌, drop, map}
use Rattle.std.specs.Arc.{arc_value}
use Rattle.generation_store.specs.Jumps.{jumps_from, jumps_of}
use Rattle.generation_store.proofs.jumps.jumps_of.Given as goal

abbrev pub invariant-loop-place : goal.invariant-loop-place
invariant-loop-place l = l.jumps.items ++ jumps_from (map arc_value l.rules) l.place (drop l.place (map arc_value l.rules)) ≡ jumps_of (map arc_value l.rules)
