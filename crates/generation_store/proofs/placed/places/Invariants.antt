use Rattle.std.proofs.Common.{◌≡◌, map, take}
use Rattle.generation_store.specs.Placing.{place_alone}
use Rattle.generation_store.proofs.placed.places.Given as goal

abbrev pub invariant-loop-rule : goal.invariant-loop-rule
invariant-loop-rule l = l.places.items ≡ map place_alone (take l.rule-index l.placed)
