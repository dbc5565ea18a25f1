use Rattle.std.proofs.Common.{◌≡◌, map, take}
use Rattle.generation_store.specs.Placing.{identity_of}
use Rattle.generation_store.proofs.placed.identities.Given as goal

abbrev pub invariant-loop-rule : goal.invariant-loop-rule
invariant-loop-rule l = l.identities.items ≡ map identity_of (take l.rule-index l.placed)
