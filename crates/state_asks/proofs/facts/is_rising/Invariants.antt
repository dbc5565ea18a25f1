-- What is left rises from the last identity just where all do from the first.
use Rattle.std.proofs.Common.{◌≡◌, drop}
use Rattle.state_asks.specs.Facts.{rises_from}
use Rattle.state_asks.proofs.facts.is_rising.Given as goal

abbrev pub invariant-loop-id : goal.invariant-loop-id
invariant-loop-id l = rises_from l.initial.least l.rules ≡ rises_from l.least (drop l.id-index l.rules)
