use Rattle.std.proofs.Common.{◌≡◌, replicate}
use Rattle.lock_bench.proofs.facts_edition.editions_of.Given as goal

abbrev pub invariant-loop : goal.invariant-loop
invariant-loop l = l.editions.items ≡ replicate l.counter (record { facts = l.facts })
