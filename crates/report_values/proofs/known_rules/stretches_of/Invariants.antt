-- Where the rules so far stand.
use Rattle.std.proofs.Common.{ℕ}
use Rattle.std.specs.HashMap.{get}
use Rattle.report_values.specs.KnownPlaces.{IsStretchOf, pair_eq}
use Rattle.report_values.proofs.known_rules.stretches_of.Given as goal

abbrev pub invariant-loop-place : goal.invariant-loop-place
invariant-loop-place l = (pair : ℕ × ℕ) → IsStretchOf l.rules l.place pair (get pair_eq l.stretches pair)
