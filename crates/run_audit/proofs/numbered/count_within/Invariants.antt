use Rattle.std.proofs.Common.{ℕ, ◌<◌, ◌≤◌, get_or}
use Rattle.run_audit.specs.Numbering.{number_of}
use Rattle.run_audit.specs.declared.numbered.Numbered.{Numbered}
use Rattle.run_audit.proofs.numbered.count_within.Given as goal

abbrev pub invariant-loop-count : goal.invariant-loop-count
invariant-loop-count l = (k : ℕ) (d : Numbered) → k < l.count → number_of (get_or l.ordered k d) ≤ l.at
