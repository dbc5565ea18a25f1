use Rattle.rule_text.proofs.Runs.{IsRunFrom}
use Rattle.rule_text.proofs.address6_text.longest_run.Given as goal

abbrev pub invariant-loop-place : goal.invariant-loop-place
invariant-loop-place l = IsRunFrom l.groups l.place l.zeros l.longest

abbrev pub decreases-loop-place : goal.decreases-loop-place
decreases-loop-place l = l.place
