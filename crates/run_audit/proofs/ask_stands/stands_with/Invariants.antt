use Rattle.std.proofs.Common.{◌≡◌, ◌++◌, drop}
use Rattle.run_audit.specs.AskStands.{stands_from, no_sweep}
use Rattle.run_audit.proofs.ask_stands.stands_with.Given as goal

abbrev pub invariant-loop-place : goal.invariant-loop-place
invariant-loop-place l = l.stands.items ++ stands_from l.sweep l.place (drop l.place l.entries) ≡ stands_from (no_sweep l.lanes) 0 l.entries
