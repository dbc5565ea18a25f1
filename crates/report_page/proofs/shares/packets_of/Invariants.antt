-- The sum over the rules so far.
use Rattle.std.proofs.Common.{◌≡◌, take}
use Rattle.report_page.specs.Shares.{packets_of}
use Rattle.report_page.proofs.shares.packets_of.Given as goal

abbrev pub invariant-loop-rule : goal.invariant-loop-rule
invariant-loop-rule l = l.packets ≡ packets_of (take l.rule-index l.rules)
