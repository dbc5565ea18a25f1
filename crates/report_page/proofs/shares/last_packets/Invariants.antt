-- The sum over the rules so far.
use Rattle.std.proofs.Common.{◌≡◌, take}
use Rattle.report_page.specs.Shares.{last_packets}
use Rattle.report_page.proofs.shares.last_packets.Given as goal

abbrev pub invariant-loop-rule : goal.invariant-loop-rule
invariant-loop-rule l = l.packets ≡ last_packets (take l.rule-index l.rules)
