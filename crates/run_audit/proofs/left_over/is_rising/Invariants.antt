use Rattle.std.proofs.Common.{◌≡◌, drop}
use Rattle.fw_world.specs.Sections.{judged_editions}
use Rattle.run_audit.specs.LeftOver.{rises_from}
use Rattle.run_audit.proofs.left_over.is_rising.Given as goal

abbrev pub invariant-loop-entry : goal.invariant-loop-entry
invariant-loop-entry l = rises_from l.least (judged_editions (drop l.entry-index l.entries)) ≡ rises_from 0 (judged_editions l.entries)
