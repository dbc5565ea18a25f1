-- The captures that were taken out of the list, which is turned, were audited or passed by.
use Rattle.std.proofs.Common.{length}
use Rattle.capture_audits.proofs.Examining.{FrontExamined}
use Rattle.capture_audits.proofs.examined.examine.Given as goal

abbrev pub invariant-loop-capture : goal.invariant-loop-capture
invariant-loop-capture g l = FrontExamined g.S.Source.left g.S.Source.faults l.fn.opened.items l.rest.items l.fn.audit l.examined

abbrev pub decreases-loop-capture : goal.decreases-loop-capture
decreases-loop-capture g l = length l.rest.items
