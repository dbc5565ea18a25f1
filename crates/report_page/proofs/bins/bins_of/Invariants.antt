-- Bins that cut what is left, behind those so far, cut it all.
use Rattle.std.proofs.Common.{length}
use Rattle.report_page.proofs.BinLaws.{CutsSoFar}
use Rattle.report_page.proofs.bins.bins_of.Given as goal

abbrev pub invariant-loop-rest : goal.invariant-loop-rest
invariant-loop-rest l = CutsSoFar l.size l.shades l.rest l.bins.items

abbrev pub decreases-loop-rest : goal.decreases-loop-rest
decreases-loop-rest l = length l.rest
