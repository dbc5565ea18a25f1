-- Each step leaves fewer bytes.
use Rattle.std.specs.Prelude.{⊤, length}
use Rattle.report_page.proofs.journal_columns.asks_in.Given as goal

abbrev pub invariant-loop-line : goal.invariant-loop-line
invariant-loop-line l = ⊤

abbrev pub decreases-loop-line : goal.decreases-loop-line
decreases-loop-line l = length l.rest
