use Rattle.std.proofs.Common.{arith}
use Rattle.ipfw_parser.proofs.Steps.Cuts.{seek_on, seek_found, seek_end}
use Rattle.ipfw_parser.proofs.cut.element_len.Goals as goal

pub returns-then-parts-clause-len : goal.returns-then-parts-clause-len
returns-then-parts-clause-len c = seek_found _ _ _ _ c.loop-at-test.true c.parts.ensures c.if-parts.true c.loop-at.invariant

pub loop-at-preserved : goal.loop-at-preserved
loop-at-preserved c = rw c.inside_after-inside.ensures (seek_on _ _ _ _ c.loop-at-test.true c.parts.ensures c.if-parts.false c.loop-at.invariant)

pub returns-clause-len : goal.returns-clause-len
returns-clause-len c = seek_end _ c.loop-at.at _ (omega arith) c.loop-at.invariant
