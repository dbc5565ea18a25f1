use Rattle.std.proofs.Common.{sym, subst}
use Rattle.report_values.specs.Records.{AreDistinct}
use Rattle.report_values.proofs.KindHints.{hinted_distinct}
use Rattle.report_values.proofs.records.Records.parts.Goals as goal

pub returns-clause-distinct : goal.returns-clause-distinct
returns-clause-distinct c =
    subst AreDistinct (sym c.deref.ensures.value) (hinted_distinct c.self.inside.kinds.items c.self.inside.hints c.self.invariant.1)
