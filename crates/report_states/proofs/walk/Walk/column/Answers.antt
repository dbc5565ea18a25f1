use Rattle.std.proofs.Common.{◌∙◌}
use Rattle.report_states.proofs.Passing.{column_is}
use Rattle.report_states.specs.Walks.{objects_left}
use Rattle.report_states.proofs.walk.Walk.column.Goals as goal

pub returns-clause-most : goal.returns-clause-most
returns-clause-most c =
    c.max.ensures
    ∙ column_is c.args.begin c.args.end c.living_at-before.result c.pass.result c.args.self.now.states.object (objects_left c.args.self.now) c.requires.at c.living_at-before.ensures c.pass.ensures.most
