use Rattle.ipfw_parser.proofs.Steps.Cuts.{groups_first}
use Rattle.ipfw_parser.proofs.cut.first_group.Goals as goal

pub returns-clause-groups : goal.returns-clause-groups
returns-clause-groups c = rw (c.split_behind.ensures.front, c.split_behind.ensures.rest, c.place_or_end.ensures.len) (groups_first c.args.text.now)
