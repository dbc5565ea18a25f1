use Rattle.ipfw_parser.proofs.Steps.Cuts.{outside_first}
use Rattle.std.proofs.Common.{false}
use Rattle.ipfw_parser.proofs.cut.first_address.Goals as goal

pub returns-clause-elements : goal.returns-clause-elements
returns-clause-elements c = rw (c.split_behind.ensures.front, c.split_behind.ensures.rest, c.element_len.ensures.len) (outside_first false c.args.text.now)
