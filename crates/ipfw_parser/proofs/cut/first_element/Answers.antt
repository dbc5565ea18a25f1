use Rattle.ipfw_parser.proofs.Steps.Cuts.{elements_first}
use Rattle.ipfw_parser.proofs.cut.first_element.Goals as goal

pub returns-clause-elements : goal.returns-clause-elements
returns-clause-elements c = rw (c.split_behind.ensures.front, c.split_behind.ensures.rest, c.place_or_end.ensures.len) (elements_first c.args.text.now)
