use Rattle.std.proofs.Common.{◌∙◌}
use Rattle.ipfw_parser.proofs.Steps.Sides.{value_is_address}
use Rattle.ipfw_parser.proofs.addresses6.address6_in.Goals as goal

pub returns : goal.returns
returns c = c.by_sides.ensures ∙ value_is_address c.args.text.now
