use Rattle.std.proofs.Common.{arith}
use Rattle.ipfw_parser.proofs.Steps.Sides.{joined_fits}
use Rattle.ipfw_parser.proofs.addresses6.filled.Goals as goal

pub overflow_add-result : goal.overflow_add-result
overflow_add-result c = omega (arith, c.followed.ensures, joined_fits c.args.front.value c.args.back.value c.args.front.count c.args.back.count (omega arith) c.requires.front c.requires.back)
