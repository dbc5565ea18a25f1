use Rattle.std.proofs.Common.{◌<◌, arith}
use Rattle.ipfw_parser.proofs.Steps.Sides.{grown, grown_fits}
use Rattle.ipfw_parser.proofs.addresses6.with_group.Goals as goal

pub overflow_mul-result : goal.overflow_mul-result
overflow_mul-result c = omega (arith, grown_fits c.args.side.value c.args.side.count 0 c.requires.few c.requires.small (omega arith))

pub overflow_add-result : goal.overflow_add-result
overflow_add-result c =
    let small : c.from.result < 65536 = omega (arith, c.from.ensures) in
    omega (arith, grown_fits c.args.side.value c.args.side.count c.from.result c.requires.few c.requires.small small)

pub returns-clause-room : goal.returns-clause-room
returns-clause-room c =
    let small : c.from.result < 65536 = omega (arith, c.from.ensures) in
    grown c.args.side.value c.args.side.count c.from.result c.requires.small small
