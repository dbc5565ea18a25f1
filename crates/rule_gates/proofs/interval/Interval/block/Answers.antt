use Rattle.rule_gates.proofs.Blocks.{block-made}
use Rattle.rule_gates.proofs.interval.Interval.block.Goals as goal

pub invariant_of-result : goal.invariant_of-result
invariant_of-result c =
    record { fits = block-made c.args.number c.args.free_bits c.ranges.number.fits c.requires }
