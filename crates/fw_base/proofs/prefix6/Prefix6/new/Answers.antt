use Rattle.std.proofs.Common.{arith}
use Rattle.fw_base.proofs.Networks6.{IsNetwork6-network6}
use Rattle.fw_base.proofs.prefix6.Prefix6.new.Goals as goal

pub invariant_of-result : goal.invariant_of-result
invariant_of-result c = rw (c.followed.ensures, c.leading.ensures) (IsNetwork6-network6 c.args.address.0 c.args.length (omega arith))
