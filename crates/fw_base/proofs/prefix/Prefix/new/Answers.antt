use Rattle.std.proofs.Common.{◌-◌, ◌^◌, arith}
use Rattle.fw_base.proofs.Networks.{IsNetwork-network, cleared_fits}
use Rattle.fw_base.proofs.prefix.Prefix.new.Goals as goal

pub invariant_of-result : goal.invariant_of-result
invariant_of-result c =
    rw (cleared_fits c.from.result (2 ^ (32 - c.args.length)) (omega arith))
    (IsNetwork-network c.from.result c.args.length (omega arith))
