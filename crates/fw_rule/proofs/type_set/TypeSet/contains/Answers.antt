use Rattle.std.proofs.Common.{sym}
use Rattle.fw_rule.proofs.Types.{low_has, high_has}
use Rattle.fw_rule.proofs.type_set.TypeSet.contains.Goals as goal

pub returns-then-number-lt128 : goal.returns-then-number-lt128
returns-then-number-lt128 c = sym (low_has _ _ c.if-number-lt128.true)

pub returns-else-number-lt128 : goal.returns-else-number-lt128
returns-else-number-lt128 c = sym (high_has _ _ c.if-number-lt128.false)
