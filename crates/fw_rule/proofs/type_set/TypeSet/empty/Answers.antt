use Rattle.std.proofs.Common.{refl}
use Rattle.fw_rule.specs.TypeSet.{no_types}
use Rattle.fw_rule.proofs.Types.{no_types-has}
use Rattle.fw_rule.proofs.type_set.TypeSet.empty.Goals as goal

pub returns-clause-value : goal.returns-clause-value
unfolding no_types
returns-clause-value c = refl

pub returns-clause-types : goal.returns-clause-types
unfolding no_types
returns-clause-types c = λ k small. no_types-has k
