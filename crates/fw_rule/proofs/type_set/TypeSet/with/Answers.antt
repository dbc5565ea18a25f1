use Rattle.std.proofs.Common.{ap, ◌∙◌, arith}
use Rattle.fw_rule.specs.TypeSet.{has_type}
use Rattle.fw_rule.specs.declared.type_set.TypeSet.{TypeSet}
use Rattle.fw_rule.proofs.Types.{low_more, high_more, with_type-has}
use Rattle.fw_rule.proofs.type_set.TypeSet.with.Goals as goal

pub returns-then-number-lt128-clause-value : goal.returns-then-number-lt128-clause-value
returns-then-number-lt128-clause-value c = low_more c.args.self c.args.number c.if-number-lt128.true

pub returns-then-number-lt128-clause-types : goal.returns-then-number-lt128-clause-types
returns-then-number-lt128-clause-types c =
    λ k small. ap (λ (s : TypeSet). has_type s k) (low_more c.args.self c.args.number c.if-number-lt128.true) ∙ with_type-has c.args.self c.args.number k

pub returns-else-number-lt128-clause-value : goal.returns-else-number-lt128-clause-value
returns-else-number-lt128-clause-value c = high_more c.args.self c.args.number c.if-number-lt128.false (omega arith)

pub returns-else-number-lt128-clause-types : goal.returns-else-number-lt128-clause-types
returns-else-number-lt128-clause-types c =
    λ k small. ap (λ (s : TypeSet). has_type s k) (high_more c.args.self c.args.number c.if-number-lt128.false (omega arith)) ∙ with_type-has c.args.self c.args.number k
