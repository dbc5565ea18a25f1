-- What holds of the rules at two places of a list.
use Rattle.std.proofs.Common.{◌≢◌, ℕ, zero, suc, ◌<◌, List, [], ◌∷◌, length, get_or, sym, arith}
use Rattle.std.specs.List.{AllByRecursion}
use Rattle.fw_rule.specs.declared.rule.Rule.{Rule}
use Rattle.rule_chain.specs.Chain.{AscendsFrom, DifferBy, DifferInCounters, HaveOwnCounters, HaveOwnIdentities, HaveOwnIds, StandInOrder}
use Rattle.rule_chain.proofs.Chains.{numbers_ascend}

all_at : (P : Rule → Type 0) (rules : List Rule) (j : ℕ) (d : Rule) → AllByRecursion P rules → j < length rules → P (get_or rules j d)
all_at P [] j d all within = absurd (omega arith)
all_at P (r ∷ rules) zero d all within = all.0
all_at P (r ∷ rules) (suc j) d all within = all_at P rules j d all.1 (omega arith)

differ_at : (key : Rule → ℕ) (rules : List Rule) (i j : ℕ) (d : Rule) → DifferBy key rules → i < j → j < length rules → key (get_or rules i d) ≢ key (get_or rules j d)
differ_at key [] i j d h less within = absurd (omega arith)
differ_at key (r ∷ rules) i zero d h less within = absurd (omega arith)
differ_at key (r ∷ rules) zero (suc j) d h less within = λ same. all_at (λ other. key other ≢ key r) rules j d h.0 (omega arith) (sym same)
differ_at key (r ∷ rules) (suc i) (suc j) d h less within = differ_at key rules i j d h.1 (omega arith) (omega arith)

-- rules whose numbers ascend stand in the order of their numbers
pub stand_in_order : (rules : List Rule) → AscendsFrom 1 rules → StandInOrder rules
stand_in_order rules h i j d less within = numbers_ascend 1 rules i j d h (omega arith) within

-- rules that differ in their identities do so at any two places
pub own_identities : (rules : List Rule) → HaveOwnIds rules → HaveOwnIdentities rules
own_identities rules h i j d less within = differ_at (λ r. r.id) rules i j d h less within

-- the same of their counter numbers
pub own_counters : (rules : List Rule) → DifferInCounters rules → HaveOwnCounters rules
own_counters rules h i j d less within = differ_at (λ r. r.counter) rules i j d h less within
