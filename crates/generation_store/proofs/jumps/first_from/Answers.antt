use Rattle.std.proofs.Common.{ℕ, ◌≤◌, ◌<◌, nat_lt, arith, rules, Global, length}
use Rattle.std.proofs.lemmas.List.Sorted.{IsPartitionPoint-from_clause, IsPartitionedBy-ltb}
use Rattle.std.specs.Arc.{arc_value}
use Rattle.std.specs.declared.sync.Arc.{Arc}
use Rattle.fw_rule.specs.declared.rule.Rule.{Rule}
use Rattle.rule_chain.proofs.Places.{ascend}
use Rattle.generation_store.proofs.Finding.{first_at}
use Rattle.generation_store.proofs.jumps.first_from.Goals as goal

pub returns-clause-value : goal.returns-clause-value
returns-clause-value c =
    let list = c.args.rules.now in
    let up = λ (i j : ℕ) (d : Arc Rule Global) (le : i ≤ j) (within : j < length list). ascend arc_value 1 list i j d c.requires le within in
    let parted = IsPartitionedBy-ltb (λ (x : Arc Rule Global). (arc_value x).number) list c.args.number up in
    let point = IsPartitionPoint-from_clause (λ (x : Arc Rule Global). nat_lt (arc_value x).number c.args.number) _ _ c.partition_point.ensures.partitioned parted (λ a r q k. search rules) in
    first_at arc_value c.args.number list c.partition_point.result c.partition_point.ensures.bound
    (λ k d less. point.0 k d (omega arith) less)
    (λ k d from less. point.1 k d from less)
