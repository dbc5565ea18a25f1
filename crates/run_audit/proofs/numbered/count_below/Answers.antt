use Rattle.std.proofs.Common.{ltb, ltb-true, ltb-false, rules}
use Rattle.std.proofs.lemmas.List.Sorted.{IsPartitionPoint-from_clause, IsPartitionedBy-ltb}
use Rattle.run_audit.specs.declared.numbered.Numbered.{Numbered}
use Rattle.run_audit.specs.Numbering.{number_of}
use Rattle.run_audit.proofs.numbered.count_below.Goals as goal

pub returns-clause-point : goal.returns-clause-point
returns-clause-point c =
    let parted = IsPartitionedBy-ltb number_of c.args.ordered.now c.args.at c.requires in
    let point = IsPartitionPoint-from_clause (λ (one : Numbered). ltb (number_of one) c.args.at) _ _ c.partition_point.ensures.partitioned parted (λ a r q k. search rules) in
    ((λ k d from less. ltb-true _ _ (point.0 k d from less)), (λ k d from less. ltb-false _ _ (point.1 k d from less)))
