use Rattle.std.proofs.Common.{ℕ, ◌≤◌, ◌<◌, leb, leb-true, leb-false, arith, rules, Global, length}
use Rattle.std.proofs.lemmas.List.Sorted.{IsPartitionPoint-from_clause, IsPartitionedBy-leb}
use Rattle.std.specs.Arc.{arc_value}
use Rattle.std.specs.declared.sync.Arc.{Arc}
use Rattle.fw_rule.specs.declared.rule.Rule.{Rule}
use Rattle.rule_chain.proofs.Places.{ascend}
use Rattle.rule_edits.proofs.numbers.place_behind.Goals as goal

pub returns : goal.returns
returns c =
    let up = λ (i j : ℕ) (d : Arc Rule Global) (le : i ≤ j) (within : j < length c.args.rules.now). ascend arc_value 1 c.args.rules.now i j d c.requires le within in
    let parted = IsPartitionedBy-leb (λ (x : Arc Rule Global). (arc_value x).number) c.args.rules.now c.args.number up in
    let point = IsPartitionPoint-from_clause (λ (x : Arc Rule Global). leb (arc_value x).number c.args.number) _ _ c.partition_point.ensures.partitioned parted (λ a r q k. search rules) in
    let bound = c.partition_point.ensures.bound in
    record {
      within = bound;
      lower = λ k d less. leb-true _ _ (point.0 k d (omega arith) less);
      higher = λ k d from inside. leb-false _ _ (point.1 k d from inside);
    }
