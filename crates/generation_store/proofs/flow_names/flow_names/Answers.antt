use Rattle.std.proofs.Common.{arith, sym}
use Rattle.std.specs.Arc.{arc_value}
use Rattle.rule_chain.specs.Names.{IsNamed}
use Rattle.generation_store.proofs.Whole.{all_at}
use Rattle.generation_store.proofs.flow_names.flow_names.Goals as goal

pub flow_name-requires-clause-named : goal.flow_name-requires-clause-named
flow_name-requires-clause-named c =
    let at = all_at (IsNamed c.args.names.now) arc_value c.args.rules.now c.loop-rule.rule-index c.rule-item.result (omega arith) c.requires.named in
    rw c.deref.ensures (rw (sym c.rule-item.is) at at)
