use Rattle.std.proofs.Common.{◌+◌}
use Rattle.dyn_states.specs.StateObject as object
use Rattle.state_asks.specs.declared.op.FlowName.TheVariants.{Named}
use Rattle.dyn_states.specs.StateTable.{slots_of}
use Rattle.dyn_states.proofs.PlaceLaws.{IsFirstPlace-either, below_name, below_more}
use Rattle.dyn_states.proofs.state_table.StateTable.place_any.Goals as goal

pub loop-name-preserved : goal.loop-name-preserved
loop-name-preserved c =
    let n = c.loop-name.name in
    rw c.earlier-first.ensures (IsFirstPlace-either (below_name c.args.flow.now n) (object.considers c.args.flow.now (Named n)) (below_name c.args.flow.now (n + 1)) (slots_of c.args.self.now) c.loop-name.first c.place_named.result (below_more c.args.flow.now n) c.loop-name.invariant c.place_named.ensures)
