use Rattle.std.proofs.Common.{subst}
use Rattle.state_asks.specs.declared.op.FlowName.{FlowName}
use Rattle.eval_engine.specs.Place.{IsNumbered}
use Rattle.eval_engine.proofs.Names.{with_name}
use Rattle.eval_engine.proofs.searched.Searched.add.Goals as goal

pub returns-in-Named : goal.returns-in-Named
returns-in-Named c =
    rw c.in-Named.is
    (with_name c.args.self.now.named c.in-Named.number c.args.self.now.any c.args.self.now.found (subst (λ (n : FlowName). IsNumbered n) c.in-Named.is c.requires))
