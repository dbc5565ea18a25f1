use Rattle.std.proofs.Common.{◌≡◌, ℕ, IfOk, subst}
use Rattle.run_audit.specs.AskStands.{no_sweep, stands_from}
use Rattle.run_audit.proofs.Steps.{lanes_are}
use Rattle.run_audit.proofs.ask_stands.ask_stands.Goals as goal

pub stands_with-requires : goal.stands_with-requires
stands_with-requires c = lanes_are

pub returns : goal.returns
returns c = subst (λ (n : ℕ). IfOk c.stands_with.result (λ stands. stands.items ≡ stands_from (no_sweep n) 0 c.args.entries.now)) lanes_are c.stands_with.ensures
