use Rattle.std.proofs.Common.{arith}
use Rattle.std.proofs.lemmas.Grind.{common_steps}
use Rattle.rm_core.proofs.Keeping.{IsCore-step, next_number}
use Rattle.rm_core.proofs.lock_core.Core.step.Goals as goal

pub advance-requires-clause-room : goal.advance-requires-clause-room
advance-requires-clause-room c = next_number _ _ c.args.event c.self.view_is c.self.invariant c.requires

pub returns-clause-after : goal.returns-clause-after
returns-clause-after c = grind (arith, common_steps)

pub invariant_of-self : goal.invariant_of-self
invariant_of-self c = IsCore-step _ _ _ c.args.event c.self.view_is (returns-clause-after c) c.self.invariant c.requires

pub returns-clause-safe : goal.returns-clause-safe
returns-clause-safe c = (invariant_of-self c).safe
