use Rattle.std.proofs.Common.{arith}
use Rattle.std.proofs.lemmas.Grind.{common_steps}
use Rattle.run_audit.specs.Indexes.{stand_number}
use Rattle.run_audit.proofs.Steps.{numbered_step, numbered_none}
use Rattle.run_audit.proofs.ask_index.numbered_asks.Goals as goal

pub loop-place-preserved : goal.loop-place-preserved
loop-place-preserved c =
    numbered_step stand_number c.args.stands.now c.loop-place.place _ c.loop-place.numbered.items c.push.new.self.items _ c.loop-place-test.true c.loop-place.invariant c.in_ok-push.ensures.items

pub returns : goal.returns
returns c =
    let none = numbered_none stand_number c.args.stands.now c.loop-place.place (omega arith) in
    grind (arith, common_steps)
