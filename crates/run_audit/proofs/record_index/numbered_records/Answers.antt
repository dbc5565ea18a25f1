use Rattle.std.proofs.Common.{arith}
use Rattle.std.proofs.lemmas.Grind.{common_steps}
use Rattle.run_audit.specs.Indexes.{record_number}
use Rattle.run_audit.proofs.Steps.{numbered_step, numbered_none}
use Rattle.run_audit.proofs.record_index.numbered_records.Goals as goal

pub loop-place-preserved : goal.loop-place-preserved
loop-place-preserved c =
    numbered_step record_number c.args.records.now c.loop-place.place _ c.loop-place.numbered.items c.push.new.self.items _ c.loop-place-test.true c.loop-place.invariant c.in_ok-push.ensures.items

pub returns : goal.returns
returns c =
    let none = numbered_none record_number c.args.records.now c.loop-place.place (omega arith) in
    grind (arith, common_steps)
