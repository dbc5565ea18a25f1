use Rattle.std.proofs.Common.{◌≡◌, drop}
use Rattle.rule_edits.specs.Apply as spec
use Rattle.rule_edits.proofs.locals.add_few.Given as goal

abbrev pub invariant-loop-address : goal.invariant-loop-address
invariant-loop-address l = spec.with_addresses l.fn.locals.items l.addresses ≡ spec.with_addresses l.locals.items (drop l.address-index l.addresses)
