use Rattle.std.proofs.Common.{◌≡◌, drop}
use Rattle.rule_edits.specs.Apply as spec
use Rattle.rule_edits.proofs.locals.add_many.Given as goal

abbrev pub invariant-loop-address : goal.invariant-loop-address
invariant-loop-address l = spec.with_addresses l.fn.locals.items l.addresses ≡ spec.with_addresses l.list (drop l.address-index l.addresses)
