use Rattle.std.proofs.Common.{take}
use Rattle.rule_edits.specs.Addresses.{AreListed}
use Rattle.rule_edits.proofs.address_list.tree_of.Given as goal

abbrev pub invariant-loop-address : goal.invariant-loop-address
invariant-loop-address l = AreListed (take l.address-index l.addresses) l.tree
