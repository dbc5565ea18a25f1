use Rattle.std.proofs.Common.{◌≡◌, drop}
use Rattle.std.specs.List.{filter_map}
use Rattle.rule_edits.specs.Uses as uses
use Rattle.rule_edits.proofs.uses.items_name.Given as goal

abbrev pub invariant-loop-item : goal.invariant-loop-item
invariant-loop-item l = uses.use_names l.name (filter_map uses.item_use l.items) ≡ uses.use_names l.name (filter_map uses.item_use (drop l.item-index l.items))
