use Rattle.std.proofs.Common.{◌≡◌, drop}
use Rattle.std.specs.List.{filter_map}
use Rattle.rule_edits.specs.Lookups as lookups
use Rattle.rule_edits.specs.Uses as uses
use Rattle.rule_edits.proofs.uses.make_for_items.Given as goal

abbrev pub invariant-loop-item : goal.invariant-loop-item
invariant-loop-item l = lookups.with_uses l.fn.tables (filter_map uses.item_use l.items) ≡ lookups.with_uses l.tables (filter_map uses.item_use (drop l.item-index l.items))
