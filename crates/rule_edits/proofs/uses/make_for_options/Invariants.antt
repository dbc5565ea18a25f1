use Rattle.std.proofs.Common.{◌≡◌, drop}
use Rattle.std.specs.List.{filter_map}
use Rattle.rule_edits.specs.Lookups as lookups
use Rattle.rule_edits.specs.Uses as uses
use Rattle.rule_edits.proofs.uses.make_for_options.Given as goal

abbrev pub invariant-loop-option : goal.invariant-loop-option
invariant-loop-option l = lookups.with_uses l.fn.tables (filter_map uses.option_use l.options) ≡ lookups.with_uses l.tables (filter_map uses.option_use (drop l.option-index l.options))
