use Rattle.std.proofs.Common.{◌≡◌, drop}
use Rattle.std.specs.List.{filter_map}
use Rattle.rule_edits.specs.Uses as uses
use Rattle.rule_edits.proofs.uses.options_name.Given as goal

abbrev pub invariant-loop-option : goal.invariant-loop-option
invariant-loop-option l = uses.use_names l.name (filter_map uses.option_use l.options) ≡ uses.use_names l.name (filter_map uses.option_use (drop l.option-index l.options))
