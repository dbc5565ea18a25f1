use Rattle.std.proofs.Common.{◌≡◌, take}
use Rattle.fw_rule.proofs.body.copy_options.Given as goal

abbrev pub invariant-loop-option : goal.invariant-loop-option
invariant-loop-option l = l.copied.items ≡ take l.option-index l.option-items
