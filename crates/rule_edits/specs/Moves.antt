-- Which rules change their set, and how (ipfw(8), "SETS OF RULES").
use Rattle.std.specs.Prelude.{ℕ}
use Rattle.fw_rule.specs.declared.rule.Rule.{Rule}
use Rattle.rule_edits.specs.declared.moves.Moves.{Moves}
use Rattle.rule_edits.specs.declared.moves.Moves.TheVariants.{Set, Number, Swap}
use Rattle.rule_edits.specs.Rules.{set_moved, set_of_number, set_swapped}

-- the set of a rule after the command
abbrev pub set_after : Moves → Rule → ℕ
set_after (Set from to) = set_moved from to
set_after (Number number to) = set_of_number number to
set_after (Swap first second) = set_swapped first second
