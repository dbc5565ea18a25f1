-- Where the search goes on behind a rule (ipfw(8), "RULE ACTIONS": skipto, call, return).
use Rattle.std.specs.Prelude.{ℕ, ◌+◌, Bool, nat_le, max, List, [], ◌∷◌}
use Rattle.std.specs.List.{position_or_len}
use Rattle.fw_rule.specs.declared.action.Action.{Action}
use Rattle.fw_rule.specs.declared.action.Action.TheVariants.{Allow, Deny, Reset, Unreach, Count, SkipTo, Call, Return, CheckState}
use Rattle.fw_rule.specs.declared.rule.Rule.{Rule}
use Rattle.generation_store.specs.declared.jumps.Jump.{Jump}

-- the rule is numbered so or higher
abbrev pub is_from : ℕ → Rule → Bool
is_from number rule = nat_le number rule.number

-- the place of the first rule numbered so or higher; the list's length where there is none
abbrev pub first_from : ℕ → List Rule → ℕ
first_from number rules = position_or_len (is_from number) rules

-- `skipto` goes on behind its own place and never back, `call` forward or back, all others at the next
-- place
abbrev pub target : List Rule → ℕ → Action → ℕ
target rules place Allow = place + 1
target rules place Deny = place + 1
target rules place Reset = place + 1
target rules place (Unreach code) = place + 1
target rules place Count = place + 1
target rules place (SkipTo number) = max (place + 1) (first_from number rules)
target rules place (Call number) = first_from number rules
target rules place Return = place + 1
target rules place (CheckState name) = place + 1

-- the jump of the rule in this place: its target, and the place behind all rules of its number
abbrev pub jump_of : List Rule → ℕ → Rule → Jump
jump_of rules place rule = record { target = target rules place rule.action; after = first_from (rule.number + 1) rules }

-- the jumps of the rules from this place on
unfoldable pub jumps_from : List Rule → ℕ → List Rule → List Jump
jumps_from rules place [] = []
jumps_from rules place (rule ∷ rest) = jump_of rules place rule ∷ jumps_from rules (place + 1) rest

-- one jump for each rule
abbrev pub jumps_of : List Rule → List Jump
jumps_of rules = jumps_from rules 0 rules
