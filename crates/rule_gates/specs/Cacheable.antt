-- The rules whose verdicts can be kept: each of them ends an evaluation or passes it on to the next rule.
use Rattle.std.specs.Prelude.{Bool, true, false, List}
use Rattle.std.specs.List.{list_all}
use Rattle.fw_rule.specs.declared.action.Action.{Action}
use Rattle.fw_rule.specs.declared.action.Action.TheVariants.{Allow, Deny, Reset, Unreach, Count, SkipTo, Call, Return, CheckState}
use Rattle.fw_rule.specs.declared.rule.Rule.{Rule}

-- a rule of this action that matches ends the search (ipfw(8), "RULE ACTIONS"); `check-state` ends it where
-- a state is found
abbrev pub is_final : Action → Bool
is_final Allow = true
is_final Deny = true
is_final Reset = true
is_final (Unreach code) = true
is_final Count = false
is_final (SkipTo number) = false
is_final (Call number) = false
is_final Return = false
is_final (CheckState name) = true

-- each rule is one that ends the search, those of disabled sets too
abbrev pub is_cacheable : List Rule → Bool
is_cacheable rules = list_all (λ rule. is_final rule.action) rules
