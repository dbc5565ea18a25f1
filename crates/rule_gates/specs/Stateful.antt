-- The rules that ask for dynamic states (ipfw(8), "STATEFUL FIREWALL").
use Rattle.std.specs.Prelude.{Bool, true, false, ◌||◌, is_some, Option, Some, None}
use Rattle.fw_rule.specs.declared.action.Action.{Action}
use Rattle.fw_rule.specs.declared.action.Action.TheVariants.{Allow, Deny, Reset, Unreach, Count, SkipTo, Call, Return, CheckState}
use Rattle.fw_rule.specs.declared.body.Body.{Body}
use Rattle.fw_rule.specs.declared.rule.Rule.{Rule}
use Rattle.fw_rule.specs.declared.state_opt.StateOpt.{StateOpt}

-- the rule looks states up and has no body
abbrev pub is_check_state : Action → Bool
is_check_state Allow = false
is_check_state Deny = false
is_check_state Reset = false
is_check_state (Unreach code) = false
is_check_state Count = false
is_check_state (SkipTo number) = false
is_check_state (Call number) = false
is_check_state Return = false
is_check_state (CheckState name) = true

-- the state option of a body, where there is one
abbrev pub body_state : Option Body → Option StateOpt
body_state None = None
body_state (Some body) = body.state

-- the state option of a rule, `keep-state` or `limit`, where there is one
abbrev pub state_of : Rule → Option StateOpt
state_of rule = body_state rule.body

-- `check-state`, `keep-state` and `limit` look the packet up
abbrev pub looks_up : Rule → Bool
looks_up rule = is_check_state rule.action || is_some (state_of rule)
