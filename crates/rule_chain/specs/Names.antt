-- Flow names (ipfw(8), "STATEFUL FIREWALL"): the one that a rule names, and those of a configuration,
-- whose places are their numbers.
use Rattle.std.specs.Prelude.{◌≡◌, ◌≢◌, ℕ, ◌<◌, ◌≤◌, nat_eq, Option, Some, None, IfSome, List, [], length, slice_index_or}
use Rattle.std.specs.Cmp.Lexicographic.{pointwise}
use Rattle.std.specs.List.{position_or_len}
use Rattle.std.specs.Option.{option_map, option_or}
use Rattle.fw_rule.specs.FlowName.{default_flow}
use Rattle.fw_rule.specs.declared.action.Action.{Action}
use Rattle.fw_rule.specs.declared.action.Action.TheVariants.{Allow, Deny, Reset, Unreach, Count, SkipTo, Call, Return, CheckState}
use Rattle.fw_rule.specs.declared.body.Body.{Body}
use Rattle.fw_rule.specs.declared.rule.Rule.{Rule}
use Rattle.fw_rule.specs.declared.state_opt.StateOpt.{StateOpt}
use Rattle.fw_rule.specs.declared.state_opt.StateOpt.TheVariants.{Keep, Limit}

-- the flow name of an action, if any; `check-state :any` names none
abbrev pub action_name : Action → Option (List ℕ)
action_name Allow = None
action_name Deny = None
action_name Reset = None
action_name (Unreach code) = None
action_name Count = None
action_name (SkipTo number) = None
action_name (Call number) = None
action_name Return = None
action_name (CheckState name) = name

-- the flow name of a state option
abbrev pub state_name : StateOpt → List ℕ
state_name (Keep name) = name
state_name (Limit mask most name) = name

-- the name that a body's `keep-state` or `limit` gives
abbrev pub body_name : Option Body → Option (List ℕ)
body_name None = None
body_name (Some body) = option_map state_name body.state

-- the name that a rule of this action and body names, if any
abbrev pub name_of : Action → Option Body → Option (List ℕ)
name_of action body = option_or (action_name action) (body_name body)

-- the number of the name: the first place where it stands; the list's length where it stands nowhere
abbrev pub number_of_name : List (List ℕ) → List ℕ → ℕ
number_of_name names name = position_or_len (λ other. pointwise nat_eq other name) names

-- the name that a rule names has a number
abbrev pub IsNamed : List (List ℕ) → Rule → Type 0
IsNamed names rule = IfSome (name_of rule.action rule.body) (λ name. number_of_name names name < length names)

-- `default` has number 0, no two names are equal, and there are at most 64
pub record AreNames (names : List (List ℕ)) : Type 0 where
  pub some : 0 < length names
  pub first : slice_index_or names 0 [] ≡ default_flow
  pub distinct : (i j : ℕ) → i < j → j < length names → slice_index_or names i [] ≢ slice_index_or names j []
  pub few : length names ≤ 64
