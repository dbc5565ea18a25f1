-- The values that the grammar yields: numbers in their ranges, names of allowed bytes, lists that aren't
-- empty, masks with no bit in common.
use Rattle.std.specs.Prelude.{◌≡◌, ℕ, ◌+◌, ◌^◌, ◌<◌, ◌≤◌, true, false, Option, None, List, length, codes, IfSome, IsSomeAnd, ⊤, bit_and}
use Rattle.std.specs.List.{AllByRecursion}
use Rattle.fw_base.specs.Prefix.{IsNetwork}
use Rattle.fw_base.specs.Prefix6.{IsNetwork6}
use Rattle.fw_rule.specs.FlowName.{IsFlowName}
use Rattle.fw_rule.specs.WellFormed.{IsFromTo, IsRange, IsAction, IsSet, IsValue, IsTypeSet}
use Rattle.fw_rule.specs.declared.action.Action.{Action}
use Rattle.fw_rule.specs.declared.action.Action.TheVariants.{Allow, Deny, Reset, Unreach, Count, SkipTo, Call, Return, CheckState}
use Rattle.fw_rule.specs.declared.addr_item.AddrItem.{AddrItem}
use Rattle.fw_rule.specs.declared.addr_item.AddrItem.TheVariants.{Any, Me, Net, Net6, InTable, TableValue}
use Rattle.fw_rule.specs.declared.iface.Iface.{Iface}
use Rattle.fw_rule.specs.declared.iface.Iface.TheVariants.{AnyIface, Exact, Begins}
use Rattle.fw_rule.specs.declared.test.Test.{Test}
use Rattle.fw_rule.specs.declared.test.Test.TheVariants.{Inward, Outward, Established, Setup, Frag, Recv, Xmit, Via, TcpFlags, IcmpTypes, Icmp6Types, IpOptions, Lookup}
use Rattle.fw_rule.specs.declared.opt.Opt.{Opt}
use Rattle.fw_rule.specs.declared.state_opt.StateOpt.{StateOpt}
use Rattle.fw_rule.specs.declared.state_opt.StateOpt.TheVariants.{Keep, Limit}
use Rattle.fw_rule.specs.declared.type_set.TypeSet.{TypeSet}
use Rattle.fw_rule.specs.declared.body.Family.{Family}
use Rattle.fw_rule.specs.declared.body.Family.TheVariants.{AnyIp, Four, Six}
use Rattle.fw_rule.specs.declared.body.Body.{Body}
use Rattle.fw_rule.specs.declared.rule_draft.RuleDraft.{RuleDraft}
use Rattle.fw_rule.specs.declared.rule.Rule.{Rule}
use Rattle.ipfw_parser.specs.Reading.{same}
use Rattle.ipfw_parser.specs.Names.{is_name}

-- a network has no host bits; a table's name has 1 to 63 bytes
abbrev pub IsItemForm : AddrItem → Type 0
IsItemForm Any = ⊤
IsItemForm Me = ⊤
IsItemForm (Net n) = IsNetwork n × (n.address < 2 ^ 32)
IsItemForm (Net6 n) = IsNetwork6 n × (n.address < 2 ^ 128)
IsItemForm (InTable name) = is_name 63 name ≡ true
IsItemForm (TableValue name value) = (is_name 63 name ≡ true) × (value ≤ 4294967295)

-- a list with some element
pub record IsListForm {X : Type 0} (P : X → Type 0) (items : List X) : Type 0 where
  pub some : 0 < length items
  pub each : AllByRecursion P items

-- an interface's name has 1 to 15 bytes, and `any` is no name
abbrev pub IsIfaceForm : Iface → Type 0
IsIfaceForm AnyIface = ⊤
IsIfaceForm (Exact name) = (is_name 15 name ≡ true) × (same name (codes "any") ≡ false)
IsIfaceForm (Begins name) = is_name 15 name ≡ true

-- two masks of so many bits, some bit in one and none in both
pub record AreSigns (count set clear : ℕ) : Type 0 where
  pub set_below : set < 2 ^ count
  pub clear_below : clear < 2 ^ count
  pub some : 0 < set + clear
  pub apart : bit_and set clear ≡ 0

-- some ICMPv6 type
pub record IsTypesForm (types : TypeSet) : Type 0 where
  pub set : IsTypeSet types
  pub some : 0 < types.low + types.high

-- the name of a flow has 1 to 63 bytes and isn't `any`
pub record IsFlowForm (name : List ℕ) : Type 0 where
  pub bytes : is_name 63 name ≡ true
  pub one : IsFlowName name

-- an option that the grammar yields
abbrev pub IsTestForm : Test → Type 0
IsTestForm Inward = ⊤
IsTestForm Outward = ⊤
IsTestForm Established = ⊤
IsTestForm Setup = ⊤
IsTestForm Frag = ⊤
IsTestForm (Recv i) = IsIfaceForm i
IsTestForm (Xmit i) = IsIfaceForm i
IsTestForm (Via i) = IsIfaceForm i
IsTestForm (TcpFlags set clear) = AreSigns 6 set clear
IsTestForm (IcmpTypes types) = (0 < types) × (types < 2 ^ 32)
IsTestForm (Icmp6Types types) = IsTypesForm types
IsTestForm (IpOptions present absent) = AreSigns 4 present absent
IsTestForm (Lookup field name) = is_name 63 name ≡ true

-- a state option that the grammar yields
abbrev pub IsStateForm : StateOpt → Type 0
IsStateForm (Keep name) = IsFlowForm name
IsStateForm (Limit mask most name) = IsFromTo 1 65535 most × IsFlowForm name

-- options, and the state's place among them: 0 where there is no state
pub record IsPlacedForm (options : List Opt) (made : Option StateOpt) (at : ℕ) : Type 0 where
  pub each : AllByRecursion (λ option. IsTestForm option.test) options
  pub state : IfSome made IsStateForm
  pub within : at ≤ length options
  pub nowhere : made ≡ None → at ≡ 0

-- where a version of IP is asked for by its name, each protocol of it is meant
abbrev pub IsFamilyForm : Family → ℕ → Type 0
IsFamilyForm AnyIp protocol = ⊤
IsFamilyForm Four protocol = protocol ≡ 0
IsFamilyForm Six protocol = protocol ≡ 0

-- A body that the grammar yields.
pub record IsBodyForm (body : Body) : Type 0 where
  pub family : IsFamilyForm body.family body.protocol
  pub protocol : body.protocol ≤ 255
  pub source : IsListForm IsItemForm body.source.items
  pub source_ports : IfSome body.source_ports (λ ports. IsListForm IsRange ports.ranges)
  pub destination : IsListForm IsItemForm body.destination.items
  pub destination_ports : IfSome body.destination_ports (λ ports. IsListForm IsRange ports.ranges)
  pub placed : IsPlacedForm body.options body.state body.state_at

-- what stands behind an action: `log` or not, and a body
pub record HasBehind (log : Option ℕ) (body : Option Body) : Type 0 where
  pub amount : IfSome log IsValue
  pub asked : IsSomeAnd body IsBodyForm

-- a body for all but `check-state`, which has no log either
abbrev pub HasForm : Action → Option ℕ → Option Body → Type 0
HasForm Allow log body = HasBehind log body
HasForm Deny log body = HasBehind log body
HasForm Reset log body = HasBehind log body
HasForm (Unreach code) log body = HasBehind log body
HasForm Count log body = HasBehind log body
HasForm (SkipTo number) log body = HasBehind log body
HasForm (Call number) log body = HasBehind log body
HasForm Return log body = HasBehind log body
HasForm (CheckState flow) log body = IfSome flow IsFlowForm × IfSome log (λ _. ⊥) × IfSome body (λ _. ⊥)

-- A rule that the grammar yields.
pub record IsDraftForm (draft : RuleDraft) : Type 0 where
  pub number : IfSome draft.number (λ n. n ≤ 65535)
  pub set : IsSet draft.set
  pub action : IsAction draft.action
  pub rest : HasForm draft.action draft.log draft.body

-- a rule that a draft in its form makes
pub record IsRuleForm (rule : Rule) : Type 0 where
  pub number : rule.number ≤ 65535
  pub set : IsSet rule.set
  pub action : IsAction rule.action
  pub rest : HasForm rule.action rule.log rule.body
