-- When a rule's draft and a command are well formed: each of their numbers is in its range, and
-- exactly a `check-state` has no body.
use Rattle.std.specs.Prelude.{ℕ, ◌^◌, ◌<◌, ◌≤◌, ⊤, Option, IfSome, IsSomeAnd, length}
use Rattle.std.specs.List.{AllByRecursion}
use Rattle.fw_base.specs.Prefix.{Network}
use Rattle.fw_base.specs.Prefix6.{Network6}
use Rattle.fw_base.specs.PortRange.{Ports}
use Rattle.fw_rule.specs.FlowName.{IsFlowName}
use Rattle.fw_rule.specs.Settings.{IsInRange}
use Rattle.fw_rule.specs.declared.action.Action.{Action}
use Rattle.fw_rule.specs.declared.action.Action.TheVariants.{Allow, Deny, Reset, Unreach, Count, SkipTo, Call, Return, CheckState}
use Rattle.fw_rule.specs.declared.addr_item.AddrItem.{AddrItem}
use Rattle.fw_rule.specs.declared.addr_item.AddrItem.TheVariants.{Any, Me, Net, Net6, InTable, TableValue}
use Rattle.fw_rule.specs.declared.addr_spec.AddrSpec.{AddrSpec}
use Rattle.fw_rule.specs.declared.port_list.PortList.{PortList}
use Rattle.fw_rule.specs.declared.test.Test.{Test}
use Rattle.fw_rule.specs.declared.test.Test.TheVariants.{Inward, Outward, Established, Setup, Frag, Recv, Xmit, Via, TcpFlags, IcmpTypes, Icmp6Types, IpOptions, Lookup}
use Rattle.fw_rule.specs.declared.type_set.TypeSet.{TypeSet}
use Rattle.fw_rule.specs.declared.state_opt.StateOpt.{StateOpt}
use Rattle.fw_rule.specs.declared.state_opt.StateOpt.TheVariants.{Keep, Limit}
use Rattle.fw_rule.specs.declared.body.Body.{Body}
use Rattle.fw_rule.specs.declared.rule_draft.RuleDraft.{RuleDraft}
use Rattle.fw_rule.specs.declared.table_command.Key.{Key}
use Rattle.fw_rule.specs.declared.table_command.Key.TheVariants.{Net as NetKey, Number}
use Rattle.fw_rule.specs.declared.table_command.TableCommand.{TableCommand}
use Rattle.fw_rule.specs.declared.table_command.TableCommand.TheVariants.{Create, Destroy, Add as AddEntry, Remove, Clear, SwapWith, ListEntries}
use Rattle.fw_rule.specs.declared.command.Command.{Command}
use Rattle.fw_rule.specs.declared.command.Command.TheVariants.{Add, Delete, DeleteSet, Flush, Zero, ListRules, SetMask, MoveSet, MoveRule, SwapSets, Table, Sysctl, Local}

-- from least to most
pub record IsFromTo (least most n : ℕ) : Type 0 where
  pub least_le : least ≤ n
  pub most_ge : n ≤ most

-- a rule's number
abbrev pub IsNumber : ℕ → Type 0
IsNumber n = IsFromTo 1 65535 n

-- a set's number
abbrev pub IsSet : ℕ → Type 0
IsSet n = n ≤ 31

-- a value of a table, an amount
abbrev pub IsValue : ℕ → Type 0
IsValue n = n ≤ 4294967295

-- an action: the number or code that it names is in its range
abbrev pub IsAction : Action → Type 0
IsAction Allow = ⊤
IsAction Deny = ⊤
IsAction Reset = ⊤
IsAction (Unreach code) = code ≤ 255
IsAction Count = ⊤
IsAction (SkipTo number) = IsNumber number
IsAction (Call number) = IsNumber number
IsAction Return = ⊤
IsAction (CheckState name) = IfSome name IsFlowName

-- a prefix's length
abbrev pub IsPrefix : Network → Type 0
IsPrefix n = n.bits ≤ 32

-- a prefix's length of IPv6
abbrev pub IsPrefix6 : Network6 → Type 0
IsPrefix6 n = n.bits ≤ 128

-- an element of an address list
abbrev pub IsItem : AddrItem → Type 0
IsItem Any = ⊤
IsItem Me = ⊤
IsItem (Net n) = IsPrefix n
IsItem (Net6 n) = IsPrefix6 n
IsItem (InTable name) = ⊤
IsItem (TableValue name value) = IsValue value

-- an address list
abbrev pub IsAddrSpec : AddrSpec → Type 0
IsAddrSpec spec = AllByRecursion IsItem spec.items

-- a port range rises
abbrev pub IsRange : Ports → Type 0
IsRange r = (r.low ≤ r.high) × (r.high ≤ 65535)

-- a port list
abbrev pub IsPortList : PortList → Type 0
IsPortList ports = AllByRecursion IsRange ports.ranges

-- 256 ICMPv6 types
pub record IsTypeSet (types : TypeSet) : Type 0 where
  pub low : types.low < 2 ^ 128
  pub high : types.high < 2 ^ 128

-- 32 ICMP types; the bits of a mask of flags or of IP options may be any
abbrev pub IsTest : Test → Type 0
IsTest Inward = ⊤
IsTest Outward = ⊤
IsTest Established = ⊤
IsTest Setup = ⊤
IsTest Frag = ⊤
IsTest (Recv iface) = ⊤
IsTest (Xmit iface) = ⊤
IsTest (Via iface) = ⊤
IsTest (TcpFlags set clear) = ⊤
IsTest (IcmpTypes types) = types ≤ 4294967295
IsTest (Icmp6Types types) = IsTypeSet types
IsTest (IpOptions present absent) = ⊤
IsTest (Lookup field table) = ⊤

-- a state option: a flow name, and a limit of 1 to 65535
abbrev pub IsState : StateOpt → Type 0
IsState (Keep name) = IsFlowName name
IsState (Limit mask most name) = IsFromTo 1 65535 most × IsFlowName name

-- Every number of a body is in its range.
pub record IsBody (body : Body) : Type 0 where
  pub protocol : body.protocol ≤ 255
  pub source : IsAddrSpec body.source
  pub source_ports : IfSome body.source_ports IsPortList
  pub destination : IsAddrSpec body.destination
  pub destination_ports : IfSome body.destination_ports IsPortList
  pub options : AllByRecursion (λ option. IsTest option.test) body.options
  pub state : IfSome body.state IsState
  pub state_at : body.state_at ≤ length body.options

-- a body, for all but `check-state`
abbrev pub HasBody : Action → Option Body → Type 0
HasBody Allow body = IsSomeAnd body IsBody
HasBody Deny body = IsSomeAnd body IsBody
HasBody Reset body = IsSomeAnd body IsBody
HasBody (Unreach code) body = IsSomeAnd body IsBody
HasBody Count body = IsSomeAnd body IsBody
HasBody (SkipTo number) body = IsSomeAnd body IsBody
HasBody (Call number) body = IsSomeAnd body IsBody
HasBody Return body = IsSomeAnd body IsBody
HasBody (CheckState name) body = IfSome body (λ _. ⊥)

-- the number of a draft may be 0
pub record IsDraft (draft : RuleDraft) : Type 0 where
  pub number : IfSome draft.number (λ n. n ≤ 65535)
  pub set : IsSet draft.set
  pub action : IsAction draft.action
  pub log : IfSome draft.log IsValue
  pub body : HasBody draft.action draft.body

-- a table's key
abbrev pub IsKey : Key → Type 0
IsKey (NetKey n) = IsPrefix n
IsKey (Number n) = IsValue n

-- a command on a table
abbrev pub IsTableCommand : TableCommand → Type 0
IsTableCommand (Create type) = ⊤
IsTableCommand Destroy = ⊤
IsTableCommand (AddEntry key value) = IsKey key × IsValue value
IsTableCommand (Remove key) = IsKey key
IsTableCommand Clear = ⊤
IsTableCommand (SwapWith other) = ⊤
IsTableCommand ListEntries = ⊤

-- every number of a command is in its range
abbrev pub IsWellFormed : Command → Type 0
IsWellFormed (Add draft) = IsDraft draft
IsWellFormed (Delete numbers) = AllByRecursion IsNumber numbers
IsWellFormed (DeleteSet set) = IsSet set
IsWellFormed Flush = ⊤
IsWellFormed (Zero numbers) = AllByRecursion IsNumber numbers
IsWellFormed ListRules = ⊤
IsWellFormed (SetMask disable enable) = (disable ≤ 4294967295) × (enable ≤ 4294967295)
IsWellFormed (MoveSet from to) = IsSet from × IsSet to
IsWellFormed (MoveRule number to) = IsNumber number × IsSet to
IsWellFormed (SwapSets first second) = IsSet first × IsSet second
IsWellFormed (Table name command) = IsTableCommand command
IsWellFormed (Sysctl setting value) = IsInRange setting value
IsWellFormed (Local addresses) = ⊤
