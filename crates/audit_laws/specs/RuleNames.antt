-- The names that a rule has: of flows, of tables and of interfaces (ipfw(8), "RULE FORMAT").
use Rattle.std.specs.Prelude.{◌≡◌, ℕ, true, Option, Some, None, List, [], ◌∷◌, ◌++◌}
use Rattle.std.specs.List.{flat_map, list_all}
use Rattle.fw_base.specs.Name.{is_name_byte}
use Rattle.fw_rule.specs.declared.action.Action.{Action}
use Rattle.fw_rule.specs.declared.action.Action.TheVariants.{Allow, Deny, Reset, Unreach, Count, SkipTo, Call, Return, CheckState}
use Rattle.fw_rule.specs.declared.addr_item.AddrItem.{AddrItem}
use Rattle.fw_rule.specs.declared.addr_item.AddrItem.TheVariants.{Any, Me, Net, Net6, InTable, TableValue}
use Rattle.fw_rule.specs.declared.body.Body.{Body}
use Rattle.fw_rule.specs.declared.iface.Iface.{Iface}
use Rattle.fw_rule.specs.declared.iface.Iface.TheVariants.{AnyIface, Exact, Begins}
use Rattle.fw_rule.specs.declared.rule.Rule.{Rule}
use Rattle.fw_rule.specs.declared.state_opt.StateOpt.{StateOpt}
use Rattle.fw_rule.specs.declared.state_opt.StateOpt.TheVariants.{Keep, Limit}
use Rattle.fw_rule.specs.declared.test.Test.{Test}
use Rattle.fw_rule.specs.declared.test.Test.TheVariants.{Inward, Outward, Established, Setup, Frag, Recv, Xmit, Via, TcpFlags, IcmpTypes, Icmp6Types, IpOptions, Lookup}

-- a name has letters, digits, `_`, `.` and `-`
abbrev pub HasNameBytes : List ℕ → Type 0
HasNameBytes name = list_all is_name_byte name ≡ true

-- one name, if there is one
abbrev pub optional_name : Option (List ℕ) → List (List ℕ)
optional_name None = []
optional_name (Some name) = name ∷ []

-- the flow that a `check-state` looks up
abbrev pub names_in_action : Action → List (List ℕ)
names_in_action Allow = []
names_in_action Deny = []
names_in_action Reset = []
names_in_action (Unreach code) = []
names_in_action Count = []
names_in_action (SkipTo number) = []
names_in_action (Call number) = []
names_in_action Return = []
names_in_action (CheckState name) = optional_name name

-- the table that an element of an address list asks
abbrev pub names_in_item : AddrItem → List (List ℕ)
names_in_item Any = []
names_in_item Me = []
names_in_item (Net network) = []
names_in_item (Net6 network) = []
names_in_item (InTable name) = name ∷ []
names_in_item (TableValue name value) = name ∷ []

-- an interface, or the start of one
abbrev pub names_in_iface : Iface → List (List ℕ)
names_in_iface AnyIface = []
names_in_iface (Exact name) = name ∷ []
names_in_iface (Begins name) = name ∷ []

-- the interface or the table of an option
abbrev pub names_in_test : Test → List (List ℕ)
names_in_test Inward = []
names_in_test Outward = []
names_in_test Established = []
names_in_test Setup = []
names_in_test Frag = []
names_in_test (Recv iface) = names_in_iface iface
names_in_test (Xmit iface) = names_in_iface iface
names_in_test (Via iface) = names_in_iface iface
names_in_test (TcpFlags set clear) = []
names_in_test (IcmpTypes types) = []
names_in_test (Icmp6Types types) = []
names_in_test (IpOptions present absent) = []
names_in_test (Lookup field table) = table ∷ []

-- the flow of the states that are made
abbrev pub names_in_state : Option StateOpt → List (List ℕ)
names_in_state None = []
names_in_state (Some (Keep name)) = name ∷ []
names_in_state (Some (Limit mask most name)) = name ∷ []

-- all names of a body
abbrev pub names_in_body : Option Body → List (List ℕ)
names_in_body None = []
names_in_body (Some body) =
    flat_map names_in_item body.source.items
    ++ (flat_map names_in_item body.destination.items ++ (flat_map (λ option. names_in_test option.test) body.options ++ names_in_state body.state))

-- all names of a rule
abbrev pub names_in_rule : Rule → List (List ℕ)
names_in_rule rule = names_in_action rule.action ++ names_in_body rule.body
