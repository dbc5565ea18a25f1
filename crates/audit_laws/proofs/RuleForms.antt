-- The names of a rule that the grammar yields have the bytes of names.
use Rattle.std.proofs.Common.{◌≡◌, ℕ, true, ◌&&◌, nat_le, Option, Some, None, IfSome, List, [], ◌∷◌, length}
use Rattle.std.specs.List.{AllByRecursion, flat_map, list_all}
use Rattle.std.proofs.lemmas.Bool.{and_parts, leb-true}
use Rattle.fw_base.specs.Name.{is_name_byte}
use Rattle.fw_rule.specs.declared.action.Action.{Action}
use Rattle.fw_rule.specs.declared.action.Action.TheVariants.{Allow, Deny, Reset, Unreach, Count, SkipTo, Call, Return, CheckState}
use Rattle.fw_rule.specs.declared.addr_item.AddrItem.{AddrItem}
use Rattle.fw_rule.specs.declared.addr_item.AddrItem.TheVariants.{Any, Me, Net, Net6, InTable, TableValue}
use Rattle.fw_rule.specs.declared.body.Body.{Body}
use Rattle.fw_rule.specs.declared.iface.Iface.{Iface}
use Rattle.fw_rule.specs.declared.iface.Iface.TheVariants.{AnyIface, Exact, Begins}
use Rattle.fw_rule.specs.declared.opt.Opt.{Opt}
use Rattle.fw_rule.specs.declared.state_opt.StateOpt.{StateOpt}
use Rattle.fw_rule.specs.declared.state_opt.StateOpt.TheVariants.{Keep, Limit}
use Rattle.fw_rule.specs.declared.test.Test.{Test}
use Rattle.fw_rule.specs.declared.test.Test.TheVariants.{Inward, Outward, Established, Setup, Frag, Recv, Xmit, Via, TcpFlags, IcmpTypes, Icmp6Types, IpOptions, Lookup}
use Rattle.ipfw_parser.specs.Forms.{HasBehind, HasForm, IsBodyForm, IsFlowForm, IsIfaceForm, IsItemForm, IsStateForm, IsTestForm}
use Rattle.ipfw_parser.specs.Names.{is_name}
use Rattle.rule_chain.specs.Names.{body_name, name_of}
use Rattle.audit_laws.proofs.Lists.{both}
use Rattle.audit_laws.specs.Printable.{IsFlowNameText}
use Rattle.audit_laws.specs.RuleNames.{HasNameBytes, names_in_action, names_in_body, names_in_iface, names_in_item, names_in_state, names_in_test}

-- names with the bytes of names
abbrev pub HaveNameBytes : List (List ℕ) → Type 0
HaveNameBytes names = AllByRecursion HasNameBytes names

-- a name of one to so many bytes has the bytes of names
pub name_bytes : (most : ℕ) (name : List ℕ) → is_name most name ≡ true → HasNameBytes name
unfolding is_name
name_bytes most name is = (and_parts (list_all is_name_byte name) (nat_le 1 (length name) && nat_le (length name) most) is).0

-- the name of a flow is one of flows
flow_text : (name : List ℕ) → IsFlowForm name → IsFlowNameText name
unfolding is_name
flow_text name is =
    let sizes = and_parts (nat_le 1 (length name)) (nat_le (length name) 63) (and_parts (list_all is_name_byte name) (nat_le 1 (length name) && nat_le (length name) 63) is.bytes).1 in
    record {
      text = record { bytes = name_bytes 63 name is.bytes; some = leb-true 1 (length name) sizes.0; few = leb-true (length name) 63 sizes.1 };
      other = is.one;
    }

-- all names that are found in turn
in_turn : {X : Type 0} (names : X → List (List ℕ)) (P : X → Type 0) → ((x : X) → P x → HaveNameBytes (names x)) → (xs : List X) → AllByRecursion P xs → HaveNameBytes (flat_map names xs)
in_turn names P each [] all = tt
in_turn names P each (x ∷ xs) all = both HasNameBytes (names x) (flat_map names xs) (each x all.0) (in_turn names P each xs all.1)

item_names : (item : AddrItem) → IsItemForm item → HaveNameBytes (names_in_item item)
item_names Any is = tt
item_names Me is = tt
item_names (Net network) is = tt
item_names (Net6 network) is = tt
item_names (InTable name) is = (name_bytes 63 name is, tt)
item_names (TableValue name value) is = (name_bytes 63 name is.0, tt)

iface_names : (iface : Iface) → IsIfaceForm iface → HaveNameBytes (names_in_iface iface)
iface_names AnyIface is = tt
iface_names (Exact name) is = (name_bytes 15 name is.0, tt)
iface_names (Begins name) is = (name_bytes 15 name is, tt)

test_names : (test : Test) → IsTestForm test → HaveNameBytes (names_in_test test)
test_names Inward is = tt
test_names Outward is = tt
test_names Established is = tt
test_names Setup is = tt
test_names Frag is = tt
test_names (Recv iface) is = iface_names iface is
test_names (Xmit iface) is = iface_names iface is
test_names (Via iface) is = iface_names iface is
test_names (TcpFlags set clear) is = tt
test_names (IcmpTypes types) is = tt
test_names (Icmp6Types types) is = tt
test_names (IpOptions present absent) is = tt
test_names (Lookup field table) is = (name_bytes 63 table is, tt)

state_names : (state : Option StateOpt) → IfSome state IsStateForm → HaveNameBytes (names_in_state state)
state_names None is = tt
state_names (Some (Keep name)) is = (name_bytes 63 name is.bytes, tt)
state_names (Some (Limit mask most name)) is = (name_bytes 63 name is.1.bytes, tt)

body_names : (body : Body) → IsBodyForm body → HaveNameBytes (names_in_body (Some body))
body_names body is =
    let options = flat_map (λ (option : Opt). names_in_test option.test) body.options in
    let state = state_names body.state is.placed.state in
    let tests = in_turn (λ (option : Opt). names_in_test option.test) (λ option. IsTestForm option.test) (λ option one. test_names option.test one) body.options is.placed.each in
    both HasNameBytes (flat_map names_in_item body.source.items) _ (in_turn names_in_item IsItemForm item_names body.source.items is.source.each)
    (both HasNameBytes (flat_map names_in_item body.destination.items) _ (in_turn names_in_item IsItemForm item_names body.destination.items is.destination.each)
    (both HasNameBytes options (names_in_state body.state) tests state))

behind_names : (log : Option ℕ) (body : Option Body) → HasBehind log body → HaveNameBytes (names_in_body body)
behind_names log None is = absurd is.asked
behind_names log (Some body) is = body_names body is.asked

-- without a body there is none
no_body : (body : Option Body) → IfSome body (λ _. ⊥) → HaveNameBytes (names_in_body body)
no_body None none = tt
no_body (Some body) none = absurd none

-- all names in an action and in what stands behind it
pub form_names : (action : Action) (log : Option ℕ) (body : Option Body) → HasForm action log body → HaveNameBytes (names_in_action action) × HaveNameBytes (names_in_body body)
form_names Allow log body is = (tt, behind_names log body is)
form_names Deny log body is = (tt, behind_names log body is)
form_names Reset log body is = (tt, behind_names log body is)
form_names (Unreach code) log body is = (tt, behind_names log body is)
form_names Count log body is = (tt, behind_names log body is)
form_names (SkipTo number) log body is = (tt, behind_names log body is)
form_names (Call number) log body is = (tt, behind_names log body is)
form_names Return log body is = (tt, behind_names log body is)
form_names (CheckState None) log body is = (tt, no_body body is.2)
form_names (CheckState (Some name)) log body is = ((name_bytes 63 name is.0.bytes, tt), no_body body is.2)

state_name_text : (log : Option ℕ) (body : Option Body) → HasBehind log body → IfSome (body_name body) IsFlowNameText
state_name_text log None is = absurd is.asked
state_name_text log (Some body) is = of_state body.state is.asked.placed.state
  where
    of_state : (state : Option StateOpt) → IfSome state IsStateForm → IfSome (body_name (Some (record body { state = state }))) IsFlowNameText
    of_state None is = tt
    of_state (Some (Keep name)) is = flow_text name is
    of_state (Some (Limit mask most name)) is = flow_text name is.1

-- the flow's name that a rule has is a name of flows
pub form_flow : (action : Action) (log : Option ℕ) (body : Option Body) → HasForm action log body → IfSome (name_of action body) IsFlowNameText
form_flow Allow log body is = state_name_text log body is
form_flow Deny log body is = state_name_text log body is
form_flow Reset log body is = state_name_text log body is
form_flow (Unreach code) log body is = state_name_text log body is
form_flow Count log body is = state_name_text log body is
form_flow (SkipTo number) log body is = state_name_text log body is
form_flow (Call number) log body is = state_name_text log body is
form_flow Return log body is = state_name_text log body is
form_flow (CheckState None) log None is = tt
form_flow (CheckState None) log (Some body) is = absurd is.2
form_flow (CheckState (Some name)) log body is = flow_text name is.0
