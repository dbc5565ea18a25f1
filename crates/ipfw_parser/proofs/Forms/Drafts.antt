-- The drafts that the grammar yields are well formed.
use Rattle.std.proofs.Common.{ℕ, Some, None, Option, Result, Ok, Err, List, ◌∷◌, arith, []}
use Rattle.std.specs.Prelude.{IfOk, IfSome, IsSomeAnd}
use Rattle.std.specs.List.{AllByRecursion}
use Rattle.fw_rule.specs.WellFormed.{IsItem, IsPortList, IsTest, IsState, IsBody, HasBody, IsDraft, IsValue}
use Rattle.fw_rule.specs.declared.action.Action.{Action}
use Rattle.fw_rule.specs.declared.action.Action.TheVariants.{Allow, Deny, Reset, Unreach, Count, SkipTo, Call, Return, CheckState}
use Rattle.fw_rule.specs.declared.addr_item.AddrItem.{AddrItem}
use Rattle.fw_rule.specs.declared.addr_item.AddrItem.TheVariants.{Any, Me, Net, Net6, InTable, TableValue}
use Rattle.fw_rule.specs.declared.port_list.PortList.{PortList}
use Rattle.fw_rule.specs.declared.test.Test.{Test}
use Rattle.fw_rule.specs.declared.test.Test.TheVariants.{Inward, Outward, Established, Setup, Frag, Recv, Xmit, Via, TcpFlags, IcmpTypes, Icmp6Types, IpOptions, Lookup}
use Rattle.fw_rule.specs.declared.state_opt.StateOpt.{StateOpt}
use Rattle.fw_rule.specs.declared.state_opt.StateOpt.TheVariants.{Keep, Limit}
use Rattle.fw_rule.specs.declared.opt.Opt.{Opt}
use Rattle.fw_rule.specs.declared.body.Body.{Body}
use Rattle.fw_rule.specs.declared.rule_draft.RuleDraft.{RuleDraft}
use Rattle.fw_lex.specs.declared.token.Token.{Token}
use Rattle.ipfw_parser.specs.declared.parse_fault.ParseFault.{ParseFault}
use Rattle.ipfw_parser.specs.Reading.{Fault, ReadsAs}
use Rattle.ipfw_parser.specs.Rules.{rule_in}
use Rattle.ipfw_parser.specs.Forms.{IsItemForm, IsTestForm, IsStateForm, IsBodyForm, HasForm, IsDraftForm}
use Rattle.ipfw_parser.proofs.Forms.Following.{weaker, of_ok}
use Rattle.ipfw_parser.proofs.Forms.Items.{ArePorts}
use Rattle.ipfw_parser.proofs.Forms.Rules.{rule_in_on}

is_item : (x : AddrItem) → IsItemForm x → IsItem x
is_item Any form = tt
is_item Me form = tt
is_item (Net n) form = form.0.within
is_item (Net6 n) form = form.0.within
is_item (InTable name) form = tt
is_item (TableValue name value) form = form.1

are_items : (xs : List AddrItem) → AllByRecursion IsItemForm xs → AllByRecursion IsItem xs
are_items [] form = tt
are_items (x ∷ xs) form = (is_item x form.0, are_items xs form.1)

are_ports : (ports : Option PortList) → ArePorts ports → IfSome ports IsPortList
are_ports None form = tt
are_ports (Some ports) form = form.each

is_test : (t : Test) → IsTestForm t → IsTest t
is_test Inward form = tt
is_test Outward form = tt
is_test Established form = tt
is_test Setup form = tt
is_test Frag form = tt
is_test (Recv i) form = tt
is_test (Xmit i) form = tt
is_test (Via i) form = tt
is_test (TcpFlags set clear) form = tt
is_test (IcmpTypes types) form = omega (arith, form.1)
is_test (Icmp6Types types) form = form.set
is_test (IpOptions present absent) form = tt
is_test (Lookup field name) form = tt

is_state : (s : StateOpt) → IsStateForm s → IsState s
is_state (Keep name) form = form.one
is_state (Limit mask most name) form = (form.0, form.1.one)

are_states : (made : Option StateOpt) → IfSome made IsStateForm → IfSome made IsState
are_states None form = tt
are_states (Some s) form = is_state s form

are_tests : (os : List Opt) → AllByRecursion (λ o. IsTestForm o.test) os → AllByRecursion (λ o. IsTest o.test) os
are_tests [] form = tt
are_tests (o ∷ os) form = (is_test o.test form.0, are_tests os form.1)

is_body : (b : Body) → IsBodyForm b → IsBody b
is_body b form = record {
  protocol = form.protocol;
  source = are_items b.source.items form.source.each;
  source_ports = are_ports b.source_ports form.source_ports;
  destination = are_items b.destination.items form.destination.each;
  destination_ports = are_ports b.destination_ports form.destination_ports;
  options = are_tests b.options form.placed.each;
  state = are_states b.state form.placed.state;
  state_at = form.placed.within;
}

is_some_body : (asked : Option Body) → IsSomeAnd asked IsBodyForm → IsSomeAnd asked IsBody
is_some_body None form = form
is_some_body (Some b) form = is_body b form

has_body : (a : Action) (logged : Option ℕ) (asked : Option Body) → HasForm a logged asked → HasBody a asked
has_body Allow logged asked form = is_some_body asked form.asked
has_body Deny logged asked form = is_some_body asked form.asked
has_body Reset logged asked form = is_some_body asked form.asked
has_body (Unreach n) logged asked form = is_some_body asked form.asked
has_body Count logged asked form = is_some_body asked form.asked
has_body (SkipTo n) logged asked form = is_some_body asked form.asked
has_body (Call n) logged asked form = is_some_body asked form.asked
has_body Return logged asked form = is_some_body asked form.asked
has_body (CheckState flow) logged asked form = form.2

no_value : (logged : Option ℕ) → IfSome logged (λ _. ⊥) → IfSome logged IsValue
no_value None none = tt
no_value (Some n) none = absurd none

has_value : (a : Action) (logged : Option ℕ) (asked : Option Body) → HasForm a logged asked → IfSome logged IsValue
has_value Allow logged asked form = form.amount
has_value Deny logged asked form = form.amount
has_value Reset logged asked form = form.amount
has_value (Unreach n) logged asked form = form.amount
has_value Count logged asked form = form.amount
has_value (SkipTo n) logged asked form = form.amount
has_value (Call n) logged asked form = form.amount
has_value Return logged asked form = form.amount
has_value (CheckState flow) logged asked form = no_value logged form.1

-- a draft in its form is well formed
draft_is : (draft : RuleDraft) → IsDraftForm draft → IsDraft draft
draft_is draft form = record {
  number = form.number;
  set = form.set;
  action = form.action;
  log = has_value draft.action draft.log draft.body form.rest;
  body = has_body draft.action draft.log draft.body form.rest;
}

-- what the grammar yields is well formed
pub drafts_are : (line : List ℕ) (tokens : List Token) (skipped : ℕ) → IfOk (rule_in line tokens skipped) IsDraft
drafts_are line tokens skipped = weaker (rule_in line tokens skipped) IsDraftForm IsDraft (rule_in_on line tokens skipped) draft_is

-- so is what a call answered that gives the grammar's draft
pub answer_is : (result : Result RuleDraft ParseFault) (reading : Result RuleDraft Fault) → ReadsAs (λ draft. draft) result reading → IfOk reading IsDraft → IfOk result IsDraft
answer_is (Ok draft) reading gives on = of_ok reading IsDraft draft on gives
answer_is (Err e) reading gives on = tt
