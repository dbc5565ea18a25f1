-- The options and the rule that are read.
use Rattle.std.proofs.Common.{◌≡◌, ℕ, ◌+◌, ◌^◌, ◌<◌, ◌≤◌, zero, suc, Bool, true, false, ◌||◌, if◌then◌else◌, Some, None, is_some, Option, Ok, List, ◌∷◌, length, map, drop, codes, nat_eq, refl, sym, ap, arith, subst, []}
use Rattle.std.specs.Prelude.{IfOk, IfSome, ⊤}
use Rattle.fw_rule.specs.Names.{unreach_names, flag_names, option_names}
use Rattle.fw_rule.specs.WellFormed.{IsFromTo, IsAction, IsValue}
use Rattle.fw_rule.specs.FlowName.{default_flow, IsFlowName}
use Rattle.fw_rule.specs.declared.body.Family.{Family}
use Rattle.fw_rule.specs.declared.body.Family.TheVariants.{AnyIp, Four, Six}
use Rattle.std.specs.Cmp.Lexicographic.{pointwise}
use Rattle.fw_base.proofs.Logic.{clash}
use Rattle.fw_base.specs.Name.{is_name_byte}
use Rattle.fw_rule.specs.declared.action.Action.{Action}
use Rattle.fw_rule.specs.declared.action.Action.TheVariants.{Allow, Deny, Reset, Unreach, Count, SkipTo, Call, Return, CheckState}
use Rattle.fw_rule.specs.declared.test.Test.{Test}
use Rattle.fw_rule.specs.declared.test.Test.TheVariants.{Inward, Outward, Established, Setup, Frag, Recv, Xmit, Via, TcpFlags, IcmpTypes, Icmp6Types, IpOptions}
use Rattle.fw_rule.specs.declared.opt.Opt.{Opt}
use Rattle.fw_rule.specs.declared.state_opt.StateOpt.{StateOpt}
use Rattle.fw_rule.specs.declared.state_opt.StateOpt.TheVariants.{Keep, Limit}
use Rattle.fw_rule.specs.declared.body.Body.{Body}
use Rattle.fw_lex.specs.declared.token.Token.{Token}
use Rattle.ipfw_parser.specs.declared.kind.Kind.TheVariants.{UnknownWord, Misplaced, SecondState, BadName}
use Rattle.ipfw_parser.specs.Reading.{Word, fault_at, same, first, words_behind_word, word_at}
use Rattle.ipfw_parser.specs.Numbers.{number, starts_with_digit, set_number}
use Rattle.ipfw_parser.specs.Names.{is_name, starts_with_colon, is_any_flow, named_flow, table_name, iface, place, word_in, found_word, code}
use Rattle.ipfw_parser.specs.Lists.{types, types6, signs}
use Rattle.ipfw_parser.specs.Addresses.{addr_spec}
use Rattle.ipfw_parser.specs.Ports.{source_ports, destination_ports}
use Rattle.ipfw_parser.specs.Options.{field, limit_mask, plain_test, lookup, test_of, has_argument, test_by, test_from, is_state, option, made_flow, limit_behind, state, Placed, options}
use Rattle.ipfw_parser.specs.Rules.{rule_number, set_behind, rule_set, plain_action, action_by, action, amount_behind, amount, log, family, is_version, names_version, protocol, body, looked_up_flow, check_end, check_state, matching_rule, rule, end_column, rule_in}
use Rattle.fw_lex.specs.Words.{before_comment}
use Rattle.ipfw_parser.specs.Forms.{IsItemForm, IsListForm, IsIfaceForm, IsTestForm, IsTypesForm, IsFlowForm, IsStateForm, IsPlacedForm, IsFamilyForm, IsBodyForm, HasBehind, HasForm, IsDraftForm, AreSigns}
use Rattle.ipfw_parser.proofs.Forms.Masks.{flags_on, ip_options_on, place_below}
use Rattle.ipfw_parser.proofs.Forms.Types.{types_on, types6_on}
use Rattle.ipfw_parser.proofs.Forms.Numbers.{number_on, set_on}
use Rattle.ipfw_parser.proofs.Forms.Items.{iface_on, table_name_on, addr_spec_on, ArePorts, source_ports_on, destination_ports_on}
use Rattle.ipfw_parser.proofs.Forms.Following.{on_bind, on_if, weaker, any_on}

some_if : {X : Type 0} (P : X → Type 0) (b : Bool) (x : X) (o : Option X) → P x → IfSome o P → IfSome (if b then Some x else o) P
some_if P true x o p q = p
some_if P false x o p q = q

back : (s : Option StateOpt) → s ≡ None → None ≡ s
back s e = sym e

plain_on : (text : List ℕ) → IfSome (plain_test text) IsTestForm
unfolding plain_test
plain_on text =
    some_if IsTestForm (same text (codes "in")) Inward _ tt (
    some_if IsTestForm (same text (codes "out")) Outward _ tt (
    some_if IsTestForm (same text (codes "established")) Established _ tt (
    some_if IsTestForm (same text (codes "setup")) Setup _ tt (
    some_if IsTestForm (same text (codes "frag")) Frag None tt tt))))

lookup_on : (end : ℕ) (words : List Word) → IfOk (lookup end words) (λ r. IsTestForm r.0)
unfolding lookup
lookup_on end words =
    on_bind (first end words) _ (λ _. ⊤) (λ r. IsTestForm r.0) (any_on (first end words)) (λ which _.
    on_bind (field which.0) _ (λ _. ⊤) (λ r. IsTestForm r.0) (any_on (field which.0)) (λ wanted _.
    on_bind (first end which.1) _ (λ _. ⊤) (λ r. IsTestForm r.0) (any_on (first end which.1)) (λ table _.
    on_bind (table_name table.0) _ (λ name. is_name 63 name ≡ true) (λ r. IsTestForm r.0) (table_name_on table.0) (λ name told. told))))

test_of_on : (name word : Word) → IfOk (test_of name word) IsTestForm
unfolding test_of
test_of_on name word =
    on_if (same name.text (codes "recv")) _ _ IsTestForm (λ _. on_bind (iface word) (λ i. Ok (Recv i)) IsIfaceForm IsTestForm (iface_on word) (λ i form. form)) (λ _.
    on_if (same name.text (codes "xmit")) _ _ IsTestForm (λ _. on_bind (iface word) (λ i. Ok (Xmit i)) IsIfaceForm IsTestForm (iface_on word) (λ i form. form)) (λ _.
    on_if (same name.text (codes "via")) _ _ IsTestForm (λ _. on_bind (iface word) (λ i. Ok (Via i)) IsIfaceForm IsTestForm (iface_on word) (λ i form. form)) (λ _.
    on_if (same name.text (codes "tcpflags")) _ _ IsTestForm (λ _. on_bind (signs flag_names word) (λ m. Ok (TcpFlags m.set m.clear)) (λ m. AreSigns 6 m.set m.clear) IsTestForm (flags_on word) (λ m form. form)) (λ _.
    on_if (same name.text (codes "icmptypes")) _ _ IsTestForm (λ _. on_bind (types word) (λ m. Ok (IcmpTypes m)) (λ m. (0 < m) × (m < 2 ^ 32)) IsTestForm (types_on word) (λ m form. form)) (λ _.
    on_if (same name.text (codes "icmp6types")) _ _ IsTestForm (λ _. on_bind (types6 word) (λ s. Ok (Icmp6Types s)) IsTypesForm IsTestForm (types6_on word) (λ s form. form)) (λ _.
    on_if (same name.text (codes "ipoptions")) _ (fault_at name.column UnknownWord) IsTestForm (λ _. on_bind (signs option_names word) (λ m. Ok (IpOptions m.set m.clear)) (λ m. AreSigns 4 m.set m.clear) IsTestForm (ip_options_on word) (λ m form. form))
    (λ _. tt)))))))

test_by_on : (end : ℕ) (word : Word) (words : List Word) (plain : Option Test) → IfSome plain IsTestForm → IfOk (test_by end word words plain) (λ r. IsTestForm r.0)
test_by_on end word words (Some t) p = p
test_by_on end word words None p =
    on_if (same word.text (codes "lookup")) (lookup end words) _ (λ r. IsTestForm r.0) (λ _. lookup_on end words) (λ _.
    on_if (has_argument word.text) _ (fault_at word.column UnknownWord) (λ r. IsTestForm r.0)
    (λ _. on_bind (first end words) _ (λ _. ⊤) (λ r. IsTestForm r.0) (any_on (first end words)) (λ next _.
    on_bind (test_of word next.0) _ IsTestForm (λ r. IsTestForm r.0) (test_of_on word next.0) (λ t form. form)))
    (λ _. tt))

test_on : (end : ℕ) (word : Word) (words : List Word) → IfOk (test_from end word words) (λ r. IsTestForm r.0)
unfolding test_from
test_on end word words = test_by_on end word words (plain_test word.text) (plain_on word.text)

option_on : (end : ℕ) (word : Word) (words : List Word) → IfOk (option end word words) (λ r. IsTestForm r.0.test)
unfolding option
option_on end word words =
    on_if (same word.text (codes "not")) _ _ (λ r. IsTestForm r.0.test)
    (λ _. on_bind (first end words) _ (λ _. ⊤) (λ r. IsTestForm r.0.test) (any_on (first end words)) (λ next _.
    on_if (is_state next.0.text) (fault_at word.column Misplaced) _ (λ r. IsTestForm r.0.test) (λ _. tt)
    (λ _. on_bind (test_from end next.0 next.1) _ (λ r. IsTestForm r.0) (λ r. IsTestForm r.0.test) (test_on end next.0 next.1) (λ t form. form))))
    (λ _. on_bind (test_from end word words) _ (λ r. IsTestForm r.0) (λ r. IsTestForm r.0.test) (test_on end word words) (λ t form. form))

-- the name of no flow that is given is `default`
default_form : IsFlowForm default_flow
unfolding is_name is_name_byte
default_form = record { bytes = refl; one = λ e. clash (pointwise nat_eq default_flow (codes "any")) (ap (λ text. pointwise nat_eq text (codes "any")) e) refl }

one_flow : (name : List ℕ) → same name (codes "any") ≡ false → IsFlowName name
unfolding same
one_flow name other = λ e. clash (pointwise nat_eq name (codes "any")) (ap (λ text. pointwise nat_eq text (codes "any")) e) other

flow_on : (word : Word) → is_any_flow word.text ≡ false → IfOk (named_flow word) IsFlowForm
unfolding named_flow is_any_flow
flow_on word other =
    on_if (is_name 63 (drop 1 word.text)) (Ok (drop 1 word.text)) (fault_at word.column BadName) IsFlowForm (λ told. record { bytes = told; one = one_flow (drop 1 word.text) other }) (λ _. tt)

made_flow_on : (words : List Word) → IfOk (made_flow words) (λ r. IsFlowForm r.0)
unfolding made_flow
made_flow_on [] = default_form
made_flow_on (word ∷ words) =
    on_if (starts_with_colon word.text) _ (Ok (default_flow, word ∷ words)) (λ r. IsFlowForm r.0)
    (λ _. on_if (is_any_flow word.text) (fault_at word.column Misplaced) _ (λ r. IsFlowForm r.0) (λ _. tt)
    (λ other. on_bind (named_flow word) (λ name. Ok (name, words)) IsFlowForm (λ r. IsFlowForm r.0) (flow_on word other) (λ name form. form)))
    (λ _. default_form)

limit_behind_on : (end : ℕ) (words : List Word) → IfOk (limit_behind end words) (λ r. IsStateForm r.0)
unfolding limit_behind
limit_behind_on end words =
    on_bind (first end words) _ (λ _. ⊤) (λ r. IsStateForm r.0) (any_on (first end words)) (λ mask _.
    on_bind (limit_mask mask.0) _ (λ _. ⊤) (λ r. IsStateForm r.0) (any_on (limit_mask mask.0)) (λ wanted _.
    on_bind (first end mask.1) _ (λ _. ⊤) (λ r. IsStateForm r.0) (any_on (first end mask.1)) (λ most _.
    on_bind (number 1 65535 most.0) _ (λ n. IsFromTo 1 65535 n) (λ r. IsStateForm r.0) (number_on 1 65535 most.0) (λ n small.
    on_bind (made_flow most.1) (λ flow. Ok (Limit wanted n flow.0, flow.1)) (λ r. IsFlowForm r.0) (λ r. IsStateForm r.0) (made_flow_on most.1) (λ flow form. (small, form))))))

state_on : (end : ℕ) (word : Word) (words : List Word) → IfOk (state end word words) (λ r. IsStateForm r.0)
unfolding state
state_on end word words =
    on_if (same word.text (codes "keep-state")) _ _ (λ r. IsStateForm r.0)
    (λ _. on_bind (made_flow words) (λ flow. Ok (Keep flow.0, flow.1)) (λ r. IsFlowForm r.0) (λ r. IsStateForm r.0) (made_flow_on words) (λ flow form. form))
    (λ _. on_if (same word.text (codes "limit")) (limit_behind end words) (fault_at word.column UnknownWord) (λ r. IsStateForm r.0) (λ _. limit_behind_on end words) (λ _. tt))

no_options : IsPlacedForm [] None 0
no_options = record { each = tt; state = tt; within = omega arith; nowhere = λ _. refl }

one_option : (o : Opt) (p : Placed) → IsTestForm o.test → IsPlacedForm p.options p.state p.state_at → IsPlacedForm (o ∷ p.options) p.state (if is_some p.state then p.state_at + 1 else p.state_at)
one_option o p form placed = record {
  each = (form, placed.each);
  state = placed.state;
  within = elim (is_some p.state) as (λ b. (if b then p.state_at + 1 else p.state_at) ≤ length (o ∷ p.options)) [ true ↦ omega (arith, placed.within) | false ↦ omega (arith, placed.within) ];
  nowhere = λ none. subst (λ s. (if is_some s then p.state_at + 1 else p.state_at) ≡ 0) (back p.state none) (placed.nowhere none);
}

one_state : (s : StateOpt) (p : Placed) → IsStateForm s → IsPlacedForm p.options p.state p.state_at → IsPlacedForm p.options (Some s) 0
one_state s p form placed = record { each = placed.each; state = form; within = omega arith; nowhere = λ _. refl }

options_on : (limit end : ℕ) (seen : Bool) (words : List Word) → IfOk (options limit end seen words) (λ p. IsPlacedForm p.options p.state p.state_at)
unfolding options
options_on limit end seen [] = no_options
options_on zero end seen (word ∷ words) = no_options
options_on (suc limit) end seen (word ∷ words) =
    on_if (is_state word.text) _ _ (λ p. IsPlacedForm p.options p.state p.state_at)
    (λ _. on_if seen (fault_at word.column SecondState) _ (λ p. IsPlacedForm p.options p.state p.state_at) (λ _. tt)
    (λ _. on_bind (state end word words) _ (λ r. IsStateForm r.0) (λ p. IsPlacedForm p.options p.state p.state_at) (state_on end word words) (λ made form.
    on_bind (options limit end true made.1) _ (λ p. IsPlacedForm p.options p.state p.state_at) (λ p. IsPlacedForm p.options p.state p.state_at) (options_on limit end true made.1) (λ p placed. one_state made.0 p form placed))))
    (λ _. on_bind (option end word words) _ (λ r. IsTestForm r.0.test) (λ p. IsPlacedForm p.options p.state p.state_at) (option_on end word words) (λ made form.
    on_bind (options limit end seen made.1) _ (λ p. IsPlacedForm p.options p.state p.state_at) (λ p. IsPlacedForm p.options p.state p.state_at) (options_on limit end seen made.1) (λ p placed. one_option made.0 p form placed)))

zero_form : (f : Family) → IsFamilyForm f 0
zero_form AnyIp = tt
zero_form Four = refl
zero_form Six = refl

version_less : (f : Family) (n : ℕ) → is_version f ≡ false → IsFamilyForm f n
version_less AnyIp n none = tt
version_less Four n none = clash true refl none
version_less Six n none = clash true refl none

-- a word that names no version of IP asks for none
any_form : (text : List ℕ) (n : ℕ) → names_version text ≡ false → IsFamilyForm (family text) n
unfolding names_version
any_form text n none = version_less (family text) n none

record IsProtocolForm (text : List ℕ) (n : ℕ) : Type 0 where
  byte : n ≤ 255
  version : IsFamilyForm (family text) n

protocol_on : (word : Word) → IfOk (protocol word) (λ n. IsProtocolForm word.text n)
unfolding protocol
protocol_on word =
    on_if (names_version word.text) (Ok 0) _ (λ n. IsProtocolForm word.text n) (λ _. record { byte = omega arith; version = zero_form (family word.text) }) (λ none.
    on_if (starts_with_digit word.text) (number 0 255 word) _ (λ n. IsProtocolForm word.text n) (λ _. weaker (number 0 255 word) (λ n. IsFromTo 0 255 n) (λ n. IsProtocolForm word.text n) (number_on 0 255 word) (λ n small. record { byte = small.most_ge; version = any_form word.text n none })) (λ _.
    on_if (same word.text (codes "ip") || same word.text (codes "all")) (Ok 0) _ (λ n. IsProtocolForm word.text n) (λ _. record { byte = omega arith; version = any_form word.text 0 none }) (λ _.
    on_if (same word.text (codes "icmp")) (Ok 1) _ (λ n. IsProtocolForm word.text n) (λ _. record { byte = omega arith; version = any_form word.text 1 none }) (λ _.
    on_if (same word.text (codes "tcp")) (Ok 6) _ (λ n. IsProtocolForm word.text n) (λ _. record { byte = omega arith; version = any_form word.text 6 none }) (λ _.
    on_if (same word.text (codes "udp")) (Ok 17) _ (λ n. IsProtocolForm word.text n) (λ _. record { byte = omega arith; version = any_form word.text 17 none }) (λ _.
    on_if (same word.text (codes "ipv6-icmp")) (Ok 58) (fault_at word.column UnknownWord) (λ n. IsProtocolForm word.text n) (λ _. record { byte = omega arith; version = any_form word.text 58 none }) (λ _. tt)))))))

body_on : (end : ℕ) (words : List Word) → IfOk (body end words) IsBodyForm
unfolding body
body_on end words =
    on_bind (first end words) _ (λ _. ⊤) IsBodyForm (any_on (first end words)) (λ next _.
    on_bind (protocol next.0) _ (λ n. IsProtocolForm next.0.text n) IsBodyForm (protocol_on next.0) (λ asked small.
    on_bind (words_behind_word (codes "from") end next.1) _ (λ _. ⊤) IsBodyForm (any_on (words_behind_word (codes "from") end next.1)) (λ from_end _.
    on_bind (addr_spec end from_end) _ (λ r. IsListForm IsItemForm r.0.items) IsBodyForm (addr_spec_on end from_end) (λ source from_form.
    on_bind (source_ports end source.1) _ (λ r. ArePorts r.0) IsBodyForm (source_ports_on end source.1) (λ ports ports_form.
    on_bind (words_behind_word (codes "to") end ports.1) _ (λ _. ⊤) IsBodyForm (any_on (words_behind_word (codes "to") end ports.1)) (λ to_end _.
    on_bind (addr_spec end to_end) _ (λ r. IsListForm IsItemForm r.0.items) IsBodyForm (addr_spec_on end to_end) (λ target to_form.
    on_bind (destination_ports end target.1) _ (λ r. ArePorts r.0) IsBodyForm (destination_ports_on end target.1) (λ target_ports target_form.
    on_bind (options (length target_ports.1) end false target_ports.1) _ (λ p. IsPlacedForm p.options p.state p.state_at) IsBodyForm (options_on (length target_ports.1) end false target_ports.1) (λ placed placed_form.
    record { family = small.version; protocol = small.byte; source = from_form; source_ports = ports_form; destination = to_form; destination_ports = target_form; placed = placed_form })))))))))

found_on : (word : Word) (names : List (List ℕ)) (o : Option ℕ) → place names word.text ≡ o → IfOk (found_word word o) (λ k. k < length names)
found_on word names None e = tt
found_on word names (Some k) e = place_below names word.text k e

names_on : (word : Word) → IfOk (word_in unreach_names word) (λ n. n ≤ 255)
unfolding word_in unreach_names
names_on word = weaker (found_word word (place unreach_names word.text)) (λ k. k < length unreach_names) (λ n. n ≤ 255) (found_on word unreach_names (place unreach_names word.text) refl) (λ n small. omega (arith, small))

code_on : (word : Word) → IfOk (code word) (λ n. n ≤ 255)
unfolding code
code_on word =
    on_if (starts_with_digit word.text) (number 0 255 word) (word_in unreach_names word) (λ n. n ≤ 255) (λ _. weaker (number 0 255 word) (λ n. IsFromTo 0 255 n) (λ n. n ≤ 255) (number_on 0 255 word) (λ n small. small.most_ge)) (λ _. names_on word)

-- an action that a body follows
abbrev pub IsBodied : Action → Type 0
IsBodied Allow = ⊤
IsBodied Deny = ⊤
IsBodied Reset = ⊤
IsBodied (Unreach code) = ⊤
IsBodied Count = ⊤
IsBodied (SkipTo number) = ⊤
IsBodied (Call number) = ⊤
IsBodied Return = ⊤
IsBodied (CheckState flow) = ⊥

abbrev IsMatching : Action → Type 0
IsMatching a = IsAction a × IsBodied a

plain_action_on : (text : List ℕ) → IfSome (plain_action text) IsMatching
unfolding plain_action
plain_action_on text =
    some_if IsMatching (same text (codes "allow") || (same text (codes "accept") || (same text (codes "pass") || same text (codes "permit")))) Allow _ (tt, tt) (
    some_if IsMatching (same text (codes "deny") || same text (codes "drop")) Deny _ (tt, tt) (
    some_if IsMatching (same text (codes "reset")) Reset _ (tt, tt) (
    some_if IsMatching (same text (codes "reject")) (Unreach 1) _ (omega arith, tt) (
    some_if IsMatching (same text (codes "count")) Count _ (tt, tt) (
    some_if IsMatching (same text (codes "return")) Return None (tt, tt) tt)))))

action_by_on : (end : ℕ) (word : Word) (words : List Word) (plain : Option Action) → IfSome plain IsMatching → IfOk (action_by end word words plain) (λ r. IsMatching r.0)
action_by_on end word words (Some a) p = p
action_by_on end word words None p =
    on_if (same word.text (codes "unreach")) _ _ (λ r. IsMatching r.0)
    (λ _. on_bind (first end words) _ (λ _. ⊤) (λ r. IsMatching r.0) (any_on (first end words)) (λ next _.
    on_bind (code next.0) _ (λ n. n ≤ 255) (λ r. IsMatching r.0) (code_on next.0) (λ n small. (small, tt)))) (λ _.
    on_if (same word.text (codes "skipto")) _ _ (λ r. IsMatching r.0)
    (λ _. on_bind (first end words) _ (λ _. ⊤) (λ r. IsMatching r.0) (any_on (first end words)) (λ next _.
    on_bind (number 1 65535 next.0) _ (λ n. IsFromTo 1 65535 n) (λ r. IsMatching r.0) (number_on 1 65535 next.0) (λ n small. (small, tt)))) (λ _.
    on_if (same word.text (codes "call")) _ (fault_at word.column UnknownWord) (λ r. IsMatching r.0)
    (λ _. on_bind (first end words) _ (λ _. ⊤) (λ r. IsMatching r.0) (any_on (first end words)) (λ next _.
    on_bind (number 1 65535 next.0) _ (λ n. IsFromTo 1 65535 n) (λ r. IsMatching r.0) (number_on 1 65535 next.0) (λ n small. (small, tt))))
    (λ _. tt)))

action_on : (end : ℕ) (word : Word) (words : List Word) → IfOk (action end word words) (λ r. IsMatching r.0)
unfolding action
action_on end word words = action_by_on end word words (plain_action word.text) (plain_action_on word.text)

behind_on : (end : ℕ) (words : List Word) → IfOk (amount_behind end words) (λ r. IsValue r.0)
unfolding amount_behind
behind_on end words =
    on_bind (first end words) _ (λ _. ⊤) (λ r. IsValue r.0) (any_on (first end words)) (λ next _.
    on_bind (number 0 4294967295 next.0) _ (λ n. IsFromTo 0 4294967295 n) (λ r. IsValue r.0) (number_on 0 4294967295 next.0) (λ n small. small.most_ge))

amount_on : (end : ℕ) (words : List Word) → IfOk (amount end words) (λ r. IsValue r.0)
unfolding amount
amount_on end words =
    on_bind (first end words) _ (λ _. ⊤) (λ r. IsValue r.0) (any_on (first end words)) (λ next _.
    on_if (same next.0.text (codes "logamount")) (amount_behind end next.1) (Ok (0, words)) (λ r. IsValue r.0) (λ _. behind_on end next.1) (λ _. omega arith))

log_on : (end : ℕ) (words : List Word) → IfOk (log end words) (λ r. IfSome r.0 IsValue)
unfolding log
log_on end words =
    on_bind (first end words) _ (λ _. ⊤) (λ r. IfSome r.0 IsValue) (any_on (first end words)) (λ next _.
    on_if (same next.0.text (codes "log")) _ (Ok (None, words)) (λ r. IfSome r.0 IsValue)
    (λ _. on_bind (amount end next.1) _ (λ r. IsValue r.0) (λ r. IfSome r.0 IsValue) (amount_on end next.1) (λ n small. small)) (λ _. tt))

has_form : (a : Action) (logged : Option ℕ) (asked : Body) → IsBodied a → HasBehind logged (Some asked) → HasForm a logged (Some asked)
has_form Allow logged asked bodied behind = behind
has_form Deny logged asked bodied behind = behind
has_form Reset logged asked bodied behind = behind
has_form (Unreach n) logged asked bodied behind = behind
has_form Count logged asked bodied behind = behind
has_form (SkipTo n) logged asked bodied behind = behind
has_form (Call n) logged asked bodied behind = behind
has_form Return logged asked bodied behind = behind
has_form (CheckState flow) logged asked bodied behind = absurd bodied

abbrev IsSomeNumber : Option ℕ → Type 0
IsSomeNumber found = IfSome found (λ n. n ≤ 65535)

matching_on : (numbered : Option ℕ) (in_set end : ℕ) (word : Word) (words : List Word) → IsSomeNumber numbered → in_set ≤ 31 → IfOk (matching_rule numbered in_set end word words) IsDraftForm
unfolding matching_rule
matching_on numbered in_set end word words number_form set_form =
    on_bind (action end word words) _ (λ r. IsMatching r.0) IsDraftForm (action_on end word words) (λ made made_form.
    on_bind (log end made.1) _ (λ r. IfSome r.0 IsValue) IsDraftForm (log_on end made.1) (λ logged value.
    on_bind (body end logged.1) _ IsBodyForm IsDraftForm (body_on end logged.1) (λ asked form.
    record { number = number_form; set = set_form; action = made_form.0; rest = has_form made.0 logged.0 asked made_form.1 (record { amount = value; asked = form }) })))

looked_up_on : (words : List Word) → IfOk (looked_up_flow words) (λ r. IfSome r.0 IsFlowForm)
unfolding looked_up_flow
looked_up_on [] = default_form
looked_up_on (word ∷ words) =
    on_if (starts_with_colon word.text) _ (Ok (Some default_flow, word ∷ words)) (λ r. IfSome r.0 IsFlowForm)
    (λ _. on_if (is_any_flow word.text) (Ok (None, words)) _ (λ r. IfSome r.0 IsFlowForm) (λ _. tt)
    (λ other. on_bind (named_flow word) (λ name. Ok (Some name, words)) IsFlowForm (λ r. IfSome r.0 IsFlowForm) (flow_on word other) (λ name form. form)))
    (λ _. default_form)

-- the name of a flow isn't `any`
flow_named : (flow : Option (List ℕ)) → IfSome flow IsFlowForm → IfSome flow IsFlowName
flow_named None form = tt
flow_named (Some name) form = form.one

check_end_on : (numbered : Option ℕ) (in_set : ℕ) (flow : Option (List ℕ)) (words : List Word) → IsSomeNumber numbered → in_set ≤ 31 → IfSome flow IsFlowForm → IfOk (check_end numbered in_set flow words) IsDraftForm
unfolding check_end
check_end_on numbered in_set flow [] number_form set_form flow_form = record { number = number_form; set = set_form; action = flow_named flow flow_form; rest = (flow_form, tt, tt) }
check_end_on numbered in_set flow (word ∷ words) number_form set_form flow_form = tt

check_on : (numbered : Option ℕ) (in_set : ℕ) (words : List Word) → IsSomeNumber numbered → in_set ≤ 31 → IfOk (check_state numbered in_set words) IsDraftForm
unfolding check_state
check_on numbered in_set words number_form set_form =
    on_bind (looked_up_flow words) _ (λ r. IfSome r.0 IsFlowForm) IsDraftForm (looked_up_on words) (λ flow form. check_end_on numbered in_set flow.0 flow.1 number_form set_form form)

rule_number_on : (end : ℕ) (words : List Word) → IfOk (rule_number end words) (λ r. IsSomeNumber r.0)
unfolding rule_number
rule_number_on end words =
    on_bind (first end words) _ (λ _. ⊤) (λ r. IsSomeNumber r.0) (any_on (first end words)) (λ next _.
    on_if (starts_with_digit next.0.text) _ (Ok (None, words)) (λ r. IsSomeNumber r.0)
    (λ _. on_bind (number 0 65535 next.0) _ (λ n. IsFromTo 0 65535 n) (λ r. IsSomeNumber r.0) (number_on 0 65535 next.0) (λ n small. small.most_ge)) (λ _. tt))

set_behind_on : (end : ℕ) (words : List Word) → IfOk (set_behind end words) (λ r. r.0 ≤ 31)
unfolding set_behind
set_behind_on end words =
    on_bind (first end words) _ (λ _. ⊤) (λ r. r.0 ≤ 31) (any_on (first end words)) (λ which _.
    on_bind (set_number which.0) _ (λ n. n ≤ 31) (λ r. r.0 ≤ 31) (set_on which.0) (λ n small. small))

rule_set_on : (end : ℕ) (words : List Word) → IfOk (rule_set end words) (λ r. r.0 ≤ 31)
unfolding rule_set
rule_set_on end words =
    on_bind (first end words) _ (λ _. ⊤) (λ r. r.0 ≤ 31) (any_on (first end words)) (λ next _.
    on_if (same next.0.text (codes "set")) (set_behind end next.1) (Ok (0, words)) (λ r. r.0 ≤ 31) (λ _. set_behind_on end next.1) (λ _. omega arith))

rule_on : (end : ℕ) (words : List Word) → IfOk (rule end words) IsDraftForm
unfolding rule
rule_on end words =
    on_bind (rule_number end words) _ (λ r. IsSomeNumber r.0) IsDraftForm (rule_number_on end words) (λ numbered number_form.
    on_bind (rule_set end numbered.1) _ (λ r. r.0 ≤ 31) IsDraftForm (rule_set_on end numbered.1) (λ in_set set_form.
    on_bind (first end in_set.1) _ (λ _. ⊤) IsDraftForm (any_on (first end in_set.1)) (λ next _.
    on_if (same next.0.text (codes "check-state")) (check_state numbered.0 in_set.0 next.1) (matching_rule numbered.0 in_set.0 end next.0 next.1) IsDraftForm
    (λ _. check_on numbered.0 in_set.0 next.1 number_form set_form) (λ _. matching_on numbered.0 in_set.0 end next.0 next.1 number_form set_form))))

-- what the grammar yields is in its form
pub rule_in_on : (line : List ℕ) (tokens : List Token) (skipped : ℕ) → IfOk (rule_in line tokens skipped) IsDraftForm
unfolding rule_in
rule_in_on line tokens skipped = rule_on (end_column (length (before_comment line)) tokens) (drop skipped (map (word_at line) tokens))
