-- The canonical text of a rule (ipfw(8), "RULE FORMAT"): words with one space between them.
use Rattle.std.specs.Prelude.{ℕ, ◌+◌, ◌-◌, Bool, ◌==◌, if◌then◌else◌, Option, Some, None, unwrap_or, List, [], ◌∷◌, ◌++◌, length, take, drop, map, replicate, slice_get, codes, nat_eq, zero, suc}
use Rattle.std.specs.List.{join_with_byte, flat_map}
use Rattle.std.specs.Fmt.{decimal}
use Rattle.std.specs.Cmp.Lexicographic.{pointwise}
use Rattle.fw_base.specs.Addr.{address_text}
use Rattle.fw_base.specs.Prefix.{Network}
use Rattle.fw_base.specs.PortRange.{Ports}
use Rattle.fw_rule.specs.Bits.{has_bit}
use Rattle.fw_rule.specs.FlowName.{default_flow}
use Rattle.fw_rule.specs.Names.{unreach_names, flag_names, option_names}
use Rattle.fw_rule.specs.TypeSet.{has_type}
use Rattle.fw_rule.specs.declared.action.Action.{Action}
use Rattle.fw_rule.specs.declared.action.Action.TheVariants.{Allow, Deny, Reset, Unreach, Count, SkipTo, Call, Return, CheckState}
use Rattle.fw_rule.specs.declared.addr_item.AddrItem.{AddrItem}
use Rattle.fw_rule.specs.declared.addr_item.AddrItem.TheVariants.{Any, Me, Net, Net6, InTable, TableValue}
use Rattle.fw_rule.specs.declared.addr_spec.AddrSpec.{AddrSpec}
use Rattle.fw_rule.specs.declared.port_list.PortList.{PortList}
use Rattle.fw_rule.specs.declared.iface.Iface.{Iface}
use Rattle.fw_rule.specs.declared.iface.Iface.TheVariants.{AnyIface, Exact, Begins}
use Rattle.fw_rule.specs.declared.test.Field.{Field}
use Rattle.fw_rule.specs.declared.test.Field.TheVariants.{SrcIp, DstIp, SrcPort as SrcPortField, DstPort as DstPortField}
use Rattle.fw_rule.specs.declared.test.Test.{Test}
use Rattle.fw_rule.specs.declared.test.Test.TheVariants.{Inward, Outward, Established, Setup, Frag, Recv, Xmit, Via, TcpFlags, IcmpTypes, Icmp6Types, IpOptions, Lookup}
use Rattle.fw_rule.specs.declared.opt.Opt.{Opt}
use Rattle.fw_rule.specs.declared.body.Family.{Family}
use Rattle.fw_rule.specs.declared.body.Family.TheVariants.{AnyIp, Four, Six}
use Rattle.fw_rule.specs.declared.state_opt.LimitMask.{LimitMask}
use Rattle.fw_rule.specs.declared.state_opt.LimitMask.TheVariants.{SrcAddr, SrcPort, DstAddr, DstPort}
use Rattle.fw_rule.specs.declared.state_opt.StateOpt.{StateOpt}
use Rattle.fw_rule.specs.declared.state_opt.StateOpt.TheVariants.{Keep, Limit}
use Rattle.fw_rule.specs.declared.body.Body.{Body}
use Rattle.fw_rule.specs.declared.rule.Rule.{Rule}
use Rattle.rule_text.specs.Address6Text.{network6_text}

-- a text as a list of words
abbrev pub WordTexts : Type 0
WordTexts = List (List ℕ)

-- a list of one word
abbrev pub one_word : List ℕ → WordTexts
one_word word = word ∷ []

-- each word behind a space
abbrev pub spaced_text : WordTexts → List ℕ
spaced_text words = flat_map (λ word. 32 ∷ word) words

-- a number as five digits with leading zeros
unfoldable pub five_digits : ℕ → List ℕ
five_digits n = replicate (5 - length (decimal n)) 48 ++ decimal n

-- a code of `unreach` by its name where it has one, else as a number
unfoldable pub code_word : ℕ → List ℕ
code_word code = unwrap_or (slice_get unreach_names code) (decimal code)

-- the name of a flow behind a colon, but for `default`
abbrev pub flow_words : List ℕ → WordTexts
flow_words name = if pointwise nat_eq name default_flow then [] else (58 ∷ name) ∷ []

-- the flows that a `check-state` looks up: those of one name, or all
abbrev pub looked_up_words : Option (List ℕ) → WordTexts
looked_up_words None = codes ":any" ∷ []
looked_up_words (Some name) = flow_words name

-- a rule that only looks states up
abbrev pub check_state_words : Option (List ℕ) → WordTexts
check_state_words name = codes "check-state" ∷ looked_up_words name

-- the action with what it names
abbrev pub action_words : Action → WordTexts
action_words Allow = codes "allow" ∷ []
action_words Deny = codes "deny" ∷ []
action_words Reset = codes "reset" ∷ []
action_words (Unreach code) = codes "unreach" ∷ code_word code ∷ []
action_words Count = codes "count" ∷ []
action_words (SkipTo number) = codes "skipto" ∷ decimal number ∷ []
action_words (Call number) = codes "call" ∷ decimal number ∷ []
action_words Return = codes "return" ∷ []
action_words (CheckState name) = check_state_words name

-- `log`, and its amount where it isn't 0
abbrev pub amount_words : ℕ → WordTexts
amount_words amount = if amount == 0 then codes "log" ∷ [] else codes "log" ∷ codes "logamount" ∷ decimal amount ∷ []

-- `log` with its amount, where the rule logs
abbrev pub log_words : Option ℕ → WordTexts
log_words None = []
log_words (Some amount) = amount_words amount

-- the set where it isn't 0
abbrev pub set_words : ℕ → WordTexts
set_words set = if set == 0 then [] else codes "set" ∷ decimal set ∷ []

-- the protocols 0, 1, 6 and 17 by name, the others by number
unfoldable pub protocol_word : ℕ → List ℕ
protocol_word number =
    if number == 0 then codes "ip"
    else if number == 1 then codes "icmp"
    else if number == 6 then codes "tcp"
    else if number == 17 then codes "udp"
    else decimal number

-- a version of IP stands in the protocol's place
abbrev pub family_word : Family → ℕ → List ℕ
family_word AnyIp protocol = protocol_word protocol
family_word Four protocol = codes "ip4"
family_word Six protocol = codes "ip6"

-- a prefix of 32 without its length
unfoldable pub network_text : Network → List ℕ
network_text n = address_text n.address ++ (if n.bits == 32 then [] else 47 ∷ decimal n.bits)

-- an element of an address list
abbrev pub item_text : AddrItem → List ℕ
item_text Any = codes "any"
item_text Me = codes "me"
item_text (Net network) = network_text network
item_text (Net6 network) = network6_text network
item_text (InTable name) = codes "table(" ++ (name ++ codes ")")
item_text (TableValue name value) = codes "table(" ++ (name ++ (codes "," ++ (decimal value ++ codes ")")))

-- `not` where the item is negated
abbrev pub negation_words : Bool → WordTexts
negation_words negated = if negated then codes "not" ∷ [] else []

-- a list is one word, its elements with commas between them, behind `not` where it is negated
abbrev pub list_words : Bool → WordTexts → WordTexts
list_words negated elements = negation_words negated ++ join_with_byte 44 elements ∷ []

-- an address list
abbrev pub addr_words : AddrSpec → WordTexts
addr_words spec = list_words spec.negated (map item_text spec.items)

-- a range of one port as that port
unfoldable pub range_text : Ports → List ℕ
range_text r = decimal r.low ++ (if r.low == r.high then [] else 45 ∷ decimal r.high)

-- a port list, where there is one
abbrev pub port_words : Option PortList → WordTexts
port_words None = []
port_words (Some ports) = list_words ports.negated (map range_text ports.ranges)

-- how a name is signed: not at all where the one mask has its bit, with ! where the other has it
abbrev pub sign_of : Bool → Bool → Option (List ℕ)
sign_of set clear = if set then Some [] else if clear then Some (codes "!") else None

-- a name behind its sign, where it has one
abbrev pub signed_name : Option (List ℕ) → List ℕ → WordTexts
signed_name None name = []
signed_name (Some sign) name = (sign ++ name) ∷ []

-- the names of the bits of two masks, from bit k on, each with its sign
unfoldable pub signed_names : WordTexts → ℕ → ℕ → ℕ → WordTexts
signed_names [] k set clear = []
signed_names (name ∷ names) k set clear = signed_name (sign_of (has_bit set k) (has_bit clear k)) name ++ signed_names names (k + 1) set clear

-- those of the n numbers from k on of which the test holds
unfoldable pub numbers_where : (ℕ → Bool) → ℕ → ℕ → WordTexts
numbers_where test zero k = []
numbers_where test (suc n) k = (if test k then decimal k ∷ [] else []) ++ numbers_where test n (k + 1)

-- an interface, a start of one with `*`, or `any`
abbrev pub iface_text : Iface → List ℕ
iface_text AnyIface = codes "any"
iface_text (Exact name) = name
iface_text (Begins name) = name ++ codes "*"

-- the field that a table is asked for
abbrev pub field_word : Field → List ℕ
field_word SrcIp = codes "src-ip"
field_word DstIp = codes "dst-ip"
field_word SrcPortField = codes "src-port"
field_word DstPortField = codes "dst-port"

-- an option without its `not`
abbrev pub test_words : Test → WordTexts
test_words Inward = codes "in" ∷ []
test_words Outward = codes "out" ∷ []
test_words Established = codes "established" ∷ []
test_words Setup = codes "setup" ∷ []
test_words Frag = codes "frag" ∷ []
test_words (Recv iface) = codes "recv" ∷ iface_text iface ∷ []
test_words (Xmit iface) = codes "xmit" ∷ iface_text iface ∷ []
test_words (Via iface) = codes "via" ∷ iface_text iface ∷ []
test_words (TcpFlags set clear) = codes "tcpflags" ∷ join_with_byte 44 (signed_names flag_names 0 set clear) ∷ []
test_words (IcmpTypes types) = codes "icmptypes" ∷ join_with_byte 44 (numbers_where (has_bit types) 32 0) ∷ []
test_words (Icmp6Types types) = codes "icmp6types" ∷ join_with_byte 44 (numbers_where (has_type types) 256 0) ∷ []
test_words (IpOptions present absent) = codes "ipoptions" ∷ join_with_byte 44 (signed_names option_names 0 present absent) ∷ []
test_words (Lookup field table) = codes "lookup" ∷ field_word field ∷ table ∷ []

-- an option
abbrev pub option_words : Opt → WordTexts
option_words option = negation_words option.negated ++ test_words option.test

-- what a limit counts by
abbrev pub mask_word : LimitMask → List ℕ
mask_word SrcAddr = codes "src-addr"
mask_word SrcPort = codes "src-port"
mask_word DstAddr = codes "dst-addr"
mask_word DstPort = codes "dst-port"

-- at most so many states that agree in the masked part
abbrev pub limit_words : LimitMask → ℕ → WordTexts
limit_words mask most = codes "limit" ∷ mask_word mask ∷ decimal most ∷ []

-- how states are made, and the name of their flow
abbrev pub state_option_words : StateOpt → WordTexts
state_option_words (Keep name) = codes "keep-state" ∷ flow_words name
state_option_words (Limit mask most name) = limit_words mask most ++ flow_words name

-- the state option, where there is one
abbrev pub state_words : Option StateOpt → WordTexts
state_words None = []
state_words (Some state) = state_option_words state

-- the options in their order, with the state in its place among them
abbrev pub placed_words : List Opt → Option StateOpt → ℕ → WordTexts
placed_words options state at = flat_map option_words (take at options) ++ (state_words state ++ flat_map option_words (drop at options))

-- all options of a body
abbrev pub options_words : Body → WordTexts
options_words body = placed_words body.options body.state body.state_at

-- a body, from its protocol to its last option
abbrev pub body_words : Body → WordTexts
body_words body =
    family_word body.family body.protocol
    ∷ codes "from" ∷ (addr_words body.source ++ (port_words body.source_ports
    ++ (codes "to" ∷ (addr_words body.destination ++ (port_words body.destination_ports ++ options_words body)))))

-- a body, where the rule has one
abbrev pub optional_body : Option Body → WordTexts
optional_body None = []
optional_body (Some body) = body_words body

-- what stands behind the number
abbrev pub rest_words : Rule → WordTexts
rest_words rule = set_words rule.set ++ (action_words rule.action ++ (log_words rule.log ++ optional_body rule.body))

-- a rule, its number in five digits first
abbrev pub rule_words : Rule → WordTexts
rule_words rule = five_digits rule.number ∷ rest_words rule

-- the canonical text
unfoldable pub rule_text : Rule → List ℕ
rule_text rule = join_with_byte 32 (rule_words rule)

-- the canonical text without the number
unfoldable pub rest_text : Rule → List ℕ
rest_text rule = spaced_text (rest_words rule)
