-- No word of a rule ends a line, where its names have the bytes of names.
use Rattle.std.proofs.Common.{◌≡◌, ℕ, zero, suc, ◌+◌, ◌/◌, ◌%◌, ◌==◌, cond, nat_eq, Bool, true, false, Option, Some, None, List, [], ◌∷◌, ◌++◌, map, take, drop, codes, refl}
use Rattle.std.specs.Cmp.Lexicographic.{pointwise}
use Rattle.std.specs.Fmt.{decimal, digit_glyph, digits, digits_onto}
use Rattle.std.specs.List.{flat_map, join_with_byte, AllByRecursion}
use Rattle.std.specs.Prelude.{if◌then◌else◌, nat_lt}
use Rattle.fw_base.specs.Addr.{address_text}
use Rattle.fw_base.specs.PortRange.{Ports}
use Rattle.fw_base.specs.Prefix6.{Network6}
use Rattle.fw_base.specs.Prefix.{Network}
use Rattle.report_texts.proofs.SilentWords.{code_is_silent, glyph_is_silent, number_is_silent}
use Rattle.report_texts.specs.Lines.{lines_in}
use Rattle.fw_rule.specs.Bits.{has_bit}
use Rattle.fw_rule.specs.FlowName.{default_flow}
use Rattle.fw_rule.specs.Names.{flag_names, option_names}
use Rattle.fw_rule.specs.TypeSet.{has_type}
use Rattle.fw_rule.specs.declared.action.Action.{Action}
use Rattle.fw_rule.specs.declared.action.Action.TheVariants.{Allow, Deny, Reset, Unreach, Count, SkipTo, Call, Return, CheckState}
use Rattle.fw_rule.specs.declared.addr_item.AddrItem.{AddrItem}
use Rattle.fw_rule.specs.declared.addr_item.AddrItem.TheVariants.{Any, Me, Net, Net6, InTable, TableValue}
use Rattle.fw_rule.specs.declared.body.Body.{Body}
use Rattle.fw_rule.specs.declared.body.Family.{Family}
use Rattle.fw_rule.specs.declared.body.Family.TheVariants.{AnyIp, Four, Six}
use Rattle.fw_rule.specs.declared.iface.Iface.{Iface}
use Rattle.fw_rule.specs.declared.iface.Iface.TheVariants.{AnyIface, Exact, Begins}
use Rattle.fw_rule.specs.declared.opt.Opt.{Opt}
use Rattle.fw_rule.specs.declared.port_list.PortList.{PortList}
use Rattle.fw_rule.specs.declared.rule.Rule.{Rule}
use Rattle.fw_rule.specs.declared.state_opt.LimitMask.{LimitMask}
use Rattle.fw_rule.specs.declared.state_opt.LimitMask.TheVariants.{SrcAddr, SrcPort, DstAddr, DstPort}
use Rattle.fw_rule.specs.declared.state_opt.StateOpt.{StateOpt}
use Rattle.fw_rule.specs.declared.state_opt.StateOpt.TheVariants.{Keep, Limit}
use Rattle.fw_rule.specs.declared.test.Field.{Field}
use Rattle.fw_rule.specs.declared.test.Field.TheVariants.{SrcIp, DstIp, SrcPort as SrcPortField, DstPort as DstPortField}
use Rattle.fw_rule.specs.declared.test.Test.{Test}
use Rattle.fw_rule.specs.declared.test.Test.TheVariants.{Inward, Outward, Established, Setup, Frag, Recv, Xmit, Via, TcpFlags, IcmpTypes, Icmp6Types, IpOptions, Lookup}
use Rattle.rule_text.specs.Address6Text.{address6_text, groups_joined, groups_of, groups_text, hexadecimal, longest_run, network6_text, place_of_run}
use Rattle.rule_text.specs.Canonical.{WordTexts, action_words, family_word, field_word, flow_words, iface_text, item_text, list_words, log_words, looked_up_words, mask_word, negation_words, network_text, numbers_where, option_words, optional_body, placed_words, port_words, range_text, rest_text, rest_words, set_words, sign_of, signed_name, signed_names, state_words, test_words}
use Rattle.run_audit.proofs.SilentParts.{address_is_silent, byte_before, name_is_silent, protocol_is_silent, spaced_is_silent}
use Rattle.run_audit.proofs.ToldTexts.{silent_both}
use Rattle.audit_laws.proofs.Lists.{both, all_behind}
use Rattle.audit_laws.specs.RuleNames.{HasNameBytes, names_in_action, names_in_body, names_in_iface, names_in_item, names_in_rule, names_in_state, names_in_test, optional_name}
use Rattle.rule_round_trip.proofs.Lists.Each.{all_take}

-- a text ends no line
abbrev IsSilent : List ℕ → Type 0
IsSilent text = lines_in text ≡ 0

-- none of these ends one
abbrev AreSilent : WordTexts → Type 0
AreSilent words = AllByRecursion IsSilent words

-- ---- lists of words

first_of_both : {X : Type 0} (P : X → Type 0) (xs ys : List X) → AllByRecursion P (xs ++ ys) → AllByRecursion P xs
first_of_both P [] ys all = tt
first_of_both P (x ∷ xs) ys all = (all.0, first_of_both P xs ys all.1)

second_of_both : {X : Type 0} (P : X → Type 0) (xs ys : List X) → AllByRecursion P (xs ++ ys) → AllByRecursion P ys
second_of_both P [] ys all = all
second_of_both P (x ∷ xs) ys all = second_of_both P xs ys all.1

-- the words of each are silent where their names are such
each_silent : {X : Type 0} (words : X → WordTexts) (xs : List X) → AllByRecursion (λ x. AreSilent (words x)) xs → AreSilent (flat_map words xs)
each_silent words [] all = tt
each_silent words (x ∷ xs) all = both IsSilent (words x) (flat_map words xs) all.0 (each_silent words xs all.1)

each_named : {X : Type 0} (names : X → List (List ℕ)) (xs : List X) → AllByRecursion HasNameBytes (flat_map names xs) → AllByRecursion (λ x. AllByRecursion HasNameBytes (names x)) xs
each_named names [] all = tt
each_named names (x ∷ xs) all =
    (first_of_both HasNameBytes (names x) (flat_map names xs) all, each_named names xs (second_of_both HasNameBytes (names x) (flat_map names xs) all))

-- what follows of each
each_then : {X : Type 0} (P Q : X → Type 0) (xs : List X) → ((x : X) → P x → Q x) → AllByRecursion P xs → AllByRecursion Q xs
each_then P Q [] follows all = tt
each_then P Q (x ∷ xs) follows all = (follows x all.0, each_then P Q xs follows all.1)

always : {X : Type 0} (P : X → Type 0) (xs : List X) → ((x : X) → P x) → AllByRecursion P xs
always P [] each = tt
always P (x ∷ xs) each = (each x, always P xs each)

images : {X : Type 0} (f : X → List ℕ) (xs : List X) → AllByRecursion (λ x. IsSilent (f x)) xs → AreSilent (map f xs)
images f [] all = tt
images f (x ∷ xs) all = (all.0, images f xs all.1)

no_text : lines_in [] ≡ 0
unfolding lines_in
no_text = refl

joined_is_silent : (byte : ℕ) (pieces : WordTexts) → (byte == 10) ≡ false → AreSilent pieces → IsSilent (join_with_byte byte pieces)
joined_is_silent byte [] other all = no_text
joined_is_silent byte (piece ∷ []) other all = all.0
joined_is_silent byte (piece ∷ next ∷ pieces) other all =
    silent_both piece (byte ∷ join_with_byte byte (next ∷ pieces)) all.0 (byte_before byte (join_with_byte byte (next ∷ pieces)) other (joined_is_silent byte (next ∷ pieces) other all.1))

one_of : {X : Type 0} (P : X → Type 0) (b : Bool) (this other : X) → P this → P other → P (if b then this else other)
one_of P true this other here more = here
one_of P false this other here more = more

-- ---- words

-- the fixed words of a rule
record FixedWords : Type 0 where
  allow : lines_in (codes "allow") ≡ 0
  deny : lines_in (codes "deny") ≡ 0
  reset : lines_in (codes "reset") ≡ 0
  unreach : lines_in (codes "unreach") ≡ 0
  count : lines_in (codes "count") ≡ 0
  skipto : lines_in (codes "skipto") ≡ 0
  call : lines_in (codes "call") ≡ 0
  return_to : lines_in (codes "return") ≡ 0
  check : lines_in (codes "check-state") ≡ 0
  every : lines_in (codes ":any") ≡ 0
  log : lines_in (codes "log") ≡ 0
  amount : lines_in (codes "logamount") ≡ 0
  set : lines_in (codes "set") ≡ 0
  four : lines_in (codes "ip4") ≡ 0
  six : lines_in (codes "ip6") ≡ 0
  any : lines_in (codes "any") ≡ 0
  me : lines_in (codes "me") ≡ 0
  table : lines_in (codes "table(") ≡ 0
  closed : lines_in (codes ")") ≡ 0
  comma : lines_in (codes ",") ≡ 0
  negation : lines_in (codes "not") ≡ 0
  star : lines_in (codes "*") ≡ 0
  mark : lines_in (codes "!") ≡ 0
  colons : lines_in (codes "::") ≡ 0
  source : lines_in (codes "from") ≡ 0
  target : lines_in (codes "to") ≡ 0
  keep : lines_in (codes "keep-state") ≡ 0
  limit : lines_in (codes "limit") ≡ 0

fixed : FixedWords
unfolding lines_in
fixed = record {
  allow = refl;
  deny = refl;
  reset = refl;
  unreach = refl;
  count = refl;
  skipto = refl;
  call = refl;
  return_to = refl;
  check = refl;
  every = refl;
  log = refl;
  amount = refl;
  set = refl;
  four = refl;
  six = refl;
  any = refl;
  me = refl;
  table = refl;
  closed = refl;
  comma = refl;
  negation = refl;
  star = refl;
  mark = refl;
  colons = refl;
  source = refl;
  target = refl;
  keep = refl;
  limit = refl;
}

set_silent : (set : ℕ) → AreSilent (set_words set)
set_silent set = one_of AreSilent (set == 0) [] (codes "set" ∷ decimal set ∷ []) tt (fixed.set, (number_is_silent set, tt))

flow_silent : (name : List ℕ) → HasNameBytes name → AreSilent (flow_words name)
flow_silent name named = one_of AreSilent (pointwise nat_eq name default_flow) [] ((58 ∷ name) ∷ []) tt (byte_before 58 name refl (name_is_silent name named), tt)

looked_up_silent : (name : Option (List ℕ)) → AllByRecursion HasNameBytes (optional_name name) → AreSilent (looked_up_words name)
looked_up_silent None named = (fixed.every, tt)
looked_up_silent (Some name) named = flow_silent name named.0

action_silent : (action : Action) → AllByRecursion HasNameBytes (names_in_action action) → AreSilent (action_words action)
action_silent Allow named = (fixed.allow, tt)
action_silent Deny named = (fixed.deny, tt)
action_silent Reset named = (fixed.reset, tt)
action_silent (Unreach code) named = (fixed.unreach, (code_is_silent code, tt))
action_silent Count named = (fixed.count, tt)
action_silent (SkipTo number) named = (fixed.skipto, (number_is_silent number, tt))
action_silent (Call number) named = (fixed.call, (number_is_silent number, tt))
action_silent Return named = (fixed.return_to, tt)
action_silent (CheckState name) named = (fixed.check, looked_up_silent name named)

log_silent : (log : Option ℕ) → AreSilent (log_words log)
log_silent None = tt
log_silent (Some amount) =
    one_of AreSilent (amount == 0) (codes "log" ∷ []) (codes "log" ∷ codes "logamount" ∷ decimal amount ∷ []) (fixed.log, tt) (fixed.log, (fixed.amount, (number_is_silent amount, tt)))

-- ---- addresses of IPv6

hex_onto : (k n : ℕ) (acc : List ℕ) → IsSilent acc → IsSilent (digits_onto k 16 false n acc)
unfolding lines_in
hex_onto zero n acc silent = silent
hex_onto (suc k) n acc silent =
    let first : IsSilent (digit_glyph false (n % 16) ∷ acc) = rw (glyph_is_silent (n % 16)) silent in
    elim (nat_eq (n / 16) 0) as (λ b. lines_in (cond b (digit_glyph false (n % 16) ∷ acc) (digits_onto k 16 false (n / 16) (digit_glyph false (n % 16) ∷ acc))) ≡ 0) [
      | true ↦ first
      | false ↦ hex_onto k (n / 16) (digit_glyph false (n % 16) ∷ acc) first
    ]

hex_silent : (n : ℕ) → IsSilent (hexadecimal n)
unfolding digits
hex_silent n = hex_onto 64 n [] no_text

groups_silent : (groups : List ℕ) → IsSilent (groups_joined groups)
groups_silent groups = joined_is_silent 58 (map hexadecimal groups) refl (images hexadecimal groups (always (λ n. IsSilent (hexadecimal n)) groups hex_silent))

address6_silent : (address : ℕ) → IsSilent (address6_text address)
unfolding address6_text groups_text
address6_silent address =
    let groups : List ℕ = groups_of address in
    let place : ℕ = place_of_run (longest_run groups) groups in
    one_of IsSilent (nat_lt (longest_run groups) 2) (groups_joined groups) _ (groups_silent groups)
    (silent_both (groups_joined (take place groups)) _ (groups_silent (take place groups))
    (silent_both (codes "::") _ fixed.colons (groups_silent (drop (place + longest_run groups) groups))))

slash_silent : (b : Bool) (bits : ℕ) → IsSilent (if b then [] else 47 ∷ decimal bits)
slash_silent b bits = one_of IsSilent b [] (47 ∷ decimal bits) no_text (byte_before 47 (decimal bits) refl (number_is_silent bits))

network_silent : (network : Network) → IsSilent (network_text network)
unfolding network_text
network_silent network = silent_both (address_text network.address) _ (address_is_silent network.address) (slash_silent (network.bits == 32) network.bits)

network6_silent : (network : Network6) → IsSilent (network6_text network)
unfolding network6_text
network6_silent network = silent_both (address6_text network.address) _ (address6_silent network.address) (slash_silent (network.bits == 128) network.bits)

-- ---- the body

item_silent : (item : AddrItem) → AllByRecursion HasNameBytes (names_in_item item) → IsSilent (item_text item)
item_silent Any named = fixed.any
item_silent Me named = fixed.me
item_silent (Net network) named = network_silent network
item_silent (Net6 network) named = network6_silent network
item_silent (InTable name) named = silent_both (codes "table(") _ fixed.table (silent_both name _ (name_is_silent name named.0) fixed.closed)
item_silent (TableValue name value) named =
    silent_both (codes "table(") _ fixed.table (silent_both name _ (name_is_silent name named.0)
    (silent_both (codes ",") _ fixed.comma (silent_both (decimal value) _ (number_is_silent value) fixed.closed)))

negation_silent : (negated : Bool) → AreSilent (negation_words negated)
negation_silent true = (fixed.negation, tt)
negation_silent false = tt

list_silent : (negated : Bool) (elements : WordTexts) → AreSilent elements → AreSilent (list_words negated elements)
list_silent negated elements all = both IsSilent (negation_words negated) (join_with_byte 44 elements ∷ []) (negation_silent negated) (joined_is_silent 44 elements refl all, tt)

items_silent : (items : List AddrItem) → AllByRecursion HasNameBytes (flat_map names_in_item items) → AreSilent (map item_text items)
items_silent items named = images item_text items (each_then (λ item. AllByRecursion HasNameBytes (names_in_item item)) (λ item. IsSilent (item_text item)) items item_silent (each_named names_in_item items named))

range_silent : (range : Ports) → IsSilent (range_text range)
unfolding range_text
range_silent range =
    silent_both (decimal range.low) _ (number_is_silent range.low)
    (one_of IsSilent (range.low == range.high) [] (45 ∷ decimal range.high) no_text (byte_before 45 (decimal range.high) refl (number_is_silent range.high)))

ports_silent : (ports : Option PortList) → AreSilent (port_words ports)
ports_silent None = tt
ports_silent (Some ports) = list_silent ports.negated (map range_text ports.ranges) (images range_text ports.ranges (always (λ range. IsSilent (range_text range)) ports.ranges range_silent))

signed_silent : (set clear : Bool) (name : List ℕ) → IsSilent name → AreSilent (signed_name (sign_of set clear) name)
signed_silent true clear name silent = (silent, tt)
signed_silent false true name silent = (silent_both (codes "!") name fixed.mark silent, tt)
signed_silent false false name silent = tt

all_signed_silent : (names : WordTexts) (k set clear : ℕ) → AreSilent names → AreSilent (signed_names names k set clear)
unfolding signed_names
all_signed_silent [] k set clear all = tt
all_signed_silent (name ∷ names) k set clear all =
    both IsSilent (signed_name (sign_of (has_bit set k) (has_bit clear k)) name) (signed_names names (k + 1) set clear)
    (signed_silent (has_bit set k) (has_bit clear k) name all.0) (all_signed_silent names (k + 1) set clear all.1)

numbers_silent : (test : ℕ → Bool) (n k : ℕ) → AreSilent (numbers_where test n k)
unfolding numbers_where
numbers_silent test zero k = tt
numbers_silent test (suc n) k =
    both IsSilent (if test k then decimal k ∷ [] else []) (numbers_where test n (k + 1)) (one_of AreSilent (test k) (decimal k ∷ []) [] (number_is_silent k, tt) tt) (numbers_silent test n (k + 1))

flags_are_silent : AreSilent flag_names
unfolding flag_names lines_in
flags_are_silent = (refl, (refl, (refl, (refl, (refl, (refl, tt))))))

options_are_silent : AreSilent option_names
unfolding option_names lines_in
options_are_silent = (refl, (refl, (refl, (refl, tt))))

iface_silent : (iface : Iface) → AllByRecursion HasNameBytes (names_in_iface iface) → IsSilent (iface_text iface)
iface_silent AnyIface named = fixed.any
iface_silent (Exact name) named = name_is_silent name named.0
iface_silent (Begins name) named = silent_both name (codes "*") (name_is_silent name named.0) fixed.star

field_silent : (field : Field) → IsSilent (field_word field)
unfolding lines_in
field_silent SrcIp = refl
field_silent DstIp = refl
field_silent SrcPortField = refl
field_silent DstPortField = refl

-- the words of options
record OptionWords : Type 0 where
  inward : lines_in (codes "in") ≡ 0
  outward : lines_in (codes "out") ≡ 0
  established : lines_in (codes "established") ≡ 0
  setup : lines_in (codes "setup") ≡ 0
  frag : lines_in (codes "frag") ≡ 0
  recv : lines_in (codes "recv") ≡ 0
  xmit : lines_in (codes "xmit") ≡ 0
  via : lines_in (codes "via") ≡ 0
  flags : lines_in (codes "tcpflags") ≡ 0
  types : lines_in (codes "icmptypes") ≡ 0
  types6 : lines_in (codes "icmp6types") ≡ 0
  ip : lines_in (codes "ipoptions") ≡ 0
  lookup : lines_in (codes "lookup") ≡ 0

option_fixed : OptionWords
unfolding lines_in
option_fixed = record {
  inward = refl;
  outward = refl;
  established = refl;
  setup = refl;
  frag = refl;
  recv = refl;
  xmit = refl;
  via = refl;
  flags = refl;
  types = refl;
  types6 = refl;
  ip = refl;
  lookup = refl;
}

test_silent : (test : Test) → AllByRecursion HasNameBytes (names_in_test test) → AreSilent (test_words test)
test_silent Inward named = (option_fixed.inward, tt)
test_silent Outward named = (option_fixed.outward, tt)
test_silent Established named = (option_fixed.established, tt)
test_silent Setup named = (option_fixed.setup, tt)
test_silent Frag named = (option_fixed.frag, tt)
test_silent (Recv iface) named = (option_fixed.recv, (iface_silent iface named, tt))
test_silent (Xmit iface) named = (option_fixed.xmit, (iface_silent iface named, tt))
test_silent (Via iface) named = (option_fixed.via, (iface_silent iface named, tt))
test_silent (TcpFlags set clear) named = (option_fixed.flags, (joined_is_silent 44 (signed_names flag_names 0 set clear) refl (all_signed_silent flag_names 0 set clear flags_are_silent), tt))
test_silent (IcmpTypes types) named = (option_fixed.types, (joined_is_silent 44 (numbers_where (has_bit types) 32 0) refl (numbers_silent (has_bit types) 32 0), tt))
test_silent (Icmp6Types types) named = (option_fixed.types6, (joined_is_silent 44 (numbers_where (has_type types) 256 0) refl (numbers_silent (has_type types) 256 0), tt))
test_silent (IpOptions present absent) named = (option_fixed.ip, (joined_is_silent 44 (signed_names option_names 0 present absent) refl (all_signed_silent option_names 0 present absent options_are_silent), tt))
test_silent (Lookup field table) named = (option_fixed.lookup, (field_silent field, (name_is_silent table named.0, tt)))

option_silent : (option : Opt) → AllByRecursion HasNameBytes (names_in_test option.test) → AreSilent (option_words option)
option_silent option named = both IsSilent (negation_words option.negated) (test_words option.test) (negation_silent option.negated) (test_silent option.test named)

mask_silent : (mask : LimitMask) → IsSilent (mask_word mask)
unfolding lines_in
mask_silent SrcAddr = refl
mask_silent SrcPort = refl
mask_silent DstAddr = refl
mask_silent DstPort = refl

state_silent : (state : Option StateOpt) → AllByRecursion HasNameBytes (names_in_state state) → AreSilent (state_words state)
state_silent None named = tt
state_silent (Some (Keep name)) named = (fixed.keep, flow_silent name named.0)
state_silent (Some (Limit mask most name)) named = (fixed.limit, (mask_silent mask, (number_is_silent most, flow_silent name named.0)))

family_silent : (family : Family) (protocol : ℕ) → IsSilent (family_word family protocol)
family_silent AnyIp protocol = protocol_is_silent protocol
family_silent Four protocol = fixed.four
family_silent Six protocol = fixed.six

placed_silent : (options : List Opt) (state : Option StateOpt) (at : ℕ) → AllByRecursion (λ option. AreSilent (option_words option)) options → AreSilent (state_words state) → AreSilent (placed_words options state at)
placed_silent options state at all made =
    both IsSilent (flat_map option_words (take at options)) (state_words state ++ flat_map option_words (drop at options))
    (each_silent option_words (take at options) (all_take (λ option. AreSilent (option_words option)) at options all))
    (both IsSilent (state_words state) (flat_map option_words (drop at options)) made
    (each_silent option_words (drop at options) (all_behind (λ option. AreSilent (option_words option)) at options all)))

body_silent : (body : Option Body) → AllByRecursion HasNameBytes (names_in_body body) → AreSilent (optional_body body)
body_silent None named = tt
body_silent (Some body) named =
    let source : List (List ℕ) = flat_map names_in_item body.source.items in
    let target : List (List ℕ) = flat_map names_in_item body.destination.items in
    let tests : List (List ℕ) = flat_map (λ option. names_in_test option.test) body.options in
    let rest = second_of_both HasNameBytes source (target ++ (tests ++ names_in_state body.state)) named in
    let last = second_of_both HasNameBytes target (tests ++ names_in_state body.state) rest in
    let options : AllByRecursion (λ option. AreSilent (option_words option)) body.options =
    each_then (λ (option : Opt). AllByRecursion HasNameBytes (names_in_test option.test)) (λ option. AreSilent (option_words option)) body.options option_silent
    (each_named (λ (option : Opt). names_in_test option.test) body.options (first_of_both HasNameBytes tests (names_in_state body.state) last)) in (
      family_silent body.family body.protocol,
      (
        fixed.source,
        both IsSilent (list_words body.source.negated (map item_text body.source.items)) _
            (list_silent body.source.negated (map item_text body.source.items) (items_silent body.source.items (first_of_both HasNameBytes source (target ++ (tests ++ names_in_state body.state)) named)))
            (both IsSilent (port_words body.source_ports) _ (ports_silent body.source_ports) (
              fixed.target,
              both IsSilent (list_words body.destination.negated (map item_text body.destination.items)) _
                  (list_silent body.destination.negated (map item_text body.destination.items)
                  (items_silent body.destination.items (first_of_both HasNameBytes target (tests ++ names_in_state body.state) rest)))
                  (both IsSilent (port_words body.destination_ports) _ (ports_silent body.destination_ports)
                  (placed_silent body.options body.state body.state_at options (state_silent body.state (second_of_both HasNameBytes tests (names_in_state body.state) last)))),
            )),
      ),
    )

-- ---- the rule

-- no word of a rule ends a line
pub rule_is_silent : (rule : Rule) → AllByRecursion HasNameBytes (names_in_rule rule) → lines_in (rest_text rule) ≡ 0
unfolding rest_text
rule_is_silent rule named =
    let action = first_of_both HasNameBytes (names_in_action rule.action) (names_in_body rule.body) named in
    let body = second_of_both HasNameBytes (names_in_action rule.action) (names_in_body rule.body) named in
    spaced_is_silent (rest_words rule)
    (both IsSilent (set_words rule.set) (action_words rule.action ++ (log_words rule.log ++ optional_body rule.body)) (set_silent rule.set)
    (both IsSilent (action_words rule.action) (log_words rule.log ++ optional_body rule.body) (action_silent rule.action action)
    (both IsSilent (log_words rule.log) (optional_body rule.body) (log_silent rule.log) (body_silent rule.body body))))
