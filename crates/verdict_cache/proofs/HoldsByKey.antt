-- What a rule's body says of an IPv4 packet is a function of the packet's key.
use Rattle.std.proofs.Common.{◌≡◌, ℕ, Bool, true, false, not, ◌&&◌, List, Option, refl, ap, ◌∙◌, sym, is_some}
use Rattle.std.specs.List.{list_all}
use Rattle.std.specs.Option.{option_map}
use Rattle.fw_base.specs.declared.address.Addr.{Addr}
use Rattle.fw_base.specs.declared.port.Port.{Port}
use Rattle.fw_rule.specs.Bits.{has_bit}
use Rattle.fw_rule.specs.declared.body.Body.{Body}
use Rattle.fw_rule.specs.declared.body.Family.{Family}
use Rattle.fw_rule.specs.declared.body.Family.TheVariants as family
use Rattle.fw_rule.specs.declared.test.Field.{Field}
use Rattle.fw_rule.specs.declared.test.Field.TheVariants.{SrcIp, DstIp, SrcPort, DstPort}
use Rattle.fw_rule.specs.declared.opt.Opt.{Opt}
use Rattle.fw_rule.specs.declared.test.Test.{Test}
use Rattle.fw_rule.specs.declared.test.Test.TheVariants.{Inward, Outward, Established, Setup, Frag, Recv, Xmit, Via, TcpFlags, IcmpTypes, Icmp6Types, IpOptions, Lookup}
use Rattle.ip6_headers.specs.declared.any_ip.AnyIp.TheVariants.{Four}
use Rattle.lookup_tables.specs.Tables.{NamedTables, table_named}
use Rattle.packet_headers.specs.Fields.{Fields}
use Rattle.rule_match.specs.Holds.{as_signed, holds_family, holds_protocol, holds_addresses, holds_ports, holds_option, holds}
use Rattle.rule_match.specs.Interfaces.{is_in, is_out, holds_recv, holds_xmit, holds_via}
use Rattle.rule_match.specs.Packet.{V4}
use Rattle.rule_match.specs.Tables.{answer_for, port_value, field_value}
use Rattle.rule_match.specs.Tests.{agrees, is_established, is_setup, has_flags, has_icmp_type, holds_test}
use Rattle.verdict_cache.specs.Key.{key_of}
use Rattle.verdict_cache.specs.EqualKeys.{EqualKeysHoldAlike}
use Rattle.verdict_cache.specs.declared.key.Key.{Key}
use Rattle.verdict_cache.specs.declared.present_options.PresentOptions.{PresentOptions}

-- ---- the items of a body, asked of a key

abbrev source_port_by : Key → Option ℕ
source_port_by key = option_map (λ ports. ports.0) key.ports

abbrev destination_port_by : Key → Option ℕ
destination_port_by key = option_map (λ ports. ports.1) key.ports

abbrev field_by : NamedTables → Key → Field → List ℕ → Option ℕ
field_by tables key SrcIp name = answer_for (table_named tables name) (V4 key.source.0)
field_by tables key DstIp name = answer_for (table_named tables name) (V4 key.destination.0)
field_by tables key SrcPort name = port_value (table_named tables name) (source_port_by key)
field_by tables key DstPort name = port_value (table_named tables name) (destination_port_by key)

abbrev options_by : ℕ → ℕ → PresentOptions → Bool
options_by present absent options =
    (agrees (has_bit present 0) (has_bit absent 0) options.strict_source_route
    && agrees (has_bit present 1) (has_bit absent 1) options.loose_source_route)
    && (agrees (has_bit present 2) (has_bit absent 2) options.record_route
    && agrees (has_bit present 3) (has_bit absent 3) options.time_stamp)

abbrev test_by : NamedTables → Key → Port → Test → Bool
test_by tables key port Inward = is_in port.direction
test_by tables key port Outward = is_out port.direction
test_by tables key port Established = is_established key.tcp_flags
test_by tables key port Setup = is_setup key.tcp_flags
test_by tables key port Frag = not key.is_offset_zero
test_by tables key port (Recv asked) = holds_recv port asked
test_by tables key port (Xmit asked) = holds_xmit port asked
test_by tables key port (Via asked) = holds_via port asked
test_by tables key port (TcpFlags set clear) = has_flags set clear key.tcp_flags
test_by tables key port (IcmpTypes types) = has_icmp_type types key.icmp_type
test_by tables key port (Icmp6Types types) = false
test_by tables key port (IpOptions present absent) = options_by present absent key.options
test_by tables key port (Lookup field name) = is_some (field_by tables key field name)

abbrev option_by : NamedTables → Key → Port → Opt → Bool
option_by tables key port option = as_signed option.negated (test_by tables key port option.test)

abbrev family_by : Family → Bool
family_by family.AnyIp = true
family_by family.Four = true
family_by family.Six = false

abbrev body_by : Body → NamedTables → List Addr → Port → Key → Bool
body_by body tables locals port key =
    family_by body.family
    && (holds_protocol body.protocol key.protocol
    && (holds_addresses tables locals (V4 key.source.0) body.source
    && (holds_ports (source_port_by key) body.source_ports
    && (holds_addresses tables locals (V4 key.destination.0) body.destination
    && (holds_ports (destination_port_by key) body.destination_ports
    && list_all (option_by tables key port) body.options)))))

-- ---- they are those of the packet

field_is : (p : Fields) (tables : NamedTables) (field : Field) (name : List ℕ) → field_value tables (Four p) field name ≡ field_by tables (key_of p) field name
field_is p tables SrcIp name = refl
field_is p tables DstIp name = refl
field_is p tables SrcPort name = refl
field_is p tables DstPort name = refl

test_is : (p : Fields) (tables : NamedTables) (port : Port) (test : Test) → holds_test tables (Four p) port test ≡ test_by tables (key_of p) port test
test_is p tables port Inward = refl
test_is p tables port Outward = refl
test_is p tables port Established = refl
test_is p tables port Setup = refl
test_is p tables port Frag = refl
test_is p tables port (Recv asked) = refl
test_is p tables port (Xmit asked) = refl
test_is p tables port (Via asked) = refl
test_is p tables port (TcpFlags set clear) = refl
test_is p tables port (IcmpTypes types) = refl
test_is p tables port (Icmp6Types types) = refl
test_is p tables port (IpOptions present absent) = refl
test_is p tables port (Lookup field name) = ap is_some (field_is p tables field name)

option_is : (p : Fields) (tables : NamedTables) (port : Port) (option : Opt) → holds_option tables (Four p) port option ≡ option_by tables (key_of p) port option
option_is p tables port option = ap (as_signed option.negated) (test_is p tables port option.test)

options_are : (p : Fields) (tables : NamedTables) (port : Port) (options : List Opt) → list_all (holds_option tables (Four p) port) options ≡ list_all (option_by tables (key_of p) port) options
options_are p tables port options = ap (λ (f : Opt → Bool). list_all f options) (λ i option. option_is p tables port option i)

family_is : (p : Fields) (asked : Family) → holds_family asked (Four p) ≡ family_by asked
family_is p family.AnyIp = refl
family_is p family.Four = refl
family_is p family.Six = refl

-- a body's answer is a function of the key
pub holds-by_key : (p : Fields) (body : Body) (tables : NamedTables) (locals : List Addr) (port : Port) → holds body tables locals (Four p) port ≡ body_by body tables locals port (key_of p)
unfolding holds
holds-by_key p body tables locals port =
    rw (family_is p body.family, options_are p tables port body.options) refl

-- each rule's body says the same of packets of one key
pub equal_keys_hold_alike : EqualKeysHoldAlike
equal_keys_hold_alike p q same body tables locals port =
    holds-by_key p body tables locals port
    ∙ ap (body_by body tables locals port) same
    ∙ sym (holds-by_key q body tables locals port)
