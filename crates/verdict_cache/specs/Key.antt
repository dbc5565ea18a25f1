-- What a rule's body can tell of an IPv4 packet (ipfw(8), "RULE BODY", "RULE OPTIONS"): both addresses, the
-- protocol, whether the fragment offset is 0, the ports, TCP's flags, the type of an ICMP message, and which
-- of the IP options that a rule can name are there.
use Rattle.std.specs.Prelude.{ℕ, List, Bool, ◌&&◌, ◌==◌, nat_eq}
use Rattle.std.specs.Bool.{beq}
use Rattle.std.specs.Option.{option_eq}
use Rattle.packet_headers.specs.Fields.{Fields}
use Rattle.packet_headers.specs.Options.{has_option}
use Rattle.packet_headers.specs.Transport.{ports_of, tcp_flags_of, icmp_type_of}
use Rattle.rule_match.specs.Tests as tests
use Rattle.verdict_cache.specs.declared.key.Key.{Key}
use Rattle.verdict_cache.specs.declared.present_options.PresentOptions.{PresentOptions}

-- which of the four options that a rule can name are among a header's
abbrev pub present_options : List ℕ → PresentOptions
present_options options = record {
  strict_source_route = has_option tests.strict_source_route options;
  loose_source_route = has_option tests.loose_source_route options;
  record_route = has_option tests.record_route options;
  time_stamp = has_option tests.time_stamp options;
}

-- the key of a packet
abbrev pub key_of : Fields → Key
key_of f = record {
  source = record { 0 = f.source };
  destination = record { 0 = f.destination };
  protocol = f.protocol;
  is_offset_zero = f.offset == 0;
  ports = ports_of f;
  tcp_flags = tcp_flags_of f;
  icmp_type = icmp_type_of f;
  options = present_options f.options;
}

-- the same of the four options are there
abbrev pub same_options : PresentOptions → PresentOptions → Bool
same_options a b =
    beq a.strict_source_route b.strict_source_route
    && (beq a.loose_source_route b.loose_source_route
    && (beq a.record_route b.record_route && beq a.time_stamp b.time_stamp))

-- two pairs of ports are one
abbrev pub same_ports : ℕ × ℕ → ℕ × ℕ → Bool
same_ports a b = a.0 == b.0 && a.1 == b.1

-- two keys are one where every part is equal
abbrev pub same_key : Key → Key → Bool
same_key a b =
    a.source.0 == b.source.0 && (a.destination.0 == b.destination.0 && (a.protocol == b.protocol
    && (beq a.is_offset_zero b.is_offset_zero && (option_eq same_ports a.ports b.ports
    && (option_eq nat_eq a.tcp_flags b.tcp_flags && (option_eq nat_eq a.icmp_type b.icmp_type
    && same_options a.options b.options))))))
