-- How long a state lives from its last packet on (ipfw(8), "SYSCTL VARIABLES"). The choice by the flags
-- seen is this project's own: it has no keepalive packets.
use Rattle.std.specs.Prelude.{ℕ, Bool, not, ◌==◌, ◌&&◌, ◌||◌, if◌then◌else◌}
use Rattle.fw_rule.specs.Bits.{has_bit}
use Rattle.fw_rule.specs.Values.{Values}
pub use Rattle.state_asks.specs.Flags.{kept_flags}

-- FIN was seen
abbrev pub has_fin : ℕ → Bool
has_fin flags = has_bit flags 0

-- SYN was seen
abbrev pub has_syn : ℕ → Bool
has_syn flags = has_bit flags 1

-- RST was seen
abbrev pub has_rst : ℕ → Bool
has_rst flags = has_bit flags 2

-- a SYN was seen forward, and no other flag in either direction
abbrev pub is_opening : ℕ → ℕ → Bool
is_opening forward reverse = forward == 2 && reverse == 0

-- a SYN was seen both ways, and no RST
abbrev pub is_open : ℕ → ℕ → Bool
is_open forward reverse = (has_syn forward && has_syn reverse) && not (has_rst forward || has_rst reverse)

-- a FIN was seen both ways
abbrev pub is_closing : ℕ → ℕ → Bool
is_closing forward reverse = has_fin forward && has_fin reverse

-- the lifetime of a state of TCP, by the flags seen forward and those seen in reverse
abbrev pub tcp_lifetime : Values → ℕ → ℕ → ℕ
tcp_lifetime settings forward reverse =
    if is_opening forward reverse then settings.syn
    else if is_open forward reverse then (if is_closing forward reverse then settings.fin else settings.ack)
    else settings.rst

-- the lifetime of a state in seconds, by the protocol and, for TCP, by the flags seen
abbrev pub lifetime : Values → ℕ → ℕ → ℕ → ℕ
lifetime settings protocol forward reverse =
    if protocol == 6 then tcp_lifetime settings forward reverse
    else if protocol == 17 then settings.udp
    else settings.short
