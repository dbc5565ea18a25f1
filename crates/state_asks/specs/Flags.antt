-- The flags of an ask: of a TCP header's those that a state keeps (RFC 9293 section 3.1).
use Rattle.std.specs.Prelude.{ℕ, ◌<◌, bit_and}
use Rattle.state_asks.specs.declared.op.Op.{Op}
use Rattle.state_asks.specs.declared.op.Op.TheVariants.{Lookup, Install}

-- the flags that a state keeps, of a TCP header's flag byte: FIN 1, SYN 2, RST 4
abbrev pub kept_flags : ℕ → ℕ
kept_flags flags = bit_and flags 7

-- the flags with which is asked
abbrev pub asked_flags : Op → ℕ
asked_flags (Lookup flags flow second name) = flags
asked_flags (Install flags flow second rule limit name) = flags

-- an ask has no flags but FIN, SYN and RST
abbrev pub HasKeptFlags : Op → Type 0
HasKeptFlags op = asked_flags op < 8
