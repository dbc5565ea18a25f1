-- The names that a rule has for codes and bits.
use Rattle.std.specs.Prelude.{ℕ, List, [], ◌∷◌, codes}

-- the codes of `unreach` from 0 to 15 by name (RFC 792, RFC 1812 section 5.2.7.1)
unfoldable pub unreach_names : List (List ℕ)
unreach_names =
    codes "net" ∷ codes "host" ∷ codes "protocol" ∷ codes "port" ∷ codes "needfrag" ∷ codes "srcfail" ∷ codes "net-unknown" ∷ codes "host-unknown"
    ∷ codes "isolated" ∷ codes "net-prohib" ∷ codes "host-prohib" ∷ codes "tosnet" ∷ codes "toshost" ∷ codes "filter-prohib" ∷ codes "host-precedence" ∷ codes "precedence-cutoff" ∷ []

-- bits 0 to 5 of a mask of TCP flags (RFC 9293 section 3.1)
unfoldable pub flag_names : List (List ℕ)
flag_names = codes "fin" ∷ codes "syn" ∷ codes "rst" ∷ codes "psh" ∷ codes "ack" ∷ codes "urg" ∷ []

-- bits 0 to 3 of a mask of IP options (RFC 791 section 3.1)
unfoldable pub option_names : List (List ℕ)
option_names = codes "ssrr" ∷ codes "lsrr" ∷ codes "rr" ∷ codes "ts" ∷ []
