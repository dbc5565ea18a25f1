-- An address of either version as a number (RFC 791 section 3.1, RFC 8200 section 3), cut into words of
-- thirty-two bits.
use Rattle.std.specs.Prelude.{ℕ, ◌*◌, ◌/◌, ◌%◌, ◌^◌, List, [], ◌∷◌}
use Rattle.rule_match.specs.Packet.{Address, V4, V6}

-- the whole address as one number
abbrev pub address_number : Address → ℕ
address_number (V4 address) = address
address_number (V6 address) = address

-- thirty-two bits of the number; word 0 has the last ones
abbrev pub word : ℕ → ℕ → ℕ
word place number = number / 2 ^ (32 * place) % 2 ^ 32

-- the four words of the number, word 0 first
abbrev pub words_of : ℕ → List ℕ
words_of number = word 0 number ∷ word 1 number ∷ word 2 number ∷ word 3 number ∷ []
