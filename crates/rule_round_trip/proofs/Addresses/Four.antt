-- Addresses and prefixes in their canonical text are read again.
use Rattle.std.proofs.Common.{◌≡◌, ℕ, ◌/◌, ◌%◌, ◌^◌, ◌<◌, ◌≤◌, false, ◌==◌, if◌then◌else◌, Some, None, Option, Result, Ok, List, ◌∷◌, ◌++◌, length, refl, sym, ap, ◌∙◌, arith, inl, inr, subst, []}
use Rattle.std.specs.Fmt.{decimal}
use Rattle.std.specs.Int.{w32, from_be_bytes}
use Rattle.std.proofs.lemmas.Nat.{from_be_bytes-to_be_bytes_4}
use Rattle.std.proofs.lemmas.Bool.{le-leb}
use Rattle.std.proofs.lemmas.Bool.Decides.{eqb_tells}
use Rattle.std.proofs.lemmas.Fmt.{decimal_nonempty, length-decimal-le}
use Rattle.std.proofs.lemmas.List.{append-nil}
use Rattle.std.specs.Char.{is_ascii_digit}
use Rattle.fw_base.specs.Prefix.{Network, network, IsNetwork}
use Rattle.fw_base.specs.Addr.{address_text}
use Rattle.rule_text.specs.Canonical.{network_text}
use Rattle.ipfw_parser.specs.Reading.{Fault, ◌>>=◌}
use Rattle.ipfw_parser.specs.Numbers.{up_to, decimal as decimal_of}
use Rattle.ipfw_parser.specs.Addresses.{octet_in, with_rest, octet_and_dot, address_in, found_address, address, found_length, prefix_length, prefix}
use Rattle.ipfw_parser.specs.Parts.{part_before, part_behind}
use Rattle.rule_round_trip.proofs.Numbers.Decimal.{digits_again, decimal_again, all_digits}
use Rattle.rule_round_trip.proofs.Numbers.Digits.{IsFree, free_digits, free_append, before_free, behind_free, before_there, behind_there}

small_decimal : (n : ℕ) → n < 256 → decimal_of 3 (decimal n) ≡ Some n
unfolding decimal_of
small_decimal n small =
    rw (le-leb 1 (length (decimal n)) (decimal_nonempty n (omega arith)), le-leb (length (decimal n)) 3 (length-decimal-le 3 n (omega arith) (omega arith) (omega arith))) (digits_again n (omega arith))

octet_again : (n : ℕ) → n < 256 → octet_in (decimal n) ≡ Some n
unfolding octet_in
octet_again n small = ap (up_to 255) (small_decimal n small) ∙ ap (λ b. if b then Some n else None) (le-leb n 255 (omega arith))

-- a byte that is no digit stands in no decimal number
pub free_decimal : (byte n : ℕ) → is_ascii_digit byte ≡ false → n < 2 ^ 32 → IsFree byte (decimal n)
free_decimal byte n other small = free_digits byte (decimal n) other (all_digits n small)

dotted_again : (n : ℕ) (rest : List ℕ) → n < 256 → octet_and_dot (decimal n ++ 46 ∷ rest) ≡ Some (n, rest)
unfolding octet_and_dot
dotted_again n rest small =
    ap (λ front. with_rest (octet_in front) (part_behind 46 (decimal n ++ 46 ∷ rest))) (before_there 46 (decimal n) rest (free_decimal 46 n refl (omega arith)))
    ∙ ap (λ found. with_rest found (part_behind 46 (decimal n ++ 46 ∷ rest))) (octet_again n small)
    ∙ ap (with_rest (Some n)) (behind_there 46 (decimal n) rest (free_decimal 46 n refl (omega arith)))

-- four octets with dots between them
unfoldable pub dots : ℕ → ℕ → ℕ → ℕ → List ℕ
dots a b c d = decimal a ++ (46 ∷ (decimal b ++ (46 ∷ (decimal c ++ (46 ∷ decimal d)))))

-- four octets with dots between them are read as their address
dots_again : (a b c d : ℕ) → a < 256 → b < 256 → c < 256 → d < 256 → address_in (dots a b c d) ≡ Some (from_be_bytes w32 (a ∷ b ∷ c ∷ d ∷ []))
unfolding address_in dots
dots_again a b c d sa sb sc sd =
    rw (dotted_again a (decimal b ++ (46 ∷ (decimal c ++ (46 ∷ decimal d)))) sa, dotted_again b (decimal c ++ (46 ∷ decimal d)) sb, dotted_again c (decimal d) sc, octet_again d sd) refl

-- an address is written as its four octets with dots between them
pub text_is : (a : ℕ) → address_text a ≡ dots (a / 2 ^ 24 % 256) (a / 2 ^ 16 % 256) (a / 2 ^ 8 % 256) (a % 256)
unfolding address_text dots
text_is a = refl

-- an address in its canonical text is read again
address_again : (a : ℕ) → a < 2 ^ 32 → address_in (address_text a) ≡ Some a
address_again a small =
    ap address_in (text_is a)
    ∙ dots_again (a / 2 ^ 24 % 256) (a / 2 ^ 16 % 256) (a / 2 ^ 8 % 256) (a % 256) (omega arith) (omega arith) (omega arith) (omega arith)
    ∙ ap (λ n. let found : Option ℕ = Some n in found) (from_be_bytes-to_be_bytes_4 a small)

-- a byte that is no digit and no dot stands in no address
pub free_dots : (byte a b c d : ℕ) → is_ascii_digit byte ≡ false → 46 == byte ≡ false → a < 256 → b < 256 → c < 256 → d < 256 → IsFree byte (dots a b c d)
unfolding dots
free_dots byte a b c d other dot sa sb sc sd =
    free_append byte (decimal a) (46 ∷ (decimal b ++ (46 ∷ (decimal c ++ (46 ∷ decimal d))))) (free_decimal byte a other (omega arith)) (
      dot,
      free_append byte (decimal b) (46 ∷ (decimal c ++ (46 ∷ decimal d))) (free_decimal byte b other (omega arith))
          (dot, free_append byte (decimal c) (46 ∷ decimal d) (free_decimal byte c other (omega arith)) (dot, free_decimal byte d other (omega arith))),
    )

free_text : (a : ℕ) → IsFree 47 (address_text a)
free_text a = subst (IsFree 47) (sym (text_is a)) (free_dots 47 (a / 2 ^ 24 % 256) (a / 2 ^ 16 % 256) (a / 2 ^ 8 % 256) (a % 256) refl refl (omega arith) (omega arith) (omega arith) (omega arith))

-- reading the prefix whose parts around the / these are
prefix_by : (column : ℕ) (text front : List ℕ) (rest : Option (List ℕ)) (a : ℕ) → part_before 47 text ≡ front → part_behind 47 text ≡ rest → address_in front ≡ Some a
    → prefix (record { column = column; text = text }) ≡ (prefix_length column rest >>= λ bits. Ok (network a bits))
unfolding prefix address
prefix_by column text front rest a is_front is_rest found =
    ap (λ t. found_address column (address_in t) >>= λ n. prefix_length column (part_behind 47 text) >>= λ bits. Ok (network n bits)) is_front
    ∙ ap (λ r. found_address column (address_in front) >>= λ n. prefix_length column r >>= λ bits. Ok (network n bits)) is_rest
    ∙ ap (λ f. found_address column f >>= λ n. prefix_length column rest >>= λ bits. Ok (network n bits)) found

length_again : (column bits : ℕ) → bits ≤ 32 → prefix_length column (Some (decimal bits)) ≡ Ok bits
length_again column bits small =
    ap (λ f. found_length column (up_to 32 f)) (decimal_again bits (omega arith)) ∙ ap (λ b. found_length column (if b then Some bits else None)) (le-leb bits 32 small)

-- a prefix in its canonical text is read as this prefix
pub prefix_again : (n : Network) (column : ℕ) → IsNetwork n → n.address < 2 ^ 32 → prefix (record { column = column; text = network_text n }) ≡ Ok n
unfolding network_text
prefix_again n column good small = elim (eqb_tells n.bits 32) [
  | inl h ↦
      ap (λ b. prefix (record { column = column; text = address_text n.address ++ (if b then [] else 47 ∷ decimal n.bits) })) h.0
      ∙ ap (λ t. prefix (record { column = column; text = t })) (append-nil (address_text n.address))
      ∙ prefix_by column (address_text n.address) (address_text n.address) None n.address (before_free 47 (address_text n.address) (free_text n.address)) (behind_free 47 (address_text n.address) (free_text n.address)) (address_again n.address small)
      ∙ ap (λ bits. let r : Result Network Fault = Ok (network n.address bits) in r) (sym h.1)
      ∙ ap (λ m. let r : Result Network Fault = Ok m in r) good.cleared
  | inr h ↦
      ap (λ b. prefix (record { column = column; text = address_text n.address ++ (if b then [] else 47 ∷ decimal n.bits) })) h.0
      ∙ prefix_by column (address_text n.address ++ 47 ∷ decimal n.bits) (address_text n.address) (Some (decimal n.bits)) n.address (before_there 47 (address_text n.address) (decimal n.bits) (free_text n.address))
      (behind_there 47 (address_text n.address) (decimal n.bits) (free_text n.address)) (address_again n.address small)
      ∙ ap (λ r. r >>= λ bits. let q : Result Network Fault = Ok (network n.address bits) in q) (length_again column n.bits good.within)
      ∙ ap (λ m. let r : Result Network Fault = Ok m in r) good.cleared
]
