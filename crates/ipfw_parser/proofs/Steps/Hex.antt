-- Hexadecimal digits, from the first one on.
use Rattle.std.proofs.Common.{◌≡◌, ℕ, ◌+◌, ◌*◌, ◌^◌, ◌<◌, ◌≤◌, zero, suc, true, false, Some, None, List, ◌∷◌, length, drop, get_or, refl, sym, ap, ◌∙◌, arith, add-one, drop-cons}
use Rattle.std.specs.List.{list_all}
use Rattle.std.proofs.lemmas.List.{drop_all}
use Rattle.std.proofs.Math.Nat.{pow-succ'}
use Rattle.ipfw_parser.specs.Addresses6.{hex_number, hex_after, hex_value, is_hex}

-- the first i bytes are digits, and write the number n
pub record IsHexReading (text : List ℕ) (i n : ℕ) : Type 0 where
  pub value : hex_after n (drop i text) ≡ hex_after 0 text
  pub digits : list_all is_hex (drop i text) ≡ list_all is_hex text
  pub small : n < 16 ^ i

-- before any digit is read the number is 0
pub starts : (text : List ℕ) → IsHexReading text 0 0
starts text = record { value = refl; digits = refl; small = omega arith }

-- a number with one hexadecimal digit more is below the next power of 16
pub grows : (i n digit : ℕ) → digit < 16 → n < 16 ^ i → 16 * n + digit < 16 ^ (i + 1)
grows i n digit small less = let e : 16 ^ (i + 1) ≡ 16 * 16 ^ i = ap (λ k. 16 ^ k) (add-one i) ∙ pow-succ' 16 i in omega (arith, e)

-- with one hexadecimal digit more the number is 16 times as great and the digit's worth
pub goes : (text : List ℕ) (i n digit worth : ℕ) → i < length text → digit ≡ get_or text i 0 → is_hex digit ≡ true → worth ≡ hex_value digit → worth < 16 → IsHexReading text i n → IsHexReading text (i + 1) (16 * n + worth)
goes text i n digit worth inside here told worth_is bounds r =
    let split : drop i text ≡ digit ∷ drop (i + 1) text = rw (add-one, here) (drop-cons text i 0 inside) in
    record {
      value = ap (λ w. hex_after (16 * n + w) (drop (i + 1) text)) worth_is ∙ sym (ap (hex_after n) split) ∙ r.value;
      digits = sym (ap (list_all is_hex) split ∙ rw told refl) ∙ r.digits;
      small = grows i n worth bounds r.small;
    }

-- a number of at most four hexadecimal digits fits in 16 bits
pub room : (i n digit : ℕ) → i < 4 → digit < 16 → n < 16 ^ i → 16 * n + digit < 2 ^ 16
room zero n digit few small less = omega (arith, less)
room (suc zero) n digit few small less = omega (arith, less)
room (suc (suc zero)) n digit few small less = omega (arith, less)
room (suc (suc (suc zero))) n digit few small less = omega (arith, less)
room (suc (suc (suc (suc i)))) n digit few small less = absurd (omega (arith, few))

-- hexadecimal digits that were read to the end are the number that the text writes
pub ends : (text : List ℕ) (i n : ℕ) → length text ≤ i → IsHexReading text i n → Some n ≡ hex_number text
unfolding hex_number
ends text i n done r =
    let digits : list_all is_hex text ≡ true = sym r.digits ∙ ap (list_all is_hex) (drop_all i text done) in
    let value : hex_after 0 text ≡ n = sym r.value ∙ ap (hex_after n) (drop_all i text done) in
    rw (digits, value) refl

-- a text with a byte that is no hexadecimal digit writes no number
pub breaks : (text : List ℕ) (i n digit : ℕ) → i < length text → digit ≡ get_or text i 0 → is_hex digit ≡ false → IsHexReading text i n → None ≡ hex_number text
unfolding hex_number
breaks text i n digit inside here told r =
    let split : drop i text ≡ digit ∷ drop (i + 1) text = rw (add-one, here) (drop-cons text i 0 inside) in
    let digits : list_all is_hex text ≡ false = sym r.digits ∙ ap (list_all is_hex) split ∙ rw told refl in
    rw digits refl
