-- Digits, from the first one on.
use Rattle.std.proofs.Common.{◌≡◌, ℕ, ◌+◌, ◌-◌, ◌*◌, ◌^◌, ◌<◌, ◌≤◌, zero, suc, true, false, Some, None, List, ◌∷◌, length, drop, get_or, refl, sym, ap, ◌∙◌, arith, add-one, drop-cons}
use Rattle.std.specs.List.{list_all}
use Rattle.std.proofs.lemmas.List.{drop_all}
use Rattle.std.proofs.lemmas.Bool.Decides.{nat_tests}
use Rattle.std.proofs.Math.Nat.{pow-succ'}
use Rattle.std.specs.Char.{is_ascii_digit}
use Rattle.ipfw_parser.specs.Numbers.{digits_value, value_after}

-- the first i bytes are digits, and write the number n
pub record IsReading (text : List ℕ) (i n : ℕ) : Type 0 where
  pub value : value_after n (drop i text) ≡ value_after 0 text
  pub digits : list_all is_ascii_digit (drop i text) ≡ list_all is_ascii_digit text
  pub small : n < 10 ^ i

-- before any digit is read the number is 0
pub starts : (text : List ℕ) → IsReading text 0 0
starts text = record { value = refl; digits = refl; small = omega arith }

digit_small : (digit : ℕ) → is_ascii_digit digit ≡ true → digit - 48 < 10
digit_small digit told = grind (arith, nat_tests)

grows : (i n digit : ℕ) → digit < 10 → n < 10 ^ i → 10 * n + digit < 10 ^ (i + 1)
grows i n digit small less = let e : 10 ^ (i + 1) ≡ 10 * 10 ^ i = ap (λ k. 10 ^ k) (add-one i) ∙ pow-succ' 10 i in omega (arith, e)

-- with one digit more the number is ten times as great and the digit
pub goes : (text : List ℕ) (i n digit : ℕ) → i < length text → digit ≡ get_or text i 0 → is_ascii_digit digit ≡ true → IsReading text i n → IsReading text (i + 1) (10 * n + (digit - 48))
goes text i n digit inside here told r =
    let split : drop i text ≡ digit ∷ drop (i + 1) text = rw (add-one, here) (drop-cons text i 0 inside) in
    let bounds : digit - 48 < 10 = digit_small digit told in
    record {
      value = sym (ap (value_after n) split) ∙ r.value;
      digits = sym (ap (list_all is_ascii_digit) split ∙ rw told refl) ∙ r.digits;
      small = grows i n (digit - 48) bounds r.small;
    }

-- a number of at most ten digits fits in 64 bits
pub room : (i n digit : ℕ) → i < 10 → digit < 10 → n < 10 ^ i → 10 * n + digit < 2 ^ 64
room zero n digit few small less = omega (arith, less)
room (suc zero) n digit few small less = omega (arith, less)
room (suc (suc zero)) n digit few small less = omega (arith, less)
room (suc (suc (suc zero))) n digit few small less = omega (arith, less)
room (suc (suc (suc (suc zero)))) n digit few small less = omega (arith, less)
room (suc (suc (suc (suc (suc zero))))) n digit few small less = omega (arith, less)
room (suc (suc (suc (suc (suc (suc zero)))))) n digit few small less = omega (arith, less)
room (suc (suc (suc (suc (suc (suc (suc zero))))))) n digit few small less = omega (arith, less)
room (suc (suc (suc (suc (suc (suc (suc (suc zero)))))))) n digit few small less = omega (arith, less)
room (suc (suc (suc (suc (suc (suc (suc (suc (suc zero))))))))) n digit few small less = omega (arith, less)
room (suc (suc (suc (suc (suc (suc (suc (suc (suc (suc i)))))))))) n digit few small less = absurd (omega (arith, few))

-- digits that were read to the end are the number that the text writes
pub ends : (text : List ℕ) (i n : ℕ) → length text ≤ i → IsReading text i n → Some n ≡ digits_value text
unfolding digits_value
ends text i n done r =
    let digits : list_all is_ascii_digit text ≡ true = sym r.digits ∙ ap (list_all is_ascii_digit) (drop_all i text done) in
    let value : value_after 0 text ≡ n = sym r.value ∙ ap (value_after n) (drop_all i text done) in
    rw (digits, value) refl

-- a text with a byte that is no digit writes no number
pub breaks : (text : List ℕ) (i n digit : ℕ) → i < length text → digit ≡ get_or text i 0 → is_ascii_digit digit ≡ false → IsReading text i n → None ≡ digits_value text
unfolding digits_value
breaks text i n digit inside here told r =
    let split : drop i text ≡ digit ∷ drop (i + 1) text = rw (add-one, here) (drop-cons text i 0 inside) in
    let digits : list_all is_ascii_digit text ≡ false = sym r.digits ∙ ap (list_all is_ascii_digit) split ∙ rw told refl in
    rw digits refl
