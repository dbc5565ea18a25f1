-- Words of numbers whose first bits are equal.
use Rattle.std.proofs.Common.{◌≡◌, ℕ, ◌+◌, ◌-◌, ◌*◌, ◌/◌, ◌%◌, ◌^◌, ◌<◌, ◌≤◌, Bool, true, false, nat_lt, refl, sym, ap, ◌∙◌, arith}
use Rattle.std.proofs.Math.Nat.{add-mul, div-eq_of_lt, div-eq_of_lt-le, div-one, mod-eq_of_lt, mod-lt, mul-le-mul_right}
use Rattle.std.proofs.Math.Pow.{pow-lt}
use Rattle.std.proofs.lemmas.Nat.{mod-pow-add, pow-add, pow_pos, shr_below, shr_high, shr-shr, shr_split}
use Rattle.std.proofs.lemmas.Bool.Decides.{nat_tests}
use Rattle.rule_gates.specs.Within.{is_within}
use Rattle.rule_gates.specs.declared.interval.Interval.{Interval}

-- a number is within the block of those whose bits but for the last k are its own
pub block-low : (n k : ℕ) → n / 2 ^ k * 2 ^ k ≤ n
block-low n k = omega (arith, shr_split n k)

pub block-high : (n k : ℕ) → n ≤ n / 2 ^ k * 2 ^ k + (2 ^ k - 1)
block-high n k = let least = mod-lt n (pow_pos k) in omega (arith, shr_split n k, least)

-- the block of a number of thirty-two bits
pub block-fits : (n k : ℕ) → n < 2 ^ 32 → k ≤ 32 → n / 2 ^ k * 2 ^ k + (2 ^ k - 1) < 2 ^ 32
block-fits n k fits small =
    let whole : (32 - k) + k ≡ 32 = omega arith in
    let split : 2 ^ 32 ≡ 2 ^ (32 - k) * 2 ^ k = ap (λ i. 2 ^ i) (sym whole) ∙ pow-add 2 (32 - k) k in
    let wide : n < 2 ^ ((32 - k) + k) = rw whole fits in
    let below : n / 2 ^ k < 2 ^ (32 - k) = shr_below n (32 - k) k wide in
    let most : (n / 2 ^ k + 1) * 2 ^ k ≤ 2 ^ (32 - k) * 2 ^ k = mul-le-mul_right (2 ^ k) (omega arith) in
    let one = pow_pos k in
    omega (arith, split, most, one)

-- the bits of a word above k are those of the number
word-bits : (x k : ℕ) → k ≤ 32 → x % 2 ^ 32 / 2 ^ k ≡ x / 2 ^ k % 2 ^ (32 - k)
word-bits x k small =
    let whole : (32 - k) + k ≡ 32 = omega arith in
    let cut : x % 2 ^ 32 ≡ (x / 2 ^ k % 2 ^ (32 - k)) * 2 ^ k + x % 2 ^ k = ap (λ i. x % 2 ^ i) (sym whole) ∙ mod-pow-add x (32 - k) k in
    ap (λ y. y / 2 ^ k) cut ∙ shr_high (x / 2 ^ k % 2 ^ (32 - k)) k (x % 2 ^ k) (mod-lt x (pow_pos k))

-- words of numbers whose bits but for the last ones are equal
pub same_bits : (n f h p k : ℕ) → 32 * p + k ≡ h → k ≤ 32 → n / 2 ^ h ≡ f / 2 ^ h
    → n / 2 ^ (32 * p) % 2 ^ 32 / 2 ^ k ≡ f / 2 ^ (32 * p) % 2 ^ 32 / 2 ^ k
same_bits n f h p k is small same =
    word-bits (n / 2 ^ (32 * p)) k small
    ∙ ap (λ x. x % 2 ^ (32 - k)) (shr-shr n (32 * p) k ∙ ap (λ i. n / 2 ^ i) is ∙ same ∙ ap (λ i. f / 2 ^ i) (sym is) ∙ sym (shr-shr f (32 * p) k))
    ∙ sym (word-bits (f / 2 ^ (32 * p)) k small)

-- of the block as a program makes it, which has no room for more than thirty-two bits
pub block-made : (n k : ℕ) → n < 2 ^ 32 → k < 32 → n / 2 ^ k * 2 ^ k % 2 ^ 32 + (1 * 2 ^ k % 2 ^ 32 - 1) < 2 ^ 32
block-made n k fits small =
    let low : n / 2 ^ k * 2 ^ k % 2 ^ 32 ≡ n / 2 ^ k * 2 ^ k = mod-eq_of_lt (omega (arith, block-low n k)) in
    let wide : 2 ^ k < 2 ^ 32 = pow-lt {i = k} {j = 32} small in
    let one : 1 * 2 ^ k ≡ 2 ^ k = omega arith in
    let span : 1 * 2 ^ k % 2 ^ 32 ≡ 2 ^ k = rw one (mod-eq_of_lt wide) in
    rw (low, span) (block-fits n k fits (omega arith))

-- a number whose bits above the last k are those of the block's
pub block-has : (interval : Interval) (n of k : ℕ) → interval.low ≡ of / 2 ^ k * 2 ^ k → interval.span ≡ 2 ^ k - 1 → n / 2 ^ k ≡ of / 2 ^ k
    → is_within interval n ≡ true
block-has interval n of k low span same =
    let from = block-low n k in
    let to = block-high n k in
    let at : n / 2 ^ k * 2 ^ k ≡ interval.low = ap (λ x. x * 2 ^ k) same ∙ sym low in
    let least : interval.low ≤ n = omega arith in
    let most : n ≤ interval.low + interval.span = omega arith in
    grind (arith, nat_tests)

-- a number that the block has, has the bits of the block's above the last k
pub block-tells : (interval : Interval) (n of k : ℕ) → interval.low ≡ of / 2 ^ k * 2 ^ k → interval.span ≡ 2 ^ k - 1 → is_within interval n ≡ true
    → n / 2 ^ k ≡ of / 2 ^ k
block-tells interval n of k low span has =
    let from : interval.low ≤ n = grind (arith, nat_tests) in
    let to : n ≤ interval.low + interval.span = grind (arith, nat_tests) in
    let one = pow_pos k in
    let most : n < (of / 2 ^ k + 1) * 2 ^ k = rw (add-mul (of / 2 ^ k) 1 (2 ^ k)) (omega arith) in
    div-eq_of_lt-le (2 ^ k) (omega arith) most

-- the only word of a number of thirty-two bits
word-0 : (n : ℕ) → n < 2 ^ 32 → n / 2 ^ (32 * 0) % 2 ^ 32 ≡ n
word-0 n fits = let whole : n / 1 ≡ n = div-one n in rw whole (mod-eq_of_lt fits)

-- of numbers of thirty-two bits: the bits above the last ones are equal where the block of a word has the word
pub network-tells : (interval : Interval) (n of host w : ℕ) → host ≤ 32 → n < 2 ^ 32 → of < 2 ^ 32
    → w ≡ of / 2 ^ (32 * (host / 32)) % 2 ^ 32 → interval.low ≡ w / 2 ^ (host % 32) * 2 ^ (host % 32) → interval.span ≡ 2 ^ (host % 32) - 1
    → is_within interval (n / 2 ^ (32 * (host / 32)) % 2 ^ 32) ≡ true → n / 2 ^ host ≡ of / 2 ^ host
network-tells interval n of host w most n_fits of_fits word_is low span has = go (nat_lt host 32) refl
  where
    go : (b : Bool) → nat_lt host 32 ≡ b → n / 2 ^ host ≡ of / 2 ^ host
    go true is =
        let less : host < 32 = grind (arith, nat_tests) in
        let place : host / 32 ≡ 0 = div-eq_of_lt less in
        let bits : host % 32 ≡ host = mod-eq_of_lt less in
        let of_word : w ≡ of = word_is ∙ ap (λ p. of / 2 ^ (32 * p) % 2 ^ 32) place ∙ word-0 of of_fits in
        let n_word : n / 2 ^ (32 * (host / 32)) % 2 ^ 32 ≡ n = ap (λ p. n / 2 ^ (32 * p) % 2 ^ 32) place ∙ word-0 n n_fits in
        let at_low : interval.low ≡ of / 2 ^ host * 2 ^ host = low ∙ ap (λ k. w / 2 ^ k * 2 ^ k) bits ∙ ap (λ x. x / 2 ^ host * 2 ^ host) of_word in
        let at_span : interval.span ≡ 2 ^ host - 1 = span ∙ ap (λ k. 2 ^ k - 1) bits in
        let is_in : is_within interval n ≡ true = ap (λ x. is_within interval x) (sym n_word) ∙ has in
        block-tells interval n of host at_low at_span is_in
    go false is =
        let all : host ≡ 32 = grind (arith, nat_tests) in
        rw all (div-eq_of_lt n_fits ∙ sym (div-eq_of_lt of_fits))
