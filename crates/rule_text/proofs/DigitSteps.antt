-- Digits, from the last one on.
use Rattle.std.proofs.Common.{◌≡◌, ℕ, ◌+◌, ◌-◌, ◌/◌, ◌%◌, ◌^◌, ◌<◌, ◌≤◌, zero, suc, List, [], ◌∷◌, ◌++◌, length, take, drop, set, codes, refl, sym, ap, ◌∙◌, arith, append_assoc, length-append, length-drop}
use Rattle.std.proofs.Math.ListN.{length-set}
use Rattle.std.specs.Fmt.{decimal}
use Rattle.std.specs.Prelude.{replicate}
use Rattle.rule_text.specs.Canonical.{five_digits}
use Rattle.std.proofs.lemmas.List.{drop-set, drop_all, append-nil, take_all}
use Rattle.std.proofs.lemmas.Fmt.{decimal_digit, decimal_step, decimal_nonempty, length-decimal-le}

-- the digits of rest are still to be written before those in the buffer
pub record IsWriting (n rest at : ℕ) (buffer : List ℕ) : Type 0 where
  pub digits : decimal n ≡ decimal rest ++ drop at buffer
  pub room : length (decimal rest) ≤ at
  pub within : at ≤ 10
  pub long : length buffer ≡ 10
  pub fits : rest < 2 ^ 32

-- before any digit is written, all of the number's are still to be
pub starts : (n : ℕ) (buffer : List ℕ) → n < 2 ^ 32 → length buffer ≡ 10 → IsWriting n n 10 buffer
starts n buffer fits long = record {
  digits = sym (ap (λ l. decimal n ++ l) (drop_all 10 buffer (omega arith)) ∙ append-nil (decimal n));
  room = length-decimal-le 10 n (omega arith) (omega arith) (omega arith);
  within = omega arith;
  long = long;
  fits = fits;
}

-- a digit before those that stand there
pub put_before : (at : ℕ) (buffer : List ℕ) (digit : ℕ) → 1 ≤ at → at ≤ length buffer → drop (at - 1) (set buffer (at - 1) digit) ≡ digit ∷ drop at buffer
put_before at buffer digit some inside =
    let back : at - 1 + 1 ≡ at = omega arith in
    drop-set buffer (at - 1) digit (omega arith) ∙ ap (λ k. digit ∷ drop k buffer) back

-- the last digit of what is left stands before those in the buffer
pub digit_goes : (n rest at : ℕ) (buffer : List ℕ) → 10 ≤ rest → IsWriting n rest at buffer → IsWriting n (rest / 10) (at - 1) (set buffer (at - 1) (48 + rest % 10))
digit_goes n rest at buffer more w =
    let step : decimal rest ≡ decimal (rest / 10) ++ ((48 + rest % 10) ∷ []) = decimal_step rest more (omega (arith, w.fits)) in
    let count : length (decimal rest) ≡ length (decimal (rest / 10)) + 1 = ap length step ∙ length-append (decimal (rest / 10)) ((48 + rest % 10) ∷ []) in
    let some : 0 < length (decimal (rest / 10)) = decimal_nonempty (rest / 10) (omega (arith, w.fits)) in
    record {
      digits = w.digits ∙ ap (λ l. l ++ drop at buffer) step ∙ append_assoc (decimal (rest / 10)) ((48 + rest % 10) ∷ []) (drop at buffer)
          ∙ ap (λ l. decimal (rest / 10) ++ l) (sym (put_before at buffer (48 + rest % 10) (omega (arith, w.room)) (omega (arith, w.within, w.long))));
      room = omega (arith, w.room);
      within = omega (arith, w.within);
      long = length-set buffer (at - 1) (48 + rest % 10) ∙ w.long;
      fits = omega (arith, w.fits);
    }

-- once the first digit is written, the buffer ends with the number's digits
pub last_goes : (n rest at : ℕ) (buffer : List ℕ) → rest < 10 → IsWriting n rest at buffer → drop (at - 1) (set buffer (at - 1) (48 + rest)) ≡ decimal n
last_goes n rest at buffer less w =
    let some : 0 < length (decimal rest) = decimal_nonempty rest (omega (arith, w.fits)) in
    put_before at buffer (48 + rest) (omega (arith, w.room)) (omega (arith, w.within, w.long)) ∙ sym (w.digits ∙ ap (λ l. l ++ drop at buffer) (decimal_digit rest less))

-- while a digit is still to be written there is room for it
pub has_room : (n rest at : ℕ) (buffer : List ℕ) → IsWriting n rest at buffer → 1 ≤ at
has_room n rest at buffer w = omega (arith, w.room, decimal_nonempty rest (omega (arith, w.fits)))

-- some zeros of five
zeros : (n : ℕ) → n ≤ 5 → take n (codes "00000") ≡ replicate n 48
zeros zero _ = refl
zeros (suc zero) _ = refl
zeros (suc (suc zero)) _ = refl
zeros (suc (suc (suc zero))) _ = refl
zeros (suc (suc (suc (suc zero)))) _ = refl
zeros (suc (suc (suc (suc (suc zero))))) _ = refl
zeros (suc (suc (suc (suc (suc (suc n)))))) h = absurd (omega (arith, h))

length_written : (buffer : List ℕ) (start n : ℕ) → length buffer ≡ 10 → drop start buffer ≡ decimal n → length (decimal n) ≡ 10 - start
length_written buffer start n long digits = ap length (sym digits) ∙ length-drop start buffer ∙ omega arith

-- a number of 16 bits has five digits at most
pub five_fit : (buffer : List ℕ) (start n : ℕ) → n < 2 ^ 16 → start ≤ 10 → length buffer ≡ 10 → drop start buffer ≡ decimal n → 5 ≤ start
five_fit buffer start n small within long digits =
    omega (arith, length_written buffer start n long digits, length-decimal-le 5 n (omega arith) (omega arith) (omega arith))

-- the zeros and the digits
pub five_split : (buffer : List ℕ) (start n : ℕ) → n < 2 ^ 16 → start ≤ 10 → length buffer ≡ 10 → drop start buffer ≡ decimal n → five_digits n ≡ take (start - 5) (codes "00000") ++ decimal n
unfolding five_digits
five_split buffer start n small within long digits =
    let room : 5 ≤ start = five_fit buffer start n small within long digits in
    let e : 5 - length (decimal n) ≡ start - 5 = omega (arith, length_written buffer start n long digits) in
    ap (λ k. replicate k 48 ++ decimal n) e ∙ ap (λ front. front ++ decimal n) (sym (zeros (start - 5) (omega arith)))

-- the rest of the buffer is the digits
pub rest_written : (buffer : List ℕ) (start n : ℕ) → length buffer ≡ 10 → drop start buffer ≡ decimal n → decimal n ≡ take (10 - start) (drop start buffer)
rest_written buffer start n long digits = sym (take_all (10 - start) (drop start buffer) (omega (arith, length-drop start buffer)) ∙ digits)
