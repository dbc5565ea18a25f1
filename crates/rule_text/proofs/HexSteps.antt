-- Hexadecimal digits, from the last one on.
use Rattle.std.proofs.Common.{◌≡◌, ℕ, ◌+◌, ◌-◌, ◌/◌, ◌%◌, ◌^◌, ◌<◌, ◌≤◌, suc, false, List, ◌∷◌, length, drop, set, refl, sym, ap, ◌∙◌, arith, inl, inr}
use Rattle.std.proofs.Math.ListN.{length-set}
use Rattle.std.proofs.lemmas.List.{drop_all}
use Rattle.std.proofs.Math.Nat.{pow-suc}
use Rattle.std.proofs.lemmas.Bool.Decides.{eqb_tells}
use Rattle.std.specs.Fmt.{digits, digits_onto, digit_glyph}
use Rattle.rule_text.specs.Address6Text.{hexadecimal}
use Rattle.rule_text.proofs.DigitSteps.{put_before}

-- the digits of rest are still to be written before those in the buffer; the text has at most 64
pub record IsHexWriting (n rest at : ℕ) (buffer : List ℕ) : Type 0 where
  pub digits : digits_onto (60 + at) 16 false rest (drop at buffer) ≡ hexadecimal n
  pub small : rest < 16 ^ at
  pub some : 1 ≤ at
  pub within : at ≤ 4
  pub long : length buffer ≡ 4

-- before any hexadecimal digit is written, all of the number's are still to be
pub hex_starts : (n : ℕ) (buffer : List ℕ) → n < 2 ^ 16 → length buffer ≡ 4 → IsHexWriting n n 4 buffer
unfolding digits
hex_starts n buffer fits long = record {
  digits = ap (digits_onto 64 16 false n) (drop_all 4 buffer (omega arith));
  small = omega arith;
  some = omega arith;
  within = omega arith;
  long = long;
}

-- a number of two digits or more, and of one
pub one_more : (k n : ℕ) (text : List ℕ) → 16 ≤ n → digits_onto (suc k) 16 false n text ≡ digits_onto k 16 false (n / 16) (digit_glyph false (n % 16) ∷ text)
one_more k n text more = elim (eqb_tells (n / 16) 0) [ inl h ↦ absurd (omega (arith, h.1)) | inr h ↦ rw h.0 refl ]

-- a number below 16 is written as its one hexadecimal digit
pub the_last : (k n : ℕ) (text : List ℕ) → n < 16 → digits_onto (suc k) 16 false n text ≡ digit_glyph false n ∷ text
the_last k n text less =
    let whole : n % 16 ≡ n = omega arith in
    elim (eqb_tells (n / 16) 0) [ inl h ↦ rw h.0 (ap (λ d. digit_glyph false d ∷ text) whole) | inr h ↦ absurd (h.1 (omega arith)) ]

-- sixteen or more has two digits at least
fewer : (at rest : ℕ) → 16 ≤ rest → rest < 16 ^ at → 1 ≤ at → 2 ≤ at
fewer at rest more small some = elim (eqb_tells at 1) [ inl h ↦ absurd (omega (arith, ap (λ k. 16 ^ k) h.1)) | inr h ↦ omega (arith, h.1) ]

-- a digit less
lower : (at rest : ℕ) → 1 ≤ at → rest < 16 ^ at → rest / 16 < 16 ^ (at - 1)
lower at rest some small =
    let back : at ≡ suc (at - 1) = omega arith in
    omega (arith, ap (λ k. 16 ^ k) back ∙ pow-suc 16 (at - 1))

-- the last hexadecimal digit of what is left stands before those in the buffer
pub hex_goes : (n rest at : ℕ) (buffer : List ℕ) (digit : ℕ) → 16 ≤ rest → digit ≡ digit_glyph false (rest % 16) → IsHexWriting n rest at buffer
    → IsHexWriting n (rest / 16) (at - 1) (set buffer (at - 1) digit)
hex_goes n rest at buffer digit more glyph w =
    let two : 2 ≤ at = fewer at rest more w.small w.some in
    let next : suc (60 + (at - 1)) ≡ 60 + at = omega arith in
    record {
      digits = ap (digits_onto (60 + (at - 1)) 16 false (rest / 16)) (put_before at buffer digit (omega arith) (omega (arith, w.within, w.long)) ∙ ap (λ d. d ∷ drop at buffer) glyph)
          ∙ sym (one_more (60 + (at - 1)) rest (drop at buffer) more) ∙ ap (λ k. digits_onto k 16 false rest (drop at buffer)) next ∙ w.digits;
      small = lower at rest w.some w.small;
      some = omega arith;
      within = omega (arith, w.within);
      long = length-set buffer (at - 1) digit ∙ w.long;
    }

-- once the first hexadecimal digit is written, the buffer ends with the number's digits
pub hex_ends : (n rest at : ℕ) (buffer : List ℕ) (digit : ℕ) → rest < 16 → digit ≡ digit_glyph false rest → IsHexWriting n rest at buffer → drop (at - 1) (set buffer (at - 1) digit) ≡ hexadecimal n
hex_ends n rest at buffer digit less glyph w =
    let next : suc (60 + (at - 1)) ≡ 60 + at = omega (arith, w.some) in
    put_before at buffer digit (omega (arith, w.some)) (omega (arith, w.within, w.long)) ∙ ap (λ d. d ∷ drop at buffer) glyph
    ∙ sym (the_last (60 + (at - 1)) rest (drop at buffer) less) ∙ ap (λ k. digits_onto k 16 false rest (drop at buffer)) next ∙ w.digits
