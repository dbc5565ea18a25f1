-- A group in hexadecimal digits is read as the group.
use Rattle.std.proofs.Common.{◌≡◌, ℕ, ◌+◌, ◌*◌, ◌/◌, ◌%◌, ◌^◌, ◌<◌, ◌≤◌, zero, suc, true, false, Some, List, ◌∷◌, length, refl, ap, ◌∙◌, arith, inl, inr, []}
use Rattle.std.specs.List.{list_all}
use Rattle.std.specs.Fmt.{digits, digits_onto, digit_glyph}
use Rattle.std.proofs.Math.Nat.{pow-suc}
use Rattle.std.proofs.lemmas.Bool.{le-leb, and_from}
use Rattle.std.proofs.lemmas.Bool.Decides.{leb_tells}
use Rattle.rule_text.specs.Address6Text.{hexadecimal}
use Rattle.rule_text.proofs.HexSteps.{one_more, the_last}
use Rattle.ipfw_parser.specs.Addresses6.{is_hex, hex_value, hex_after, hex_number, group}

-- one digit, read and counted
record IsGlyph (d glyph : ℕ) : Type 0 where
  hex : is_hex glyph ≡ true
  value : hex_value glyph ≡ d

glyph_of : (d : ℕ) → d < 16 → IsGlyph d (digit_glyph false d)
glyph_of zero small = record { hex = refl; value = refl }
glyph_of (suc zero) small = record { hex = refl; value = refl }
glyph_of (suc (suc zero)) small = record { hex = refl; value = refl }
glyph_of (suc (suc (suc zero))) small = record { hex = refl; value = refl }
glyph_of (suc (suc (suc (suc zero)))) small = record { hex = refl; value = refl }
glyph_of (suc (suc (suc (suc (suc zero))))) small = record { hex = refl; value = refl }
glyph_of (suc (suc (suc (suc (suc (suc zero)))))) small = record { hex = refl; value = refl }
glyph_of (suc (suc (suc (suc (suc (suc (suc zero))))))) small = record { hex = refl; value = refl }
glyph_of (suc (suc (suc (suc (suc (suc (suc (suc zero)))))))) small = record { hex = refl; value = refl }
glyph_of (suc (suc (suc (suc (suc (suc (suc (suc (suc zero))))))))) small = record { hex = refl; value = refl }
glyph_of (suc (suc (suc (suc (suc (suc (suc (suc (suc (suc zero)))))))))) small = record { hex = refl; value = refl }
glyph_of (suc (suc (suc (suc (suc (suc (suc (suc (suc (suc (suc zero))))))))))) small = record { hex = refl; value = refl }
glyph_of (suc (suc (suc (suc (suc (suc (suc (suc (suc (suc (suc (suc zero)))))))))))) small = record { hex = refl; value = refl }
glyph_of (suc (suc (suc (suc (suc (suc (suc (suc (suc (suc (suc (suc (suc zero))))))))))))) small = record { hex = refl; value = refl }
glyph_of (suc (suc (suc (suc (suc (suc (suc (suc (suc (suc (suc (suc (suc (suc zero)))))))))))))) small = record { hex = refl; value = refl }
glyph_of (suc (suc (suc (suc (suc (suc (suc (suc (suc (suc (suc (suc (suc (suc (suc zero))))))))))))))) small = record { hex = refl; value = refl }
glyph_of (suc (suc (suc (suc (suc (suc (suc (suc (suc (suc (suc (suc (suc (suc (suc (suc d)))))))))))))))) small = absurd (omega (arith, small))

-- the digits of n, at most so many, before others
record IsHexOnto (most n : ℕ) (others text : List ℕ) : Type 0 where
  hex : list_all is_hex text ≡ true
  value : hex_after 0 text ≡ hex_after n others
  some : 1 ≤ length text
  few : length text ≤ most + length others

few_digits : (k n : ℕ) → 16 ≤ n → n < 16 ^ suc k → 1 ≤ k
few_digits zero n more small = absurd (omega (arith, more, small))
few_digits (suc k) n more small = omega arith

fewer : (k n : ℕ) → n < 16 ^ suc k → n / 16 < 16 ^ k
fewer k n small = omega (arith, pow-suc 16 k, small)

read_on : (n : ℕ) (others : List ℕ) (v : ℕ) → v ≡ n % 16 → hex_after (16 * (n / 16) + v) others ≡ hex_after n others
read_on n others v e = ap (λ m. hex_after m others) (omega (arith, e))

hex_onto : (k fuel n : ℕ) (others : List ℕ) → 1 ≤ k → k ≤ fuel → n < 16 ^ k → list_all is_hex others ≡ true → IsHexOnto k n others (digits_onto fuel 16 false n others)
hex_onto zero fuel n others some enough small all = absurd (omega (arith, some))
hex_onto (suc k) zero n others some enough small all = absurd (omega (arith, enough))
hex_onto (suc k) (suc fuel) n others some enough small all = elim (leb_tells 16 n) [
  | inl h ↦
      let g = glyph_of (n % 16) (omega arith) in
      let next = hex_onto k fuel (n / 16) (digit_glyph false (n % 16) ∷ others) (few_digits k n h.1 small) (omega (arith, enough)) (fewer k n small) (and_from _ _ g.hex all) in
      rw (one_more fuel n others h.1) (record {
        hex = next.hex;
        value = next.value ∙ read_on n others (hex_value (digit_glyph false (n % 16))) g.value;
        some = next.some;
        few = omega (arith, next.few);
      })
  | inr h ↦
      let g = glyph_of n h.1 in
      rw (the_last fuel n others h.1) (record {
        hex = and_from _ _ g.hex all;
        value = ap (λ m. hex_after (16 * 0 + m) others) g.value ∙ ap (λ m. hex_after m others) (zero_plus n);
        some = omega arith;
        few = omega arith;
      })
]
  where
    zero_plus : (m : ℕ) → 16 * 0 + m ≡ m
    zero_plus m = omega arith

-- a group's digits
pub record IsHexText (n : ℕ) (text : List ℕ) : Type 0 where
  pub hex : list_all is_hex text ≡ true
  pub value : hex_after 0 text ≡ n
  pub some : 1 ≤ length text
  pub few : length text ≤ 4

-- a group's text is one to four hexadecimal digits that write the group
pub hex_text : (n : ℕ) → n < 2 ^ 16 → IsHexText n (hexadecimal n)
unfolding digits
hex_text n small =
    let onto = hex_onto 4 64 n [] (omega arith) (omega arith) (omega arith) refl in
    record { hex = onto.hex; value = onto.value; some = onto.some; few = omega (arith, onto.few) }

-- a group in hexadecimal digits is read as this group
pub group_again : (n : ℕ) → n < 2 ^ 16 → group (hexadecimal n) ≡ Some n
unfolding group hex_number
group_again n small =
    let text = hex_text n small in
    rw (le-leb 1 (length (hexadecimal n)) text.some, le-leb (length (hexadecimal n)) 4 text.few, text.hex) (ap (λ m. Some m) text.value)
