-- Names at the front of a text.
use Rattle.std.proofs.Common.{◌≡◌, ℕ, suc, ◌+◌, ◌≤◌, ◌&&◌, Bool, true, false, not, Some, None, List, [], ◌∷◌, ◌++◌, length, take, drop, refl, sym, ap, ◌∙◌, inl, inr, arith, nat_lt, nat_le}
use Rattle.std.specs.Prelude.{position}
use Rattle.std.specs.List.{list_all, prefix_len, position_or_len}
use Rattle.std.proofs.Math.Seq.{take-append_seam, drop-append_seam}
use Rattle.std.proofs.lemmas.Bool.{cases_Bool, and_parts, le-leb, leb-true, ltb-false}
use Rattle.std.proofs.lemmas.List.{take-append-drop}
use Rattle.std.proofs.lemmas.List.Sums.{prefix_len-le-length}
use Rattle.std.proofs.lemmas.List.Folds.{length-prefix_len}
use Rattle.std.proofs.lemmas.Option.{cond_some, none-some, some_pair_parts}
use Rattle.fw_base.specs.Name.{is_name_byte}
use Rattle.report_reading.specs.FlowTexts.{IsNameText, name_at}
use Rattle.report_reading.proofs.LineEnds.{none_within}

-- ---- how many bytes a name has

not_not : (b : Bool) → not (not b) ≡ b
not_not true = refl
not_not false = refl

-- where the first byte stands that no name has, or the length
abbrev first_other : List ℕ → ℕ
first_other bytes = position_or_len (λ byte. not (is_name_byte byte)) bytes

same_length : (bytes : List ℕ) → first_other bytes ≡ prefix_len is_name_byte bytes
same_length [] = refl
same_length (byte ∷ bytes) = rw (not_not (is_name_byte byte), same_length bytes) refl

-- the place of the first byte that no name has is how many stand before it
pub length_to : (bytes : List ℕ) (at : ℕ) → Some at ≡ position (λ byte. not (is_name_byte byte)) bytes → at ≡ prefix_len is_name_byte bytes
length_to bytes at found =
    let (within, is) = cond_some (nat_lt (first_other bytes) (length bytes)) (first_other bytes) at (sym found) in
    sym is ∙ same_length bytes

-- where no such byte stands, all bytes are a name's
pub length_of_all : (bytes : List ℕ) → None ≡ position (λ byte. not (is_name_byte byte)) bytes → length bytes ≡ prefix_len is_name_byte bytes
length_of_all bytes none =
    let past : length bytes ≤ first_other bytes = ltb-false _ _ (none_within (nat_lt (first_other bytes) (length bytes)) (first_other bytes) none) in
    omega (arith, past, same_length bytes, prefix_len-le-length is_name_byte bytes)

-- ---- a name is read again

-- a text doesn't go on with a byte of a name
abbrev pub IsNameStop : List ℕ → Type 0
IsNameStop [] = Unit {0}
IsNameStop (byte ∷ bytes) = is_name_byte byte ≡ false

length_again : (name rest : List ℕ) → list_all is_name_byte name ≡ true → IsNameStop rest → prefix_len is_name_byte (name ++ rest) ≡ length name
length_again [] [] all stop = refl
length_again [] (byte ∷ rest) all stop = rw stop refl
length_again (byte ∷ name) rest all stop =
    let (here, more) = and_parts (is_name_byte byte) (list_all is_name_byte name) all in
    let inner : prefix_len is_name_byte (name ++ rest) ≡ length name = length_again name rest more stop in
    rw here (omega (arith, inner))

-- a name is read again
pub name_again : (name rest : List ℕ) → IsNameText name → IsNameStop rest → name_at (name ++ rest) ≡ Some (name, rest)
unfolding name_at
name_again name rest within stop =
    rw (
      length_again name rest within.bytes stop,
      le-leb 1 (length name) within.some,
      le-leb (length name) 63 within.few,
      take-append_seam name rest,
      drop-append_seam name rest,
    ) refl

-- ---- what is read is a name

all_names : (bytes : List ℕ) → list_all is_name_byte (take (prefix_len is_name_byte bytes) bytes) ≡ true
all_names [] = refl
all_names (byte ∷ bytes) = elim (cases_Bool (is_name_byte byte)) [
  | inl is ↦
      let next : 1 + prefix_len is_name_byte bytes ≡ suc (prefix_len is_name_byte bytes) = omega arith in
      rw (is, next, is) (all_names bytes)
  | inr other ↦ rw other refl
]

-- a text is a name and a rest
pub record IsNamedText (bytes name rest : List ℕ) : Type 0 where
  pub split : bytes ≡ name ++ rest
  pub within : IsNameText name

-- what is read of a name stands there
pub name_told : (bytes name rest : List ℕ) → name_at bytes ≡ Some (name, rest) → IsNamedText bytes name rest
unfolding name_at
name_told bytes name rest is =
    let count : ℕ = prefix_len is_name_byte bytes in
    elim (cases_Bool (nat_le 1 count && nat_le count 63)) [
      | inl enough ↦
          let on = rw enough at is in
          let (front, end) = some_pair_parts (take count bytes) name (drop count bytes) rest on in
          let (some, few) = and_parts (nat_le 1 count) (nat_le count 63) enough in
          let long : length name ≡ count = ap length (sym front) ∙ length-prefix_len is_name_byte bytes in
          record {
            split = sym (take-append-drop count bytes) ∙ ap (λ t. t ++ drop count bytes) front ∙ ap (λ t. name ++ t) end;
            within = record {
              bytes = ap (λ t. list_all is_name_byte t) (sym front) ∙ all_names bytes;
              some = omega (arith, long, leb-true 1 count some);
              few = omega (arith, long, leb-true count 63 few);
            };
          }
      | inr none ↦ let no = rw none at is in absurd (none-some (name, rest) no)
    ]
