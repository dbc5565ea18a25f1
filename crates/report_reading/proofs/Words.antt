-- Words at the front of a text, and one step after another.
use Rattle.std.proofs.Common.{◌≡◌, ℕ, ◌==◌, true, Option, Some, None, List, [], ◌∷◌, ◌++◌, refl, sym, ap, ◌∙◌, inl, inr, ◌⊎◌, ◌≢◌, arith, Bor}
use Rattle.std.specs.Prelude.{nat_eq, MatchOption}
use Rattle.std.specs.Option.{option_map}
use Rattle.std.specs.Cmp.Lexicographic.{pointwise}
use Rattle.std.proofs.lemmas.Bool.{cases_Bool, eqb-true}
use Rattle.std.proofs.lemmas.Option.{none-some, same_Some, some_pair_parts}
use Rattle.std.proofs.lemmas.Slice.Eq.{bytes_eq-Decides}
use Rattle.fw_base.specs.Chain.{◌>>=◌, or_else}
use Rattle.report_reading.specs.Parts.{behind, told_by, told_where}

-- a number is itself
pub same_number : (n : ℕ) → (n == n) ≡ true
same_number n = grind (arith)

-- what stands behind a word is read again
pub behind_again : (word rest : List ℕ) → behind word (word ++ rest) ≡ Some rest
unfolding behind
behind_again [] rest = refl
behind_again (letter ∷ word) rest = rw (same_number letter) (behind_again word rest)

-- a text with something behind a word is the word and that
pub behind_told : (word bytes rest : List ℕ) → behind word bytes ≡ Some rest → bytes ≡ word ++ rest
unfolding behind
behind_told [] bytes rest is = same_Some bytes rest is
behind_told (letter ∷ word) [] rest is = absurd (none-some rest is)
behind_told (letter ∷ word) (byte ∷ bytes) rest is = elim (cases_Bool (letter == byte)) [
  | inl same ↦
      let on = rw same at is in
      let letters : byte ≡ letter = sym (eqb-true letter byte same) in
      let inner : bytes ≡ word ++ rest = behind_told word bytes rest on in
      rw (letters, inner) refl
  | inr other ↦ let no = rw other at is in absurd (none-some rest no)
]

-- what a step finds on what another found
pub then_found : {A B : Type 0} (found : Option A) (next : A → Option B) (value : B) → (found >>= next) ≡ Some value
    → (x : A) × (found ≡ Some x) × (next x ≡ Some value)
then_found None next value is = absurd (none-some value is)
then_found (Some x) next value is = (x, refl, is)

-- one of two steps finds what both together find
pub one_found : {A : Type 0} (found other : Option A) (value : A) → or_else found other ≡ Some value
    → (found ≡ Some value) ⊎ (other ≡ Some value)
one_found None other value is = inr is
one_found (Some x) other value is = inl is

-- what is told by a word stands behind it
pub by_word : {A : Type 0} (word bytes rest : List ℕ) (value x : A) → told_by word value bytes ≡ Some (x, rest)
    → (value ≡ x) × (bytes ≡ word ++ rest)
by_word word bytes rest value x is =
    let (left, found, told) = then_found (behind word bytes) (λ r. Some (value, r)) (x, rest) is in
    let (same, end) = some_pair_parts value x left rest told in
    (same, behind_told word bytes left found ∙ ap (λ r. word ++ r) end)

-- what is told where a text is a word
pub where_word : {A : Type 0} (word bytes : List ℕ) (value x : A) → told_where word value bytes ≡ Some x → (value ≡ x) × (bytes ≡ word)
where_word word bytes value x is = elim (cases_Bool (pointwise nat_eq bytes word)) [
  | inl same ↦ let told = rw same at is in (same_Some value x told, (bytes_eq-Decides bytes word).0 same)
  | inr other ↦ let no = rw other at is in absurd (none-some x no)
]

none_behind : (word text : List ℕ) → ((rest : List ℕ) → text ≢ word ++ rest) → (found : Option (List ℕ)) → behind word text ≡ found → None ≡ found
none_behind word text none None is = refl
none_behind word text none (Some rest) is = absurd (none rest (behind_told word text rest is))

-- what is found behind a word, in std's words
pub behind_is : (word text : List ℕ) (found : Option (Bor (List ℕ))) → MatchOption found ((rest : List ℕ) → text ≢ word ++ rest) (λ x. text ≡ word ++ x.now)
    → option_map (λ rest. rest.now) found ≡ behind word text
behind_is word text None none = none_behind word text none (behind word text) refl
behind_is word text (Some x) is = sym (ap (behind word) is ∙ behind_again word x.now)
