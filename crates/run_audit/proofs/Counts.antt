-- Counts of line ends, and of bytes that two texts share.
use Rattle.std.proofs.Common.{◌≡◌, ℕ, suc, ◌+◌, ◌<◌, ◌≤◌, ◌==◌, true, false, List, [], ◌∷◌, ◌++◌, length, take, drop, get_or, nat_eq, refl, ap, ◌∙◌, inl, inr, arith, add-one, drop-cons}
use Rattle.std.specs.Cmp.Lexicographic.{pointwise}
use Rattle.std.specs.List.{common_prefix_len, starts_with}
use Rattle.std.proofs.lemmas.Bool.{and_parts, cases_Bool}
use Rattle.std.proofs.lemmas.List.{drop_all}
use Rattle.run_audit.specs.Comparison.{line_ends}

-- one byte more, which ends a line or doesn't
pub counted_on : (text : List ℕ) (i count step : ℕ) → i < length text → ((get_or text i 0 == 10) ≡ true → step ≡ 1) → ((get_or text i 0 == 10) ≡ false → step ≡ 0)
    → (count + step + line_ends (drop (i + 1) text) ≡ count + line_ends (drop i text)) × (step ≤ 1)
unfolding line_ends
counted_on text i count step inside ends goes = elim (cases_Bool (get_or text i 0 == 10)) [
  | inl is ↦
      let one : step ≡ 1 = ends is in
      let more : line_ends (drop i text) ≡ suc (line_ends (drop (i + 1) text)) = ap line_ends (drop-cons text i 0 inside) ∙ rw (add-one, is) refl in
      (omega (arith, one, more), omega (arith, one))
  | inr other ↦
      let none : step ≡ 0 = goes other in
      let more : line_ends (drop i text) ≡ line_ends (drop (i + 1) text) = ap line_ends (drop-cons text i 0 inside) ∙ rw (add-one, other) refl in
      (omega (arith, none, more), omega (arith, none))
]

-- no byte is left
pub none_left : (text : List ℕ) (i : ℕ) → length text ≤ i → line_ends (drop i text) ≡ 0
unfolding line_ends
none_left text i done = ap line_ends (drop_all i text done)

-- line ends of two texts, one behind the other
pub ends-append : (first second : List ℕ) → line_ends (first ++ second) ≡ line_ends first + line_ends second
unfolding line_ends
ends-append [] second = omega arith
ends-append (byte ∷ first) second = elim (cases_Bool (byte == 10)) [
  | inl is ↦
      let more : line_ends (first ++ second) ≡ line_ends first + line_ends second = ends-append first second in
      rw is (omega (arith, more))
  | inr other ↦ rw other (ends-append first second)
]

nothing_shared : (first : List ℕ) → common_prefix_len nat_eq first [] ≡ 0
nothing_shared [] = refl
nothing_shared (byte ∷ first) = refl

-- behind the end of the second nothing is shared
pub none_shared : (first second : List ℕ) (i : ℕ) → length second ≤ i → common_prefix_len nat_eq (drop i first) (drop i second) ≡ 0
none_shared first second i done = ap (common_prefix_len nat_eq (drop i first)) (drop_all i second done) ∙ nothing_shared (drop i first)

-- a text with which another begins is shared whole
pub all_shared : (first second : List ℕ) → starts_with nat_eq second first ≡ true → common_prefix_len nat_eq first second ≡ length first
all_shared [] second is = refl
all_shared (byte ∷ first) [] is = absurd (cc)
all_shared (byte ∷ first) (other ∷ second) is =
    let (here, rest) = and_parts (nat_eq byte other) (pointwise nat_eq first (take (length first) second)) is in
    let inner : common_prefix_len nat_eq first second ≡ length first = all_shared first second rest in
    rw here (omega (arith, inner))
