-- Where the first `::` begins, byte by byte.
use Rattle.std.proofs.Common.{◌≡◌, ℕ, ◌+◌, ◌<◌, ◌≤◌, suc, Bool, true, false, if◌then◌else◌, Option, Some, None, List, ◌∷◌, length, drop, get_or, nat_eq, codes, refl, sym, ap, ◌∙◌, arith, add-one, drop-cons}
use Rattle.std.specs.List.{starts_with}
use Rattle.std.specs.Option.{option_map}
use Rattle.std.proofs.lemmas.List.{drop_all}
use Rattle.ipfw_parser.specs.Addresses6.{gap_in}

-- the first `at` bytes begin no `::`
pub record IsBeforeGap (text : List ℕ) (at : ℕ) : Type 0 where
  pub same : option_map (λ k. at + k) (gap_in (drop at text)) ≡ gap_in text

none_before : (found : Option ℕ) → option_map (λ k. 0 + k) found ≡ found
none_before None = refl
none_before (Some k) = let e : 0 + k ≡ k = omega arith in ap (λ n. Some n) e

-- before any byte no `::` begins
pub starts : (text : List ℕ) → IsBeforeGap text 0
starts text = record { same = none_before (gap_in text) }

one_further : (at : ℕ) (found : Option ℕ) → option_map (λ k. at + k) (option_map suc found) ≡ option_map (λ k. at + 1 + k) found
one_further at None = refl
one_further at (Some k) = let e : at + suc k ≡ at + 1 + k = omega arith in ap (λ n. Some n) e

split_at : (text : List ℕ) (at : ℕ) → at < length text → drop at text ≡ get_or text at 0 ∷ drop (at + 1) text
split_at text at within = rw add-one (drop-cons text at 0 within)

gap_step : (b : Bool) (byte : ℕ) (bytes : List ℕ) → starts_with nat_eq (byte ∷ bytes) (codes "::") ≡ b → gap_in (byte ∷ bytes) ≡ (if b then Some 0 else option_map suc (gap_in bytes))
unfolding gap_in
gap_step b byte bytes told = ap (λ x. if x then Some 0 else option_map suc (gap_in bytes)) told

gap_at : (b : Bool) (text : List ℕ) (at : ℕ) → at < length text → starts_with nat_eq (drop at text) (codes "::") ≡ b → gap_in (drop at text) ≡ (if b then Some 0 else option_map suc (gap_in (drop (at + 1) text)))
gap_at b text at within told =
    ap gap_in (split_at text at within)
    ∙ gap_step b (get_or text at 0) (drop (at + 1) text) (sym (ap (λ t. starts_with nat_eq t (codes "::")) (split_at text at within)) ∙ told)

-- where no `::` begins at a byte, the search goes on behind it
pub goes : (text : List ℕ) (at : ℕ) → at < length text → starts_with nat_eq (drop at text) (codes "::") ≡ false → IsBeforeGap text at → IsBeforeGap text (at + 1)
goes text at within told before =
    record { same = sym (ap (option_map (λ k. at + k)) (gap_at false text at within told) ∙ one_further at (gap_in (drop (at + 1) text))) ∙ before.same }

-- a `::` that the search meets is the first one of the text
pub found : (text : List ℕ) (at : ℕ) → at < length text → starts_with nat_eq (drop at text) (codes "::") ≡ true → IsBeforeGap text at → Some at ≡ gap_in text
found text at within told before =
    let e : at + 0 ≡ at = omega arith in
    sym (ap (option_map (λ k. at + k)) (gap_at true text at within told) ∙ ap (λ n. Some n) e) ∙ before.same

-- a text that was searched to its end has no `::`
pub ends : (text : List ℕ) (at : ℕ) → length text ≤ at → IsBeforeGap text at → None ≡ gap_in text
unfolding gap_in
ends text at done before = sym (ap (λ t. option_map (λ k. at + k) (gap_in t)) (drop_all at text done)) ∙ before.same
