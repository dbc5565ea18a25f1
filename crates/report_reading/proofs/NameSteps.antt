-- The names of codes, from the first one on.
use Rattle.std.proofs.Common.{◌≡◌, ℕ, zero, suc, ◌+◌, ◌<◌, ◌≤◌, Some, None, List, [], ◌∷◌, length, map, drop, get_or, refl, ap, arith, add-one, Bor}
use Rattle.std.proofs.lemmas.List.{drop_all}
use Rattle.report_reading.specs.RecordLines.{named, named_code_at}

-- the texts of names
abbrev pub texts : List (Bor (List ℕ)) → List (List ℕ)
texts names = map (λ name. name.now) names

here : (names : List (Bor (List ℕ))) (i : ℕ) (other : Bor (List ℕ)) → i < length names
    → drop i (texts names) ≡ (get_or names i other).now ∷ drop (suc i) (texts names)
here [] i other inside = absurd (omega arith)
here (first ∷ names) zero other inside = refl
here (first ∷ names) (suc i) other inside = here names i other (omega arith)

-- a name that stands there tells its code
pub found : (names : List (Bor (List ℕ))) (i : ℕ) (other : Bor (List ℕ)) (text rest : List ℕ) → i < length names
    → named (get_or names i other).now text ≡ Some rest → named_code_at (drop i (texts names)) i text ≡ Some (i, rest)
unfolding named_code_at
found names i other text rest inside stands = rw (here names i other inside, stands) refl

-- a name that doesn't stand there tells nothing
pub goes : (names : List (Bor (List ℕ))) (i : ℕ) (other : Bor (List ℕ)) (text : List ℕ) → i < length names
    → named (get_or names i other).now text ≡ None → named_code_at (drop i (texts names)) i text ≡ named_code_at (drop (i + 1) (texts names)) (i + 1) text
unfolding named_code_at
goes names i other text inside none = rw (here names i other inside, none, add-one) refl

length_texts : (names : List (Bor (List ℕ))) → length (texts names) ≡ length names
length_texts [] = refl
length_texts (name ∷ names) = ap suc (length_texts names)

-- behind the last name nothing is told
pub ends : (names : List (Bor (List ℕ))) (i : ℕ) (text : List ℕ) → length names ≤ i → named_code_at (drop i (texts names)) i text ≡ None
unfolding named_code_at
ends names i text done = rw (drop_all i (texts names) (omega (arith, length_texts names, done))) refl
