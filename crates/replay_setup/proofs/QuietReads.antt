-- Where no read fails, a file's bytes are read as the told list has them.
use Rattle.std.proofs.Common.{◌≡◌, ℕ, ◌+◌, ◌≤◌, List, [], ◌∷◌, ◌++◌, length, Option, None, Some, sym, ap, ◌∙◌, subst, arith, append-nil, length-append}
use Rattle.std.specs.Prelude.{MatchOption}
use Rattle.buffered_io.specs.WholeSource.{ReadsAll}
use Rattle.fw_base.specs.Faults.{Rose}
use Rattle.fw_base.specs.Pairs.{Pair, take_named, TakesOut}

-- what an opening takes out of a told list
pub took_from : (a b : Option (List Pair)) (name : List ℕ) (left : Option (List ℕ)) (ps : List Pair) (p : Pair) (rest : List Pair) → TakesOut a b name left
    → a ≡ Some ps → take_named name ps ≡ Some (p, rest) → (left ≡ Some p.1) × (b ≡ Some rest)
took_from None b name left ps p rest took is stands = absurd (cc)
took_from (Some qs) b name left ps p rest took is stands =
    let same : qs ≡ ps = cc in
    let found : take_named name qs ≡ Some (p, rest) = ap (take_named name) same ∙ stands in
    subst (λ (r : Option (Pair × List Pair)). MatchOption r ⊥ (λ f. (left ≡ Some f.0.1) × (b ≡ Some f.1))) found took

-- all of a script that isn't too long was read
pub all_bytes : (script bytes : List ℕ) (left : Option (List ℕ)) (before now : ℕ) → ReadsAll (Some script) left before now 1048577 bytes → length script ≤ 1048576 → bytes ≡ script
all_bytes script bytes None before now reads short = absurd reads.taken
all_bytes script bytes (Some ys) before now reads short =
    let split : script ≡ bytes ++ ys = reads.taken in
    let size : length script ≡ length bytes + length ys = ap length split ∙ length-append bytes ys in
    let none : ys ≡ [] = reads.end (omega arith) in
    sym (split ∙ ap (λ l. bytes ++ l) none ∙ append-nil bytes)

-- no count of faults rises from 0 to 0
pub not_risen : (before now : ℕ) → before ≡ 0 → now ≡ 0 → Rose before now → ⊥
not_risen before now zero still rose = omega arith
