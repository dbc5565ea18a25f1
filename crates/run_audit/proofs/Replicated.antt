-- A list that is filled with so many of one thing.
use Rattle.std.proofs.Common.{◌≡◌, ℕ, suc, ◌+◌, ◌-◌, ◌<◌, ◌≤◌, List, [], ◌∷◌, ◌++◌, sym, ap, ◌∙◌, arith, append_assoc}
use Rattle.std.specs.Prelude.{replicate}
use Rattle.std.proofs.lemmas.List.{append-nil}

-- one more of them
pub one_more : {X : Type 0} (items : List X) (x : X) (count all : ℕ) → count < all → items ++ replicate (all - count) x ≡ replicate all x
    → (items ++ x ∷ []) ++ replicate (all - (count + 1)) x ≡ replicate all x
one_more items x count all less is =
    let same : suc (all - (count + 1)) ≡ all - count = omega (arith, less) in
    append_assoc items (x ∷ []) (replicate (all - (count + 1)) x) ∙ ap (λ n. items ++ replicate n x) same ∙ is

-- all of them
pub all_there : {X : Type 0} (items : List X) (x : X) (count all : ℕ) → all ≤ count → items ++ replicate (all - count) x ≡ replicate all x → items ≡ replicate all x
all_there items x count all done is =
    let none : 0 ≡ all - count = omega (arith, done) in
    sym (append-nil items) ∙ ap (λ n. items ++ replicate n x) none ∙ is
