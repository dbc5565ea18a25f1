-- The counts of a limit after a change of one of them.
use Rattle.std.proofs.Common.{◌≡◌, ℕ, Bool, true, false, Option, Some, refl, ap, sym, ◌∙◌, cond, ◌-◌}
use Rattle.std.specs.Prelude.{unwrap_or, ◌&&◌, ◌==◌}
use Rattle.std.proofs.lemmas.Map.Views.{exact_unsigned_eq}
use Rattle.dyn_states.specs.LimitCounts.{same_pair}

-- pairs that are the same are equal
pub same_pair_is : (a b : ℕ × ℕ) → same_pair a b ≡ true → a ≡ b
unfolding same_pair
same_pair_is a b same = parted (a.0 == b.0) (a.1 == b.1) (exact_unsigned_eq a.0 b.0) (exact_unsigned_eq a.1 b.1) same
  where
    parted : (x y : Bool) → (x ≡ true → a.0 ≡ b.0) → (y ≡ true → a.1 ≡ b.1) → (x && y) ≡ true → a ≡ b
    parted true true first second both = let one = first refl in let other = second refl in let f = ap (λ (n : ℕ). let p : ℕ × ℕ = (n, a.1) in p) one in f ∙ ap (λ (n : ℕ). let p : ℕ × ℕ = (b.0, n) in p) other
    parted true false first second both = cc
    parted false y first second both = cc

-- a value that is put at a key is there, and the others stay
pub amount_put : (test : Bool) (new old : Option ℕ) (value : ℕ) → new ≡ cond test (Some value) old → unwrap_or new 0 ≡ cond test value (unwrap_or old 0)
amount_put true new old value is = ap (λ (o : Option ℕ). unwrap_or o 0) is
amount_put false new old value is = ap (λ (o : Option ℕ). unwrap_or o 0) is

-- where nothing is counted there is nothing to take
pub amount_kept : (test : Bool) (here there : ℕ) → (test ≡ true → here ≡ there) → there ≡ 0 → here ≡ cond test (there - 1) here
amount_kept true here there same none = same refl ∙ (none ∙ sym (ap (λ (n : ℕ). n - 1) none))
amount_kept false here there same none = refl
