-- The numbers of the rules whose calls are open.
use Rattle.std.proofs.Common.{◌≡◌, ◌≢◌, ℕ, zero, suc, ◌≤◌, ◌<◌, List, ◌∷◌, length, set, refl, arith, get_or-set_same, get_or-set_other}
use Rattle.eval_engine.specs.Callers.{innermost_first}

-- there are as many as calls are open
pub innermost_first-length : (numbers : List ℕ) (depth : ℕ) → length (innermost_first numbers depth) ≡ depth
unfolding innermost_first
innermost_first-length numbers zero = refl
innermost_first-length numbers (suc depth) = let rest = innermost_first-length numbers depth in omega (arith, rest)

-- a number behind them changes none
innermost_first-set : (numbers : List ℕ) (place depth n : ℕ) → depth ≤ place → innermost_first (set numbers place n) depth ≡ innermost_first numbers depth
unfolding innermost_first
innermost_first-set numbers place zero n le = refl
innermost_first-set numbers place (suc depth) n le =
    let ne : depth ≢ place = omega arith in
    let rest = innermost_first-set numbers place depth n (omega arith) in
    rw get_or-set_other (rw rest refl)

-- a call more
pub innermost_first-call : (numbers : List ℕ) (depth n : ℕ) → depth < length numbers → innermost_first (set numbers depth n) (suc depth) ≡ n ∷ innermost_first numbers depth
unfolding innermost_first
innermost_first-call numbers depth n lt = rw get_or-set_same (rw (innermost_first-set numbers depth depth n (omega arith)) refl)
