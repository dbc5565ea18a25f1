-- What holds of each element of a list, and of each byte that passes a test.
use Rattle.std.proofs.Common.{◌≡◌, ℕ, zero, suc, Bool, true, false, ◌==◌, List, ◌∷◌, ◌++◌, take, drop, ap, ◌∙◌, inl, inr, []}
use Rattle.std.specs.List.{AllByRecursion, list_all}
use Rattle.std.proofs.lemmas.Bool.Decides.{eqb_tells}
use Rattle.std.proofs.lemmas.Bool.{and_parts}
use Rattle.fw_base.proofs.Logic.{clash}

-- what holds of each element of two lists holds of each of both together
pub all_append : {X : Type 0} (P : X → Type 0) (front rest : List X) → AllByRecursion P front → AllByRecursion P rest → AllByRecursion P (front ++ rest)
all_append P [] rest p q = q
all_append P (x ∷ front) rest p q = (p.0, all_append P front rest p.1 q)

-- what holds of each element holds of each of the first n
pub all_take : {X : Type 0} (P : X → Type 0) (n : ℕ) (xs : List X) → AllByRecursion P xs → AllByRecursion P (take n xs)
all_take P zero xs all = tt
all_take P (suc n) [] all = tt
all_take P (suc n) (x ∷ xs) all = (all.0, all_take P n xs all.1)

-- what holds of each element holds of each behind the first n
pub all_drop : {X : Type 0} (P : X → Type 0) (n : ℕ) (xs : List X) → AllByRecursion P xs → AllByRecursion P (drop n xs)
all_drop P zero xs all = all
all_drop P (suc n) [] all = tt
all_drop P (suc n) (x ∷ xs) all = all_drop P n xs all.1

-- what holds of each byte that passes the test
pub all_passed : (P : ℕ → Type 0) (test : ℕ → Bool) (text : List ℕ) → ((b : ℕ) → test b ≡ true → P b) → list_all test text ≡ true → AllByRecursion P text
all_passed P test [] each told = tt
all_passed P test (b ∷ text) each told = let both = and_parts (test b) (list_all test text) told in (each b both.0, all_passed P test text each both.1)

-- a byte that passes the test isn't one that doesn't
pub apart : (test : ℕ → Bool) (b byte : ℕ) → test b ≡ true → test byte ≡ false → b == byte ≡ false
apart test b byte told other = elim (eqb_tells b byte) [
  | inl h ↦ clash (test b) told (ap test h.1 ∙ other)
  | inr h ↦ h.0
]
