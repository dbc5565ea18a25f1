-- Facts about tests that several crates use and std doesn't have.
use Rattle.std.proofs.Common.{◌≡◌, Bool, true, false, refl, sym, subst}
use Rattle.std.specs.Bool.{beq}
use Rattle.std.specs.Prelude.{MatchBool}

-- a test doesn't come out both ways
pub clash : {A : Type 0} (b : Bool) → b ≡ true → b ≡ false → A
clash b told other = cc

-- a fact of a test that came out true
pub match_true : (P Q : Type 0) (b : Bool) → b ≡ true → P → MatchBool b P Q
match_true P Q b is p = subst (λ (x : Bool). MatchBool x P Q) (sym is) p

-- a fact of a test that came out false
pub match_false : (P Q : Type 0) (b : Bool) → b ≡ false → Q → MatchBool b P Q
match_false P Q b is q = subst (λ (x : Bool). MatchBool x P Q) (sym is) q

-- what was told of a test that came out true
pub was_true : (P Q : Type 0) (b : Bool) → b ≡ true → MatchBool b P Q → P
was_true P Q b is told = subst (λ (x : Bool). MatchBool x P Q) is told

-- what was told of a test that came out false
pub was_false : (P Q : Type 0) (b : Bool) → b ≡ false → MatchBool b P Q → Q
was_false P Q b is told = subst (λ (x : Bool). MatchBool x P Q) is told

-- tests that are told to be the same are
pub same_by_beq : (a b : Bool) → beq a b ≡ true → a ≡ b
same_by_beq true true is = refl
same_by_beq true false is = cc
same_by_beq false true is = cc
same_by_beq false false is = refl
