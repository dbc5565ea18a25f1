-- Facts about options and results that several crates use and std doesn't have.
use Rattle.std.proofs.Common.{◌≡◌, Option, None, Some, Result, Ok}
use Rattle.std.specs.Prelude.{IfSome}

-- one value is Ok
pub ok_same : {X E : Type 0} (x y : X) → ◌≡◌ {A = Result X E} (Ok x) (Ok y) → x ≡ y
ok_same x y e = cc

-- what follows of two facts of each value
pub IfSome-both : {A : Type 0} (o : Option A) (P Q R : A → Type 0) → ((x : A) → P x → Q x → R x) → IfSome o P → IfSome o Q → IfSome o R
IfSome-both None P Q R f p q = tt
IfSome-both (Some x) P Q R f p q = f x p q
