-- What holds of a reading's value, step by step.
use Rattle.std.proofs.Common.{◌≡◌, if◌then◌else◌, Bool, true, false, Some, None, Option, refl, Result, Ok, Err, subst}
use Rattle.ipfw_parser.specs.Reading.{Fault, ◌>>=◌}
use Rattle.ipfw_parser.specs.Parts.{then_some}
use Rattle.std.specs.Prelude.{IfOk, IfSome, ⊤}

-- what is read in two steps has its property, where the second step makes it of what the first one read
pub on_bind : {X Y : Type 0} (r : Result X Fault) (f : X → Result Y Fault) (P : X → Type 0) (Q : Y → Type 0) → IfOk r P → ((x : X) → P x → IfOk (f x) Q) → IfOk (r >>= f) Q
on_bind (Ok x) f P Q p step = step x p
on_bind (Err e) f P Q p step = tt

-- what is read on either of two branches has the property that both give
pub on_if : {X : Type 0} (b : Bool) (x y : Result X Fault) (Q : X → Type 0) → (b ≡ true → IfOk x Q) → (b ≡ false → IfOk y Q) → IfOk (if b then x else y) Q
on_if true x y Q p q = p refl
on_if false x y Q p q = q refl

-- a value that is read has each property that follows from one that it has
pub weaker : {X : Type 0} (r : Result X Fault) (P Q : X → Type 0) → IfOk r P → ((x : X) → P x → Q x) → IfOk r Q
weaker (Ok x) P Q p step = step x p
weaker (Err e) P Q p step = tt

-- what holds of whatever is read holds of the value that was read
pub of_ok : {X : Type 0} (r : Result X Fault) (P : X → Type 0) (x : X) → IfOk r P → r ≡ Ok x → P x
of_ok (Ok y) P x p e = let same : y ≡ x = cc in subst P same p
of_ok (Err f) P x p e = cc

-- what is found in what was found has its property, where the second search makes it of the first
pub some_bind : {X Y : Type 0} (o : Option X) (f : X → Option Y) (P : X → Type 0) (Q : Y → Type 0) → IfSome o P → ((x : X) → P x → IfSome (f x) Q) → IfSome (then_some o f) Q
some_bind (Some x) f P Q p step = step x p
some_bind None f P Q p step = tt

-- nothing asked of a value holds of whatever is read
pub any_on : {X : Type 0} (r : Result X Fault) → IfOk r (λ _. ⊤)
any_on (Ok x) = tt
any_on (Err e) = tt
