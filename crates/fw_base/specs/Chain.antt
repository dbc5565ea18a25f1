-- One step after another, where each may find nothing.
use Rattle.std.specs.Prelude.{Option, None, Some}

infixl 10 ◌>>=◌
-- the second step on what the first found
abbrev pub ◌>>=◌ : {A B : Type 0} → Option A → (A → Option B) → Option B
None >>= f = None
(Some x) >>= f = f x

-- what the first step found, else what the second finds
abbrev pub or_else : {A : Type 0} → Option A → Option A → Option A
or_else None other = other
or_else (Some x) other = Some x
