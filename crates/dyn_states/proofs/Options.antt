-- What a clause on an answer that may be none says in either case.
use Rattle.std.proofs.Common.{Option, Some, None}
use Rattle.std.specs.Prelude.{MatchOption, IfNone, IfSome, OnSome}

-- what holds where there is none
pub none_gives : {A : Type 0} (r : Option A) (P : Type 0) (Q : A → Type 0) (C R : Type 0) → MatchOption r P Q → IfNone r C → (P → C → R) → IfNone r R
none_gives None P Q C R h c gives = gives h c
none_gives (Some x) P Q C R h c gives = tt

-- what holds where there is one
pub some_gives : {A : Type 0} (r : Option A) (P : Type 0) (Q : A → Type 0) (C : Type 0) (S : A → Type 0) → MatchOption r P Q → OnSome r C → ((x : A) → Q x → C → S x) → IfSome r S
some_gives None P Q C S h c gives = tt
some_gives (Some x) P Q C S h c gives = gives x h c
