-- What a command answers: a value, or the first refusal; and what a call says of it.
use Rattle.std.specs.Prelude.{◌≡◌, ◌≢◌, ℕ, List, [], ◌∷◌, Option, Some, None, Result, Ok, Err}
use Rattle.std.specs.Option.{option_or}
use Rattle.rule_edits.specs.declared.apply_fault.ApplyFault.{ApplyFault}
use Rattle.rule_edits.specs.declared.apply_fault.ApplyFault.TheVariants.{OutOfMemory}

-- a value, or a refusal
abbrev pub Answer : Type 0 → Type 0
Answer X = Result X ApplyFault

infixl 10 ◌>>=◌
-- the second step on what the first answers, or the first refusal
abbrev pub ◌>>=◌ : {X Y : Type 0} → Answer X → (X → Answer Y) → Answer Y
(Ok x) >>= f = f x
(Err fault) >>= f = Err fault

-- the answer, where nothing is refused
abbrev pub unless_refused : {X : Type 0} → Option ApplyFault → Answer X → Answer X
unless_refused None answer = answer
unless_refused (Some fault) answer = Err fault

-- the first refusal among those of the numbers, in their order
abbrev pub first_fault : (ℕ → Option ApplyFault) → List ℕ → Option ApplyFault
first_fault fault [] = None
first_fault fault (number ∷ numbers) = option_or (fault number) (first_fault fault numbers)

-- the fault of a refused call is that of the answer, unless memory ran out
abbrev pub IsRefusal : {X : Type 0} → ApplyFault → Answer X → Type 0
IsRefusal fault answer = fault ≢ OutOfMemory → answer ≡ Err fault

-- what a call answered is the answer, unless memory ran out
abbrev pub Gives : {X : Type 0} → Result X ApplyFault → Answer X → Type 0
Gives (Ok x) answer = answer ≡ Ok x
Gives (Err fault) answer = IsRefusal fault answer
