-- What holds of each value that reading gives.
use Rattle.std.proofs.Common.{Bool, true, false, if◌then◌else◌, List, [], ◌∷◌, Result, Ok, Err}
use Rattle.std.specs.Prelude.{IfOk}
use Rattle.std.specs.List.{AllByRecursion}
use Rattle.ipfw_parser.specs.Reading.{Word, Fault}
use Rattle.ipfw_parser.proofs.Forms.Following.{on_bind}
use Rattle.fw_command.specs.Ends.{each_word, result_at_end}

-- a claim that says nothing holds of whatever is read
pub any : {X E : Type 0} (r : Result X E) → IfOk r (λ _. Unit {0})
any (Ok x) = tt
any (Err e) = tt

-- what holds of the values of both branches holds of the one that is chosen
pub on_if : {X E : Type 0} (b : Bool) (r s : Result X E) (P : X → Type 0) → IfOk r P → IfOk s P → IfOk (if b then r else s) P
on_if true r s P p q = p
on_if false r s P p q = q

-- what holds of the value holds of a command that ends behind it
pub finished_on : {X : Type 0} (x : X) (words : List Word) (P : X → Type 0) → P x → IfOk (result_at_end x words) P
unfolding result_at_end
finished_on x [] P p = p
finished_on x (word ∷ words) P p = tt

-- what holds of each word as it is read holds of all words that are read up to the line's end
pub each_on : {X : Type 0} (read : Word → Result X Fault) (P : X → Type 0) → ((word : Word) → IfOk (read word) P) → (words : List Word) → IfOk (each_word read words) (AllByRecursion P)
unfolding each_word
each_on read P each [] = tt
each_on read P each (word ∷ words) =
    on_bind (read word) _ P (AllByRecursion P) (each word) (λ x p.
    on_bind (each_word read words) _ (AllByRecursion P) (AllByRecursion P) (each_on read P each words) (λ xs ps. (p, ps)))
