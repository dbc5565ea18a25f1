-- What follows for the value of a call.
use Rattle.std.specs.Prelude.{Result, Ok, Err, IfOk, OnOk}

-- a fact where there is a value, from two of the value and one more
pub OnOk-three : {T E : Type 0} (result : Result T E) (P Q : T → Type 0) (R S : Type 0) → ((value : T) → P value → Q value → R → S) → IfOk result P → IfOk result Q → OnOk result R → OnOk result S
OnOk-three (Ok value) P Q R S goes first second third = goes value first second third
OnOk-three (Err fault) P Q R S goes first second third = tt

-- a fact where there is a value, from two of the value
pub OnOk-both : {T E : Type 0} (result : Result T E) (P Q : T → Type 0) (S : Type 0) → ((value : T) → P value → Q value → S) → IfOk result P → IfOk result Q → OnOk result S
OnOk-both (Ok value) P Q S goes first second = goes value first second
OnOk-both (Err fault) P Q S goes first second = tt
