-- The exit status behind the writing of a text.
use Rattle.std.specs.Prelude.{ℕ, Result, Ok, Err}
use Rattle.fw_base.specs.declared.failure.Failed.{Failed}

-- the status of a text that was to be written with this one
abbrev pub status_of : {U : Type 0} → ℕ → Result U Failed → ℕ
status_of wanted (Ok u) = wanted
status_of wanted (Err error) = 5
