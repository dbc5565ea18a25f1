-- What the states are asked.
use Rattle.std.specs.Prelude.{ℕ}
use Rattle.state_asks.specs.declared.op.Op.{Op}
use Rattle.state_asks.specs.declared.op.Op.TheVariants.{Lookup, Install}

-- the second of an ask
abbrev pub asked_second : Op → ℕ
asked_second (Lookup flags flow second name) = second
asked_second (Install flags flow second rule limit name) = second
