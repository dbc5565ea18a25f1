-- What decides a piece.
use Rattle.std.specs.Prelude.{ℕ, Option}
use Rattle.std.specs.Option.{option_map}
use Rattle.fw_base.specs.Prefix.{Network}
use Rattle.lookup_tables.specs.declared.piece.Piece.{Piece}

-- the prefix that decides the piece and its value, if any does
abbrev pub decider : Piece → Option (Network × ℕ)
decider piece = option_map (λ value. (piece.prefix, value)) piece.value
