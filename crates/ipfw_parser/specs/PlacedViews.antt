-- The options that were read, as contracts see them.
use Rattle.ipfw_parser.specs.Options.{Placed}
use Rattle.ipfw_parser.specs.declared.placed.PlacedOptions.{PlacedOptions}

-- the lists of what was read
abbrev pub placed_view : PlacedOptions → Placed
placed_view placed = record { options = placed.options; state = placed.state; state_at = placed.state_at }
