-- The records of each capture in the order of all captures' records.
use Rattle.std.specs.Prelude.{◌≡◌, ℕ, ◌==◌, Some, List, filter, length, map, slice_get}
use Rattle.pcap_read.specs.Reading.{Captured}
use Rattle.serial_schedule.specs.Order.{Turn, in_order, record_count}

-- the records that come in the turns of a capture
abbrev pub taken_of : ℕ → List Turn → List Captured
taken_of capture turns = map (λ turn. turn.taken) (filter (λ turn. turn.capture == capture) turns)

-- Each capture gives all its records, each once and in their order; and there are no other turns.
pub record GivesEachRecord (captures : List (List Captured)) : Type 0 where
  pub each : (capture : ℕ) (records : List Captured) → slice_get captures capture ≡ Some records → taken_of capture (in_order captures) ≡ records
  pub all : length (in_order captures) ≡ record_count captures

-- each capture gives all its records in their order, whatever the captures
abbrev pub CapturesKeepTheirOrder : Type 0
CapturesKeepTheirOrder = (captures : List (List Captured)) → GivesEachRecord captures
