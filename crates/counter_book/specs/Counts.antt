-- Counts by counter number, and their sums over all tallies, modulo 2^64.
use Rattle.std.specs.Prelude.{ℕ, ◌+◌, ◌%◌, ◌^◌, List, unwrap_or, slice_get, sum_by}
use Rattle.counter_book.specs.declared.tally.Count.{Count}

-- nothing counted
abbrev pub no_count : Count
no_count = record { packets = 0; bytes = 0 }

-- what a tally has counted under a number: nothing where it isn't fitted for it
abbrev pub counted_under : List Count → ℕ → Count
counted_under counts id = unwrap_or (slice_get counts id) no_count

-- the count after one packet more
abbrev pub count_after_packet : Count → ℕ → Count
count_after_packet count bytes = record { packets = (count.packets + 1) % 2 ^ 64; bytes = (count.bytes + bytes) % 2 ^ 64 }

-- the sum over all tallies
abbrev pub total_under : List (List Count) → ℕ → Count
total_under tallies id = record {
  packets = sum_by (λ counts. (counted_under counts id).packets) tallies % 2 ^ 64;
  bytes = sum_by (λ counts. (counted_under counts id).bytes) tallies % 2 ^ 64;
}
