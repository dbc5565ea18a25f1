-- The tallies so far were added up.
use Rattle.std.proofs.Common.{◌≡◌, take}
use Rattle.counter_book.specs.Counts.{total_under}
use Rattle.counter_book.proofs.tally.total.Given as goal

abbrev pub invariant-loop-tally : goal.invariant-loop-tally
invariant-loop-tally l = l.total ≡ total_under (take l.tally-index l.tallies) l.id
