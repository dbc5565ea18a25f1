use Rattle.lookup_tables.proofs.intervals.+longest_within.Given as goal

abbrev pub decreases-longest_within : goal.decreases-longest_within
decreases-longest_within l = l.bits
