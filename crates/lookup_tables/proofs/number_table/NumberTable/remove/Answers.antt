use Rattle.std.specs.Ordering.{nat_cmp}
use Rattle.std.proofs.lemmas.Cmp.{nat_cmp_total}
use Rattle.lookup_tables.proofs.Networks.{number_same}
use Rattle.lookup_tables.proofs.Places.{HasKey-value, value-HasKey}
use Rattle.lookup_tables.proofs.number_table.NumberTable.remove.Goals as goal

pub returns-clause-there : goal.returns-clause-there
returns-clause-there c =
    let there = rw c.self.view_is at c.remove_entry.ensures.there in
    (λ is. HasKey-value nat_cmp nat_cmp_total number_same c.args.self.now c.args.key (there.0 is), λ has. there.1 (value-HasKey nat_cmp nat_cmp_total number_same c.args.self.now c.args.key has))
