use Rattle.std.specs.Ordering.{nat_cmp}
use Rattle.std.proofs.lemmas.Cmp.{nat_cmp_total}
use Rattle.lookup_tables.proofs.Networks.{number_same}
use Rattle.lookup_tables.proofs.Places.{HasKey-value, value-HasKey}
use Rattle.lookup_tables.proofs.number_table.NumberTable.insert.Goals as goal

pub returns-clause-exists : goal.returns-clause-exists
returns-clause-exists c =
    let exists = rw c.self.view_is at c.insert_entry.ensures.exists in
    (λ is. HasKey-value nat_cmp nat_cmp_total number_same c.args.self.now c.args.key (exists.0 is), λ has. exists.1 (value-HasKey nat_cmp nat_cmp_total number_same c.args.self.now c.args.key has))
