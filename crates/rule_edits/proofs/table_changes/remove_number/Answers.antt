use Rattle.std.proofs.Common.{refl}
use Rattle.std.specs.Ordering.{nat_cmp}
use Rattle.lookup_tables.proofs.Networks.{number_same}
use Rattle.rule_edits.proofs.Keys.{there, not_there}
use Rattle.rule_edits.proofs.table_changes.remove_number.Goals as goal

pub returns-then-remove : goal.returns-then-remove
returns-then-remove c =
    let some = there nat_cmp number_same c.args.entries c.args.number (c.remove.ensures.there.0 c.if-remove.true) in
    let rest = c.remove.ensures.after in
    rw (some, rest) refl

pub returns-else-remove : goal.returns-else-remove
returns-else-remove c =
    let none = not_there nat_cmp number_same c.args.entries c.args.number (λ has. let is = c.remove.ensures.there.1 has in cc) in
    λ _. rw none refl
