use Rattle.std.proofs.Common.{refl}
use Rattle.lookup_tables.specs.AddrTable.{network_cmp}
use Rattle.lookup_tables.proofs.Networks.{network_same}
use Rattle.rule_edits.proofs.Keys.{there, not_there}
use Rattle.rule_edits.proofs.table_changes.remove_prefix.Goals as goal

pub returns-then-remove : goal.returns-then-remove
returns-then-remove c =
    let some = there network_cmp network_same c.args.entries c.args.prefix (c.remove.ensures.there.0 c.if-remove.true) in
    let rest = c.remove.ensures.after in
    rw (some, rest) refl

pub returns-else-remove : goal.returns-else-remove
returns-else-remove c =
    let none = not_there network_cmp network_same c.args.entries c.args.prefix (λ has. let is = c.remove.ensures.there.1 has in cc) in
    λ _. rw none refl
