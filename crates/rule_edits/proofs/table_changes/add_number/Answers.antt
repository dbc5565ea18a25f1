use Rattle.std.proofs.Common.{refl}
use Rattle.std.specs.Ordering.{nat_cmp}
use Rattle.lookup_tables.proofs.Networks.{number_same}
use Rattle.rule_edits.proofs.Keys.{there, not_there}
use Rattle.rule_edits.proofs.table_changes.add_number.Goals as goal

pub returns-in-Ok : goal.returns-in-Ok
returns-in-Ok c =
    let none = not_there nat_cmp number_same c.args.entries c.args.number (λ has. let is = c.in-Ok.ensures.exists.1 has in cc) in
    let made = c.in-Ok.ensures.ok in
    rw (none, made) refl

pub returns-in-Err-Exists : goal.returns-in-Err-Exists
returns-in-Err-Exists c =
    let some = there nat_cmp number_same c.args.entries c.args.number (c.in-Err-Exists.ensures.exists.0 (rw c.in-Err-Exists.field-0-is refl)) in
    λ _. rw some refl
