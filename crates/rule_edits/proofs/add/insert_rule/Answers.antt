use Rattle.std.proofs.Common.{map, ap, ◌∙◌, arith}
use Rattle.std.specs.Arc.{arc_value}
use Rattle.rule_edits.proofs.Places.{insert_at}
use Rattle.rule_edits.proofs.add.insert_rule.Goals as goal

pub returns : goal.returns
returns c =
    let behind = rw (c.deref-2.ensures.value, c.deref.ensures) at c.place_behind-place.ensures in
    ap (map arc_value) c.in_ok-insert.ensures.items
    ∙ insert_at arc_value c.args.rules.now.items c.args.rule c.place_behind-place.result behind.within
    (λ k d less. behind.lower k d less)
    (λ d inside. behind.higher c.place_behind-place.result d (omega arith) inside)
