use Rattle.std.proofs.lemmas.List.{take_rest}
use Rattle.std.proofs.lemmas.List.Sorted.{IsNonDecreasingBy-drop}
use Rattle.run_audit.specs.Numbering.{number_of}
use Rattle.run_audit.proofs.NumberedLists.{between_counts}
use Rattle.run_audit.proofs.numbered.of_number.Goals as goal

pub count_within-requires : goal.count_within-requires
count_within-requires c = rw (take_rest c.args.ordered.now c.count_below.result) (IsNonDecreasingBy-drop number_of c.count_below.result c.args.ordered.now c.requires)

pub returns : goal.returns
returns c =
    let rest = take_rest c.args.ordered.now c.count_below.result in
    let within = rw rest at c.count_within.ensures.within in
    let point = rw rest at c.count_within.ensures.point in
    rw rest (between_counts c.args.at c.args.ordered.now _ _ c.count_below.ensures.within within c.count_below.ensures.point point)
