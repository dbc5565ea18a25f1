use Rattle.std.proofs.lemmas.List.{get_or_default}
use Rattle.std.proofs.Common.{get_or}
use Rattle.report_values.proofs.KnownPlaces.{found_more, no_rule}
use Rattle.report_values.proofs.known_rules.stretches_of.Goals as goal

pub loop-place-preserved : goal.loop-place-preserved
loop-place-preserved c = λ pair.
    let rules = c.args.rules.now in
    let place = c.loop-place.place in
    let rule = get_or rules place no_rule in
    let updates = rw (c.stretch_to-stretch.ensures, c.stretch_at.ensures) at c.in_ok-insert.ensures.updates in
    found_more rules place pair c.loop-place.stretches c.insert.new.self rule c.loop-place-test.true
    (get_or_default rules place no_rule rule c.loop-place-test.true) updates (c.loop-place.invariant pair)
