use Rattle.report_values.proofs.OutcomeNumbers.{kinds_numbered_more}
use Rattle.report_values.proofs.outcomes.numbers_of_kinds.Goals as goal

pub loop-kind-preserved : goal.loop-kind-preserved
loop-kind-preserved c =
    kinds_numbered_more c.args.texts.now c.loop-kind.texts c.number_of.new.self c.args.known.now c.args.kinds.now
    c.loop-kind.kind-index c.loop-kind.numbers.items c.push.new.self.items c.in_ok-text.text c.in_ok-number.number c.loop-kind-test.true
    c.in_ok-text.ensures c.in_ok-push.ensures.items c.loop-kind.invariant c.in_ok-number.ensures
