use Rattle.std.proofs.Common.{◌≡◌, ◌∙◌}
use Rattle.view_driver.proofs.Unlike.{counts_more}
use Rattle.view_driver.proofs.OutcomesTold.{keeps_on, outcomes_more}
use Rattle.view_driver.proofs.compared.numbers_of.Goals as goal

pub loop-capture-preserved : goal.loop-capture-preserved
loop-capture-preserved c =
    let items = c.deref-capture-items.ensures.value in
    let within = rw items at c.loop-capture-test.true in
    let is = rw items at c.capture-item.is in
    let captures = c.args.report.now.captures.items in
    let rules = c.args.report.now.sections.known.items in
    let (counts, kept, outcomes) = c.loop-capture.invariant in
    let known : c.in_ok-known.known ≡ rules = c.in_ok-known.ensures ∙ c.as_slice.ensures.value in
    let all = rw known at c.in_ok-outcome_numbers.ensures in
    let texts = c.loop-capture.texts in
    let more = c.outcome_numbers.new.texts in
    let one = c.in_ok-outcome_numbers.field-0 in
    let push = c.in_ok-push.ensures.items in (
      counts_more captures c.loop-capture.capture-index c.capture-item.result rules texts more c.loop-capture.numbers.items c.push.new.self.items one within is all push counts,
      keeps_on c.args.texts.now texts more kept all.kept,
      outcomes_more texts more rules captures c.loop-capture.capture-index c.capture-item.result c.loop-capture.numbers.items c.push.new.self.items one within is all push outcomes,
    )
