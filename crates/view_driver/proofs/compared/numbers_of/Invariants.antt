-- The captures so far have as many numbers as records, which stand for what those came to.
use Rattle.std.proofs.Common.{◌≡◌, length, map, take}
use Rattle.report_values.specs.Outcomes.{Keeps}
use Rattle.view_driver.specs.MovesTold.{AreOutcomes, counts_of}
use Rattle.view_driver.proofs.compared.numbers_of.Given as goal

abbrev pub invariant-loop-capture : goal.invariant-loop-capture
invariant-loop-capture l =
    (map length l.numbers.items ≡ counts_of (take l.capture-index l.report.captures.items))
    × Keeps l.fn.texts l.texts
    × AreOutcomes l.texts l.report.sections.known.items (take l.capture-index l.report.captures.items) l.numbers.items
