-- The greatest length so far, and those of the outcomes that are left.
use Rattle.std.proofs.Common.{◌≡◌, max, drop, ◌≤◌}
use Rattle.view_driver.specs.MovesText as text
use Rattle.view_driver.proofs.moves_text.width_of.Given as goal

abbrev pub invariant-loop-told : goal.invariant-loop-told
invariant-loop-told l = record {
  least : 4 ≤ l.width;
  same : max l.width (text.width_of l.texts (drop l.told-index l.moves)) ≡ text.width_of l.texts l.moves;
}
