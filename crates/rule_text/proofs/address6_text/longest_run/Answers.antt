use Rattle.std.proofs.Common.{refl}
use Rattle.rule_text.proofs.Runs.{run_starts, run_goes, run_ends}
use Rattle.rule_text.proofs.address6_text.longest_run.Goals as goal

pub loop-place-init : goal.loop-place-init
loop-place-init c = run_starts _ _ refl

pub loop-place-preserved : goal.loop-place-preserved
loop-place-preserved c = run_goes _ _ _ _ _ _ c.loop-place-test.true c.loop-place.invariant c.zeros_with-zeros.ensures c.longer-longest.ensures

pub returns : goal.returns
returns c = let found = run_ends _ _ _ _ c.loop-place-test.false c.loop-place.invariant in record { count = found.count; place = found.place; within = found.within }
