use Rattle.std.proofs.Common.{refl, ◌∙◌, arith}
use Rattle.pcap_read.proofs.Runs.{goes_nowhere, goes_further, goes_to_end, goes_to_fault}
use Rattle.pcap_read.proofs.counting.count_rest.Goals as goal

pub loop-count-init : goal.loop-count-init
loop-count-init g c = record {
  goes = goes_nowhere g.S.Source.left g.S.Source.faults c.args.capture.now;
  limit = refl;
  few = omega arith;
}

pub loop-count-preserved : goal.loop-count-preserved
loop-count-preserved g c =
    let step = rw (c.in-Ok-Some.is, c.in-Ok-Some.field-0-is) at c.next.follows.holds-at-none in
    record {
      goes = goes_further g.S.Source.left g.S.Source.faults c.args.capture.now c.loop-count.capture _ c.loop-count.count _ c.loop-count.invariant.goes step;
      limit = step.limit ∙ c.loop-count.invariant.limit;
      few = omega (arith, c.loop-count.invariant.few, step.counts.0);
    }

pub returns-in-Ok-None : goal.returns-in-Ok-None
returns-in-Ok-None g c =
    let step = rw (c.in-Ok-None.is, c.in-Ok-None.field-0-is) at c.next.follows.holds-at-none in
    goes_to_end g.S.Source.left g.S.Source.faults c.args.capture.now c.loop-count.capture _ c.loop-count.count c.loop-count.invariant.goes c.loop-count.invariant.limit step

pub returns-in-Err : goal.returns-in-Err
returns-in-Err g c =
    let step = rw c.in-Err.is at c.next.follows.holds-at-none in
    goes_to_fault g.S.Source.left g.S.Source.faults c.args.capture.now c.loop-count.capture _ c.loop-count.count _ c.loop-count.invariant.goes c.loop-count.invariant.limit step
