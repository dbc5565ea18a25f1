use Rattle.std.proofs.Common.{◌+◌, ◌≤◌, length, refl, sym, ap, ◌∙◌, arith}
use Rattle.report_moves.specs.Spans.{pair_eq, span_of}
use Rattle.report_moves.proofs.SpanSteps.{counted, few_counted, length_before, pairs_all, pairs_more}
use Rattle.report_moves.proofs.spans.spans_of.Goals as goal

pub loop-at-init : goal.loop-at-init
unfolding span_of
loop-at-init c = record {
  spans = λ pair. rw c.new-spans.ensures.empty refl;
  all = rw c.new-spans.ensures.empty refl;
}

pub count_record-requires : goal.count_record-requires
count_record-requires c =
    let within : c.loop-at.at ≤ length c.args.old.now = omega arith in
    few_counted c.loop-at.spans _ _ c.loop-at.at (length_before c.args.old.now c.args.new.now c.loop-at.at within c.requires)
    (c.loop-at.invariant.spans _)

pub loop-at-preserved : goal.loop-at-preserved
loop-at-preserved c =
    let within : c.loop-at.at ≤ length c.args.old.now = omega arith in
    let many = length_before c.args.old.now c.args.new.now c.loop-at.at within c.requires in
    let more = pairs_more c.args.old.now c.args.new.now c.loop-at.at (omega arith) c.requires in
    let counts = c.in_ok-count_record.ensures.counted in
    record {
      spans = λ pair.
          counted c.loop-at.spans c.count_record.new.spans _ _ (c.loop-at.at + 1) (ap (λ n. n + 1) (sym many)) c.loop-at.invariant.spans counts pair
          ∙ ap (span_of (pair_eq pair)) (sym more);
      all = counts.one ∙ ap (λ n. n + 1) c.loop-at.invariant.all;
    }

pub returns-clause-spans : goal.returns-clause-spans
returns-clause-spans c = λ pair.
    c.loop-at.invariant.spans pair ∙ ap (span_of (pair_eq pair)) (pairs_all c.args.old.now c.args.new.now c.loop-at.at (omega arith))
