use Rattle.report_moves.proofs.SpanSteps.{counts_record}
use Rattle.report_moves.proofs.spans.count_record.Goals as goal

pub returns : goal.returns
returns c =
    let e = c.in_ok-insert.ensures in
    record {
      counted = counts_record c.args.spans.now c.insert.new.self c.args.pair c.args.number c.span_at.result c.in_ok-insert.field-0
          c.one_more-span.result c.span_at.ensures c.one_more-span.ensures e.updates e.old e.entries;
    }
