use Rattle.std.proofs.Common.{◌≡◌, ◌≤◌, ◌+◌, ◌-◌, ℕ, sym, ap, ◌∙◌, arith}
use Rattle.report_states.specs.LiveCounts.{most_living, objects_along}
use Rattle.state_journal.specs.Journal.{no_states}
use Rattle.report_states.proofs.ColumnLaws.{begins_next, counted_all, counted_next, counted_none, whole_left}
use Rattle.report_states.proofs.live_counts.counts_along.Goals as goal

pub loop-column-init : goal.loop-column-init
loop-column-init c =
    let book = c.args.book.now in
    let all = objects_along no_states book.facts book.entries in
    let columns = c.args.columns in
    let walk = c.in_ok-walk in
    let kept = c.pass.ensures.room in
    let room = walk.ensures.room in
    record {
      counted = counted_none columns.count c.from-begin.result columns.first columns.seconds no_states all c.new-counts.result.items c.new-counts.ensures.items c.from-begin.ensures;
      begins = (let first = c.from-begin.ensures in omega (arith, first));
      at = c.pass.ensures.at;
      on = λ begin end at. whole_left begin end book.facts book.entries walk.walk walk.ensures.object walk.ensures.facts walk.ensures.entries ∙ c.pass.ensures.on begin end at;
      room = omega (arith, kept, room);
    }

pub loop-column-preserved : goal.loop-column-preserved
loop-column-preserved c =
    let book = c.args.book.now in
    let all = objects_along no_states book.facts book.entries in
    let columns = c.args.columns in
    let was = c.loop-column in
    let fewer = c.loop-column-test.true in
    let same = c.from.ensures in
    let left : columns.count - was.column - 1 ≡ columns.count - (was.column + 1) = omega arith in
    let some : 1 ≤ columns.count - was.column = omega (arith, fewer) in
    let stays : was.begin ≤ was.begin = omega arith in
    let by_end : c.column.result ≡ most_living was.begin (was.begin + c.from.result) no_states all =
    c.column.ensures.most ∙ sym (was.invariant.on was.begin (was.begin + c.from.result) stays) in
    let is : c.column.result ≡ most_living was.begin (was.begin + columns.seconds) no_states all = by_end ∙ ap (λ (s : ℕ). most_living was.begin (was.begin + s) no_states all) same in
    let next = counted_next (columns.count - was.column) was.begin columns.seconds c.column.result no_states all was.counts.items some is in
    let kept = c.column.ensures.room in
    let room = was.invariant.room in
    record {
      counted = rw (c.in_ok-push.ensures.items, same, ← left) (next ∙ was.invariant.counted);
      begins = begins_next was.begin columns.first was.column columns.seconds c.from.result was.invariant.begins same;
      at = c.column.ensures.at;
      on = λ begin end at.
          let before : was.begin ≤ begin = omega (arith, at) in
          was.invariant.on begin end before ∙ c.column.ensures.on begin end at;
      room = omega (arith, kept, room);
    }

pub returns-clause-counted : goal.returns-clause-counted
returns-clause-counted c =
    let book = c.args.book.now in
    let columns = c.args.columns in
    let was = c.loop-column in
    let test = c.loop-column-test.false in
    let none : columns.count - was.column ≡ 0 = omega (arith, test) in
    sym (counted_all (columns.count - was.column) was.begin columns.seconds no_states (objects_along no_states book.facts book.entries) was.counts.items none) ∙ was.invariant.counted
