use Rattle.std.proofs.Common.{rules, sym, ◌∙◌}
use Rattle.std.proofs.lemmas.Iterator.Adapters.{YieldsList-from_vec}
use Rattle.std.proofs.lemmas.Iterator.Consumers.{YieldsList-turn, YieldsList-so_far, YieldsList-end}
use Rattle.std.proofs.lemmas.List.{map-id}
use Rattle.rm_table.specs.Meanings.{meanings}
use Rattle.rm_lock.proofs.Joins.{joins_next, joined_everyone, closes_now}
use Rattle.rm_lock.proofs.lock.RmLock.close.Goals as goal

pub loop-processor-preserved : goal.loop-processor-preserved
loop-processor-preserved g c =
    let gives = c.into_iter-processor-iterator.ensures.into_iter_gives in
    let list = YieldsList-from_vec c.args.processors.items gives.0 (gives.1 ∙ c.args.processors.ok.0) in
    let turn = YieldsList-turn list c.loop-processor.yielded c.loop-processor.processor-iterator c.loop-processor.yielded_by c.next.result c.next.new.self c.in-Some.processor c.in-Some.is c.next.ensures.steps in
    let so_far = YieldsList-so_far list c.loop-processor.yielded c.loop-processor.processor-iterator c.loop-processor.yielded_by in (
      tt,
      tt,
      search rules,
      joins_next c.args.operator c.operator.inside.seat.table_id c.operator.inside.processors c.operator.inside.number c.operator.inside.seat.me c.args.processors.items c.loop-processor.yielded c.in-Some.processor c.processor.inside.seat.table_id c.loop-processor.seat.me c.processor.inside.seat.me c.join_seat.new.into.me
          c.operator.view_is c.operator.invariant c.requires.each c.processor.view_is (c.join_seat.ensures.both (search rules)) (sym (map-id c.loop-processor.yielded) ∙ so_far) turn.0 turn.1 c.loop-processor.invariant.3,
    )

pub close-requires-clause-joined : goal.close-requires-clause-joined
close-requires-clause-joined g c =
    let gives = c.into_iter-processor-iterator.ensures.into_iter_gives in
    let list = YieldsList-from_vec c.args.processors.items gives.0 (gives.1 ∙ c.args.processors.ok.0) in
    let end = YieldsList-end list c.loop-processor.yielded c.loop-processor.processor-iterator c.loop-processor.yielded_by c.next.result c.next.new.self c.in-None.is c.next.ensures.steps in
    joined_everyone c.args.operator c.operator.inside.seat.table_id c.operator.inside.processors c.operator.inside.number c.operator.inside.seat.me c.args.processors.items c.loop-processor.yielded c.loop-processor.seat.me c.operator.view_is c.operator.invariant c.requires.each (sym (map-id c.loop-processor.yielded) ∙ end.0) c.loop-processor.invariant.3

pub returns : goal.returns
returns g c =
    let gives = c.into_iter-processor-iterator.ensures.into_iter_gives in
    let list = YieldsList-from_vec c.args.processors.items gives.0 (gives.1 ∙ c.args.processors.ok.0) in
    let end = YieldsList-end list c.loop-processor.yielded c.loop-processor.processor-iterator c.loop-processor.yielded_by c.next.result c.next.new.self c.in-None.is c.next.ensures.steps in
    record { closed = closes_now (meanings g.E.Numbered g.B.Kept) c.args.operator c.operator.inside.seat.table_id c.operator.inside.processors c.operator.inside.number c.operator.inside.seat.me c.args.processors.items c.loop-processor.yielded c.loop-processor.seat.me c.close.result.book c.close.result.trackers.items c.close.result.editions.items c.operator.view_is c.operator.invariant c.requires.each (sym (map-id c.loop-processor.yielded) ∙ end.0) c.loop-processor.invariant.3 c.close.ensures }
