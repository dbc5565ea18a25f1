use Rattle.std.proofs.Common.{ap, sym, ◌∙◌}
use Rattle.std.proofs.lemmas.Iterator.Adapters.{YieldsList-from_vec}
use Rattle.std.proofs.lemmas.Iterator.Consumers.{YieldsList-end}
use Rattle.live_replay.specs.Crew.{lanes_of, sources_of, ends_of}
use Rattle.live_replay.proofs.Gathered.{map_itself}
use Rattle.live_replay.proofs.replay.taken_apart.Goals as goal

pub returns-clause-lanes : goal.returns-clause-lanes
returns-clause-lanes g c =
    let gives = c.into_iter-done-iterator.ensures.into_iter_gives in
    let list = YieldsList-from_vec c.args.finished.items gives.0 (gives.1 ∙ c.args.finished.ok.0) in
    let whole = YieldsList-end list c.loop-done.yielded c.loop-done.done-iterator c.loop-done.yielded_by c.next.result c.next.new.self c.in-None.is c.next.ensures.steps in
    c.loop-done.invariant.lanes ∙ ap lanes_of (sym (map_itself c.loop-done.yielded) ∙ whole.0)

pub returns-clause-sources : goal.returns-clause-sources
returns-clause-sources g c =
    let gives = c.into_iter-done-iterator.ensures.into_iter_gives in
    let list = YieldsList-from_vec c.args.finished.items gives.0 (gives.1 ∙ c.args.finished.ok.0) in
    let whole = YieldsList-end list c.loop-done.yielded c.loop-done.done-iterator c.loop-done.yielded_by c.next.result c.next.new.self c.in-None.is c.next.ensures.steps in
    c.loop-done.invariant.sources ∙ ap sources_of (sym (map_itself c.loop-done.yielded) ∙ whole.0)

pub returns-clause-ends : goal.returns-clause-ends
returns-clause-ends g c =
    let gives = c.into_iter-done-iterator.ensures.into_iter_gives in
    let list = YieldsList-from_vec c.args.finished.items gives.0 (gives.1 ∙ c.args.finished.ok.0) in
    let whole = YieldsList-end list c.loop-done.yielded c.loop-done.done-iterator c.loop-done.yielded_by c.next.result c.next.new.self c.in-None.is c.next.ensures.steps in
    c.loop-done.invariant.ends ∙ ap ends_of (sym (map_itself c.loop-done.yielded) ∙ whole.0)
