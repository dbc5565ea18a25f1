use Rattle.std.proofs.Common.{map, sym, ap, ◌∙◌}
use Rattle.std.proofs.lemmas.Iterator.{YieldsList-from_zip}
use Rattle.std.proofs.lemmas.Iterator.Adapters.{YieldsList-from_vec}
use Rattle.std.proofs.lemmas.Iterator.Consumers.{YieldsList-end}
use Rattle.std.specs.Vec.Iter.{into_iter_items, into_iter_len}
use Rattle.live_replay.proofs.Gathered.{map_itself, task_of, tasks_zipped}
use Rattle.live_replay.proofs.replay.open_tasks.Goals as goal

pub returns : goal.returns
returns g c =
    let zipped = c.zip-opened-items.ensures in
    let captures = YieldsList-from_vec c.args.captures.items (ap into_iter_items zipped.first ∙ c.into_iter.ensures.rest) (ap into_iter_len zipped.first ∙ c.into_iter.ensures.len ∙ c.args.captures.ok.0) in
    let lanes = YieldsList-from_vec c.args.lanes.items zipped.second.0 (zipped.second.1 ∙ c.args.lanes.ok.0) in
    let both = YieldsList-from_zip {s = c.zip-opened-items.result} captures lanes in
    let whole = YieldsList-end both c.loop-opened.yielded c.loop-opened.opened-iterator (rw c.into_iter-opened-iterator.ensures.into_iter_gives at c.loop-opened.yielded_by) c.next.result c.next.new.self c.in-None.is c.next.ensures.steps in
    c.loop-opened.invariant ∙ ap (map (task_of c.args.limit)) (sym (map_itself c.loop-opened.yielded) ∙ whole.0) ∙ tasks_zipped c.args.limit c.args.captures.items c.args.lanes.items
