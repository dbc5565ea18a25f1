use Rattle.std.proofs.Common.{Ok, map, sym, ap, ◌∙◌}
use Rattle.std.proofs.lemmas.Iterator.Adapters.{YieldsList-from_vec}
use Rattle.std.proofs.lemmas.Iterator.Consumers.{YieldsList-end}
use Rattle.live_replay.proofs.Gathered.{map_itself, values_pushed}
use Rattle.live_replay.proofs.crew.all_finished.Goals as goal

pub loop-result-init : goal.loop-result-init
loop-result-init g c = ap (map Ok) (sym c.in_ok-all.ensures.items)

pub loop-result-preserved : goal.loop-result-preserved
loop-result-preserved g c = values_pushed c.loop-result.yielded c.loop-result.all.items c.push.new.self.items c.in-Some.result c.in_ok-finished.finished c.loop-result.invariant c.in_ok-finished.was c.in_ok-push.ensures.items

pub returns : goal.returns
returns g c =
    let gives = c.into_iter-result-iterator.ensures.into_iter_gives in
    let list = YieldsList-from_vec c.args.results.items gives.0 (gives.1 ∙ c.args.results.ok.0) in
    let whole = YieldsList-end list c.loop-result.yielded c.loop-result.result-iterator c.loop-result.yielded_by c.next.result c.next.new.self c.in-None.is c.next.ensures.steps in
    sym whole.0 ∙ map_itself c.loop-result.yielded ∙ c.loop-result.invariant
