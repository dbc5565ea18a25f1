use Rattle.std.proofs.Common.{ap, ◌∙◌}
use Rattle.std.proofs.lemmas.Result.{IfOk-weaker}
use Rattle.capture_tracks.specs.Replay.{limit_for}
use Rattle.live_replay.specs.declared.operator.Operator.{Operator}
use Rattle.live_replay.proofs.Gathered.{tasks_ready}
use Rattle.live_replay.proofs.Whole.{ran_over, can_close, comes_to}
use Rattle.live_replay.proofs.replay.replay_live.Goals as goal

pub run-requires-clause-tasks : goal.run-requires-clause-tasks
run-requires-clause-tasks g c κs within =
    tasks_ready c.args.cache c.in_ok-world.field-0.world c.limit_for-limit.result c.args.captures.items c.in_ok-world.field-0.lanes.items c.in_ok-open_tasks.field-0.items c.limit_for-limit.ensures.some c.limit_for-limit.ensures.most c.in_ok-world.ensures.lanes c.in_ok-open_tasks.ensures

pub close-requires : goal.close-requires
close-requires g c =
    let world = c.in_ok-world.field-0 in
    let operator : Operator = record { desk = world.desk; answers = c.new.result } in
    can_close g.S.Source.left g.S.Source.faults c.args.config c.args.steps.now c.args.cache c.limit_for-limit.result c.args.captures.items world.world c.in_ok-relieved.relieved
    (ran_over g.S.Source.left g.S.Source.faults c.args.config c.args.steps.now c.args.cache c.limit_for-limit.result c.len-count.result c.args.captures.items world.world world.lanes.items operator c.in_ok-open_tasks.field-0.items c.in_ok-relieved.relieved
    (c.len-count.ensures ∙ c.args.captures.ok.0) c.in_ok-world.ensures.lanes c.in_ok-world.ensures.count c.in_ok-world.ensures.desk c.new.ensures.items c.in_ok-open_tasks.ensures c.in_ok-relieved.ensures.finished c.in_ok-relieved.ensures.lines)

pub returns : goal.returns
returns g c =
    let world = c.in_ok-world.field-0 in
    let operator : Operator = record { desk = world.desk; answers = c.new.result } in
    IfOk-weaker _ _ _ (λ r closed. comes_to g.S.Source.left g.S.Source.faults c.args.config c.args.steps.now c.args.cache c.limit_for-limit.result c.args.captures.items world.world c.in_ok-relieved.relieved r
    (c.limit_for-limit.ensures.exact ∙ ap limit_for (c.len-count.ensures ∙ c.args.captures.ok.0))
    (ran_over g.S.Source.left g.S.Source.faults c.args.config c.args.steps.now c.args.cache c.limit_for-limit.result c.len-count.result c.args.captures.items world.world world.lanes.items operator c.in_ok-open_tasks.field-0.items c.in_ok-relieved.relieved
    (c.len-count.ensures ∙ c.args.captures.ok.0) c.in_ok-world.ensures.lanes c.in_ok-world.ensures.count c.in_ok-world.ensures.desk c.new.ensures.items c.in_ok-open_tasks.ensures c.in_ok-relieved.ensures.finished c.in_ok-relieved.ensures.lines)
    closed) c.close.ensures
