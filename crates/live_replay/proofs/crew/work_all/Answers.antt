use Rattle.std.proofs.Common.{Ok, length, sym, ap, subst, ◌∙◌}
use Rattle.std.proofs.lemmas.List.{length-map}
use Rattle.std.proofs.lemmas.Result.{IfOk-weaker}
use Rattle.live_replay.proofs.Gathered.{GivesFor, each_finishes}
use Rattle.live_replay.proofs.crew.work_all.Goals as goal

pub returns : goal.returns
returns g c =
    IfOk-weaker c.all_finished.result _ _ (λ (finished : _) are.
    each_finishes g.S.Source.left g.S.Source.faults c.args.world.now c.args.tasks.items finished.items
    (sym (length-map finished.items Ok) ∙ sym (ap length are) ∙ sym c.in_ok-results.results.ok.0 ∙ c.in_ok-results.ensures.len ∙ c.args.tasks.ok.0)
    (subst (λ rs. GivesFor g.S.Source.left g.S.Source.faults c.args.world.now c.args.tasks.items rs) are (λ i d within. let k = (c.in_ok-results.ensures.each i d within).1 in (k.job, k.job_is, k.call.met))))
    c.all_finished.ensures
