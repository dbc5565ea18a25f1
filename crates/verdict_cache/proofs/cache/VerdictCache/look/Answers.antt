use Rattle.std.proofs.Common.{ap, ◌∙◌}
use Rattle.verdict_cache.specs.Cache.{Kept}
use Rattle.verdict_cache.proofs.Missed.{missed}
use Rattle.verdict_cache.proofs.cache.VerdictCache.look.Goals as goal

pub returns-clause-missed : goal.returns-clause-missed
returns-clause-missed g c =
    let turned = c.self.view_is ∙ c.turn_to.ensures in
    let kept : Kept g.row.V.Denot = record { capacity = c.self.inside.recent.cap; number = c.self.inside.number; pairs = c.self.inside.recent.entries } in
    rw (c.recall.ensures.entries, c.recall.ensures.capacity) (missed c.recall.result c.args.number c.args.key kept (ap (λ (k : Kept g.row.V.Denot). k.number) turned) c.recall.ensures.value)
