use Rattle.std.proofs.Common.{◌≡◌, refl, sym, subst}
use Rattle.eval_engine.specs.Question.{Question}
use Rattle.cached_verdicts.specs.LaneCache.{LaneCacheValue, HasRecent, hits_after}
use Rattle.cached_verdicts.specs.Visits.{visit_of}
use Rattle.cached_verdicts.proofs.Recent.{has_recent_behind}
use Rattle.cached_verdicts.proofs.lane_cache.LaneCache.begin.Goals as goal

pub returns-then-begun-clause-seen : goal.returns-then-begun-clause-seen
returns-then-begun-clause-seen c = λ capacity visits later has.
    let q : Question = c.args.question.now in
    let counted : c.saturating_add-self-inside.result ≡ hits_after c.in_ok-begun.begun.is_hit c.self.inside.hits = rw c.if-begun.true c.saturating_add-self-inside.ensures in
    has_recent_behind capacity visits (visit_of q) c.in_ok-begun.begun.is_hit _ _ c.in_ok-begun.ensures.visited counted later
    (subst (λ (l : LaneCacheValue). HasRecent capacity visits l) (sym c.self.view_is) has)

pub returns-else-begun-clause-seen : goal.returns-else-begun-clause-seen
returns-else-begun-clause-seen c = λ capacity visits later has.
    let q : Question = c.args.question.now in
    let counted : c.self.inside.hits ≡ hits_after c.in_ok-begun.begun.is_hit c.self.inside.hits = rw c.if-begun.false refl in
    has_recent_behind capacity visits (visit_of q) c.in_ok-begun.begun.is_hit _ _ c.in_ok-begun.ensures.visited counted later
    (subst (λ (l : LaneCacheValue). HasRecent capacity visits l) (sym c.self.view_is) has)
