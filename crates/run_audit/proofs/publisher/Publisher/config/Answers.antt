use Rattle.std.proofs.Common.{◌∙◌, subst, List, ap}
use Rattle.capture_tracks.specs.Operator.{OperatorValue}
use Rattle.generation_store.specs.Published.{Published}
use Rattle.fw_world.specs.Editions.{IsLastOf}
use Rattle.run_audit.proofs.publisher.Publisher.config.Goals as goal

pub returns : goal.returns
returns c = (
  c.last_edition.result.now,
  subst (λ (all : List Published). IsLastOf all c.last_edition.result.now) (c.all.ensures ∙ ap (λ (v : OperatorValue). v.editions) c.self.view_is) c.last_edition.ensures,
  c.config.ensures.value,
)
