use Rattle.std.proofs.Common.{◌∙◌, List, ap, subst}
use Rattle.generation_store.specs.Published.{Published}
use Rattle.fw_world.specs.Editions.{IsLastOf}
use Rattle.shared_world.proofs.desk.Desk.config.Goals as goal
use Rattle.shared_world.specs.SharedDesk.{SharedDesk}

pub returns : goal.returns
returns c = (
  c.last_edition.result.now,
  subst (λ (all : List Published). IsLastOf all c.last_edition.result.now) (c.all.ensures ∙ ap (λ (d : SharedDesk). d.editions) c.self.view_is) c.last_edition.ensures,
  c.config.ensures.value,
)
