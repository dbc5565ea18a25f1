use Rattle.std.proofs.Common.{◌∙◌, subst, List}
use Rattle.generation_store.specs.Published.{Published}
use Rattle.fw_world.specs.Editions.{IsLastOf}
use Rattle.serial_world.proofs.serial_desk.SerialDesk.config.Goals as goal

pub returns : goal.returns
returns c = (
  c.last_edition.result.now,
  subst (λ (all : List Published). IsLastOf all c.last_edition.result.now) (c.all.ensures ∙ c.self.view_is) c.last_edition.ensures,
  c.config.ensures.value,
)
