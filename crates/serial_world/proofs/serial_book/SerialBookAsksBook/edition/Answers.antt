use Rattle.std.proofs.Common.{◌∙◌, List, ap, subst}
use Rattle.generation_store.specs.Published.{Published}
use Rattle.fw_world.specs.Editions.{IsLastOf}
use Rattle.fw_world.specs.World.{WorldValue}
use Rattle.serial_world.proofs.LastEdition.{last_published-is}
use Rattle.serial_world.proofs.serial_book.SerialBookAsksBook.edition.Goals as goal

pub returns : goal.returns
returns c =
    last_published-is c.args.self.now.editions c.last_edition.result.now
    (subst (λ (all : List Published). IsLastOf all c.last_edition.result.now) (c.all.ensures ∙ ap (λ (w : WorldValue). w.editions) c.self.view_is) c.last_edition.ensures)
