use Rattle.std.specs.Arc.{arc_value}
use Rattle.serial_world.proofs.serial_world.SerialWorld.open.Goals as goal

pub returns-clause-world : goal.returns-clause-world
returns-clause-world c =
    record {
      edition = arc_value c.in_ok-edition.edition;
      built = c.in_ok-edition.ensures;
      editions = c.in_ok-world.ensures.editions;
      journal = c.in_ok-world.ensures.journal;
    }
