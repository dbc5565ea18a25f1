use Rattle.std.specs.Arc.{arc_value}
use Rattle.run_audit.proofs.Publishing.{first_stands}
use Rattle.run_audit.proofs.publisher.Publisher.new.Goals as goal

pub returns : goal.returns
returns c = first_stands c.args.config (arc_value c.in_ok-edition.edition) _ c.in_ok-edition.ensures c.in_ok-store_of.ensures c.new.ensures.items
