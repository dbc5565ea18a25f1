use Rattle.view_driver.proofs.Unlike.{other_number}
use Rattle.view_driver.proofs.compared.unlike.Goals as goal

pub returns-in-None : goal.returns-in-None
returns-in-None c = other_number c.args.old.now c.args.new.now c.requires (rw c.in-None.is at c.first_other.ensures)
