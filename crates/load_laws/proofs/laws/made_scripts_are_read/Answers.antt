use Rattle.load_laws.proofs.MadeScripts.{scripts_read}
use Rattle.load_laws.proofs.laws.made_scripts_are_read.Goals as goal

pub returns : goal.returns
returns c = scripts_read
