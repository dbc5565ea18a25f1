use Rattle.load_laws.proofs.MadeCaptures.{captures_whole}
use Rattle.load_laws.proofs.laws.made_captures_are_whole.Goals as goal

pub returns : goal.returns
returns c = captures_whole
