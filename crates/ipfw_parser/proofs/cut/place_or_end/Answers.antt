use Rattle.std.proofs.Common.{sym}
use Rattle.ipfw_parser.proofs.Steps.Cuts.{none_len}
use Rattle.ipfw_parser.proofs.cut.place_or_end.Goals as goal

pub returns-in-None-clause-len : goal.returns-in-None-clause-len
returns-in-None-clause-len c = none_len _ _ (sym c.in-None.ensures.found)
