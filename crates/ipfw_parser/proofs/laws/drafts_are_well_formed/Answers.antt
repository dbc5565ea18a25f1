use Rattle.ipfw_parser.proofs.Forms.Drafts.{drafts_are}
use Rattle.ipfw_parser.proofs.laws.drafts_are_well_formed.Goals as goal

pub returns : goal.returns
returns c = drafts_are
