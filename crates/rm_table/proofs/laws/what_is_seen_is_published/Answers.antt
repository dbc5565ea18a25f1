use Rattle.rm_table.proofs.Moments.{seen_holds, told_holds, heard_holds}
use Rattle.rm_table.specs.Meanings.{meanings}
use Rattle.rm_table.proofs.laws.what_is_seen_is_published.Goals as goal

pub returns : goal.returns
returns g c = record {
  seen = seen_holds _;
  told = told_holds _;
  heard = heard_holds (meanings g.E.Numbered g.B.Kept);
}
