use Rattle.rm_table.proofs.Moments.{reading_holds, staying_holds}
use Rattle.rm_table.proofs.laws.readers_read_what_is_published.Goals as goal

pub returns : goal.returns
returns g c = record {
  reading = reading_holds _;
  staying = staying_holds _;
}
