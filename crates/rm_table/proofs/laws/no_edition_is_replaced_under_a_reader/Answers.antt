use Rattle.rm_table.proofs.Moments.{away_holds, apart_holds, home_holds}
use Rattle.rm_table.proofs.laws.no_edition_is_replaced_under_a_reader.Goals as goal

pub returns : goal.returns
returns g c = record {
  away = away_holds _;
  apart = apart_holds _;
  home = home_holds _;
}
