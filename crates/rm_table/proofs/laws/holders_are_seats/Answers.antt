use Rattle.rm_table.proofs.Moments.{seat_holds, operator_holds, place_holds, behind_holds, book_holds}
use Rattle.rm_table.proofs.laws.holders_are_seats.Goals as goal

pub returns : goal.returns
returns g c = record {
  seats = seat_holds _;
  operator = operator_holds _;
  places = place_holds _;
  behind = behind_holds _;
  book = book_holds _;
}
