use Rattle.rm_table.proofs.Calls.{raise_makes, check_makes, lower_makes, regain_makes}
use Rattle.rm_table.proofs.LockCalls.{take_back_makes, give_back_makes, read_number_makes, revoke_makes, drain_makes, publish_makes, take_book_makes, give_book_makes, split_makes, join_makes, receipt_makes, hear_makes}
use Rattle.rm_table.proofs.laws.each_kind_is_its_event.Goals as goal

pub returns : goal.returns
returns g c = record {
  raise = raise_makes _;
  check = check_makes _;
  lower = lower_makes _;
  take_back = take_back_makes _;
  give_back = give_back_makes _;
  regain = regain_makes _;
  revoke = revoke_makes _;
  drain = drain_makes _;
  read_number = read_number_makes _;
  publish = publish_makes _;
  take_book = take_book_makes _;
  give_book = give_book_makes _;
  split_seat = split_makes _;
  join_seat = join_makes _;
  split_receipt = receipt_makes _;
  join_receipt = hear_makes _;
}
