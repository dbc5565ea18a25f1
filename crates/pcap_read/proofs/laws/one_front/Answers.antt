use Rattle.pcap_read.proofs.OneFront.{front_exists, front_unique, front_whole, front_grows, front_stays}
use Rattle.pcap_read.proofs.laws.one_front.Goals as goal

pub returns : goal.returns
returns c = record { exists = front_exists; unique = front_unique; whole = front_whole; grows = front_grows; stays = front_stays }
