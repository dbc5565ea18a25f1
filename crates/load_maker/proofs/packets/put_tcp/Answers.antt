use Rattle.std.proofs.Common.{append-nil}
use Rattle.load_maker.specs.Packets.{tcp_packet}
use Rattle.load_maker.proofs.packets.put_tcp.Goals as goal

pub returns : goal.returns
unfolding tcp_packet
returns c = rw (c.put.ensures, c.header_start-start.ensures, c.tcp_end-end.ensures, c.to_be_bytes-source.ensures, c.to_be_bytes-destination.ensures, c.to_be_bytes-port.ensures, c.to_be_bytes-other.ensures) (simp append-nil)
