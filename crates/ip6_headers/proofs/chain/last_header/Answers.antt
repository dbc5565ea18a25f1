use Rattle.std.proofs.Common.{arith}
use Rattle.ip6_headers.proofs.Walks.{begins, goes_on_to, ends_at, last-found}
use Rattle.ip6_headers.proofs.chain.last_header.Goals as goal

pub loop-next-init : goal.loop-next-init
loop-next-init c = begins c.args.packet.now (omega arith)

pub loop-next-preserved : goal.loop-next-preserved
loop-next-preserved c =
    goes_on_to c.args.packet.now c.loop-next.header c.in-Some.next c.next_header.result c.loop-next.invariant c.next_header.ensures.value c.in-Some.is c.in-Some.ensures.within c.in-Some.ensures.further

pub returns-clause-found : goal.returns-clause-found
returns-clause-found c =
    ends_at c.args.packet.now c.loop-next.header c.next_header.result c.loop-next.invariant c.next_header.ensures.value c.in_default.is

pub returns-clause-value : goal.returns-clause-value
returns-clause-value c = last-found c.args.packet.now c.loop-next.header (returns-clause-found c)
