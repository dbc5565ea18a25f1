use Rattle.std.proofs.Common.{ℕ, ap, sym, subst, arith}
use Rattle.std.specs.Arc.{arc_value}
use Rattle.shared_world.proofs.world.World.publish_prepared.Goals as goal
use Rattle.shared_world.specs.DeskKept.{AreShares, DeskView}

pub publish_shares-operator-requires-clause-next : goal.publish_shares-operator-requires-clause-next
publish_shares-operator-requires-clause-next g c =
    let visits = c.ready_book-operator.ensures.visits in
    let count = ap (λ (d : DeskView). d.count) visits.same in
    let number = ap (λ (d : DeskView). d.number) visits.same in (
      arc_value c.args.next.edition,
      subst (λ (n : ℕ). AreShares (arc_value c.args.next.edition) n c.args.next.shares.items) (sym count) c.requires.next.shares,
      c.requires.next.lawful,
      omega (arith, c.requires.next.numbered, number),
      c.requires.next.facts,
    )
