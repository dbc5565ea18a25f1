use Rattle.std.proofs.Common.{refl}
use Rattle.dyn_states.specs.Lines.{place_of, same_line}
use Rattle.dyn_states.proofs.lines.Lines.put.Goals as goal

pub returns-in-Some-clause-places : goal.returns-in-Some-clause-places
unfolding place_of same_line
returns-in-Some-clause-places c =
    λ q. ((c.get_mut.follows.holds c.args.place).3 (rw (← c.get_mut.ensures.value) (rw c.in-Some.is refl))).0 q

pub returns-clause-places : goal.returns-clause-places
unfolding place_of same_line
returns-clause-places c = λ q. rw (← c.get_mut.follows.holds-at-none) (c.in-Ok.ensures.updates.0 q)
