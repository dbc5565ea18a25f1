use Rattle.std.proofs.Common.{arith}
use Rattle.live_replay.proofs.Posted.{stays_posted, admits_in, refused_of, posted_again, number_rises}
use Rattle.live_replay.proofs.lane_steps.admitted.Goals as goal

pub loop-inside-init : goal.loop-inside-init
loop-inside-init g c = stays_posted c.args.world.now c.args.lane c.requires

pub enter-requires : goal.enter-requires
enter-requires g c = record { lane = c.loop-inside.invariant.posted.of_world }

pub returns-in-In : goal.returns-in-In
returns-in-In g c = admits_in c.args.world.now c.args.lane c.loop-inside.lane c.in-In.inside c.loop-inside.invariant c.in-In.ensures.entry

pub regain-lane-requires-clause-lane : goal.regain-lane-requires-clause-lane
regain-lane-requires-clause-lane g c = refused_of c.args.world.now c.args.lane c.loop-inside.lane c.in-Revoked.refused c.in-Revoked._number c.loop-inside.invariant c.in-Revoked.ensures.entry

pub loop-inside-smaller : goal.loop-inside-smaller
loop-inside-smaller g c =
    let rises = number_rises c.args.world.now c.args.lane c.loop-inside.lane c.in-Revoked.refused c.regain-lane.result c.in-Revoked._number c.loop-inside.invariant c.in-Revoked.ensures.entry c.regain-lane.ensures.regained in
    omega (arith, rises, c.number_fits.ensures)

pub loop-inside-preserved : goal.loop-inside-preserved
loop-inside-preserved g c = posted_again c.args.world.now c.args.lane c.loop-inside.lane c.in-Revoked.refused c.regain-lane.result c.in-Revoked._number c.loop-inside.invariant c.in-Revoked.ensures.entry c.regain-lane.ensures.regained
