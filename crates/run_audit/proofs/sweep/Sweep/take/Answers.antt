use Rattle.std.proofs.Common.{◌≡◌, Some, ap, subst, ◌∙◌, arith, get_or, nat_lt}
use Rattle.std.proofs.lemmas.List.{get_or_read}
use Rattle.run_audit.specs.AskStands.{SweepValue, most_lanes, stand_of}
use Rattle.run_audit.proofs.OwnAsks.{stand_so}
use Rattle.run_audit.proofs.sweep.Sweep.take.Goals as goal

pub index-greatest-requires : goal.index-greatest-requires
unfolding most_lanes
index-greatest-requires c = omega (arith, c.self.invariant)

pub index_mut-requires : goal.index_mut-requires
unfolding most_lanes
index_mut-requires c = omega (arith, c.self.invariant)

pub returns-in-Ask-clause-stand : goal.returns-in-Ask-clause-stand
unfolding most_lanes
returns-in-Ask-clause-stand c =
    let sweep : SweepValue = record { greatest = c.self.inside.greatest.items; after = c.self.inside.after } in
    let read = get_or_read c.self.inside.greatest.items c.from.result c.index-greatest.result.now (omega (arith, c.self.invariant)) c.index-greatest.ensures 0 in
    subst (λ (s : SweepValue). Some (record { lane = c.in-Ask.lane; at = c.in-Ask.at; place = c.args.place; after = c.self.inside.after; is_late = nat_lt c.in-Ask.at c.index-greatest.result.now }) ≡ stand_of s c.args.place c.args.entry.now) c.self.view_is
    (stand_so sweep c.args.place c.args.entry.now c.in-Ask.lane c.in-Ask.at c.in-Ask.op c.in-Ask.reply c.index-greatest.result.now c.in-Ask.is
    (read ∙ ap (λ n. get_or c.self.inside.greatest.items n 0) c.from.ensures))
