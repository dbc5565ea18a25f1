use Rattle.std.proofs.Common.{◌+◌, ◌*◌, ◌/◌, ◌≤◌, arith}
use Rattle.dyn_states.proofs.state_table.StateTable.open.Goals as goal

pub returns-clause-table : goal.returns-clause-table
returns-clause-table c =
    let half : c.args.most ≤ 2 * (c.args.most / 2 + 8192) = omega arith in
    let empty = c.in_ok-with_capacity.ensures.items in
    record {
      leads = rw empty (record { here = λ k inside held. absurd (omega arith); names = λ k inside held. absurd (omega arith); ends = let h = c.in_ok-open.ensures.ends in omega arith; count = let h = c.in_ok-open.ensures.count in omega arith });
      serves = rw empty (record { served = λ k inside held. absurd (omega arith); order = c.in_ok-open-2.ensures.order });
      tallied = rw empty c.in_ok-open-3.ensures.none;
      room = record {
        slots = let h = c.in_ok-with_capacity.ensures in omega arith;
        lines = let h = c.in_ok-open.ensures.room in let g = c.in_ok-open.ensures.count in omega arith;
        queue = let h = c.in_ok-open-2.ensures.room in omega arith;
        tallies = c.in_ok-open-3.ensures.memory;
        pairs = let h = c.in_ok-open-3.ensures.room in omega arith;
        few = let h = c.in_ok-with_capacity.ensures.len in omega arith;
        entries = let h = c.in_ok-open-2.ensures.count in omega arith;
        small = c.requires;
      };
    }
