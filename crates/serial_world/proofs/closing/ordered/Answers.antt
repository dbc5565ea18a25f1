use Rattle.std.proofs.Common.{rules}
use Rattle.std.proofs.lemmas.List.Sorted.{IsNonDecreasingBy-from_sort_by_key}
use Rattle.fw_world.proofs.Arranging.{stand-sorted}
use Rattle.serial_world.proofs.closing.ordered.Goals as goal

pub returns-clause-lanes : goal.returns-clause-lanes
returns-clause-lanes c = λ ordered stand.
    stand-sorted (λ lane. lane.place) 1 c.args.lanes.items ordered stand c.sort_unstable_by_key.new.self.items c.sort_unstable_by_key.ensures.permutation
    (IsNonDecreasingBy-from_sort_by_key (λ lane. lane.place) _ c.sort_unstable_by_key.ensures.sorted (λ a r q k. search rules))
