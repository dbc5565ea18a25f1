use Rattle.std.proofs.Common.{rules, map, sym}
use Rattle.std.proofs.lemmas.List.Sorted.{IsNonDecreasingBy-from_sort_by_key}
use Rattle.std.specs.Arc.{arc_value}
use Rattle.std.specs.List.Sorted.{IsPermutation}
use Rattle.generation_store.specs.Placing.{identity_of, placed_from}
use Rattle.generation_store.proofs.Places.{placed_in_order}
use Rattle.generation_store.proofs.placed.by_identity.Goals as goal

pub returns : goal.returns
returns c =
    let sorted = c.sort_by_key.new.self.items in
    let all = map arc_value c.args.rules.now in
    let moved : IsPermutation (placed_from 0 all) sorted = rw (sym c.in_ok-placed.ensures) c.sort_by_key.ensures.permutation in
    let rising = IsNonDecreasingBy-from_sort_by_key identity_of sorted c.in_ok-sort_by_key.ensures.sorted (λ a r q k. search rules) in
    placed_in_order all sorted c.requires.ordered c.requires.distinct moved rising
