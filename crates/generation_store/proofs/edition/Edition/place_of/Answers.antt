use Rattle.std.proofs.Common.{◌≡◌, true, false, sym, ◌∙◌}
use Rattle.std.proofs.lemmas.List.Sorted.{searched}
use Rattle.std.specs.Arc.{arc_value}
use Rattle.state_asks.specs.Facts.{is_rule_list}
use Rattle.state_asks.specs.RuleLists.{has_id}
use Rattle.generation_store.proofs.Ordered.{not_falling, not_among}
use Rattle.generation_store.proofs.Places.{place_at, no_place_of}
use Rattle.generation_store.proofs.edition.Edition.place_of.Goals as goal

pub returns-in-Ok : goal.returns-in-Ok
returns-in-Ok c =
    let ids = c.self.inside.facts.rules in
    let rising : is_rule_list ids ≡ true = c.self.inside.facts.ordered in
    let found = rw c.in-Ok.is at (searched ids c.args.id c.binary_search.result (rw c.as_slice.ensures at c.binary_search.ensures.position) (λ i j le within. not_falling ids i j rising le within)) in
    let place = place_at c.self.inside.config.rules (arc_value c.self.inside.index).places.items ids c.in-Ok.index c.index.result.now c.self.invariant.indexing.placing found.0 in
    rw (← c.self.view_is) (sym (rw (found.1, ← c.deref.ensures, sym c.index.ensures) at place))

pub returns-in-Err : goal.returns-in-Err
returns-in-Err c =
    let ids = c.self.inside.facts.rules in
    let rising : is_rule_list ids ≡ true = c.self.inside.facts.ordered in
    let apart = rw c.in-Err.is at (searched ids c.args.id c.binary_search.result (rw c.as_slice.ensures at c.binary_search.ensures.position) (λ i j le within. not_falling ids i j rising le within)) in
    let none : has_id ids c.args.id ≡ false = not_among ids c.args.id c.in-Err.field-0 apart.1 apart.2 in
    rw (← c.self.view_is) (sym (no_place_of c.self.inside.config.rules c.args.id (sym (c.self.invariant.factual.identified c.args.id) ∙ none)))
