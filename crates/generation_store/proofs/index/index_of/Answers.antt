use Rattle.std.proofs.Common.{ℕ, List, map, sym, ap, subst, ◌∙◌}
use Rattle.generation_store.specs.Indexed.{IsIndexOf, some_place}
use Rattle.generation_store.specs.Placing.{identity_of}
use Rattle.generation_store.specs.declared.index.Index.{Index}
use Rattle.generation_store.proofs.Places.{places_of_ids}
use Rattle.generation_store.proofs.index.index_of.Goals as goal

pub returns : goal.returns
returns c =
    let rules = c.args.config.now.rules in
    let placed = c.args.placed.now in
    subst (λ (index : Index). IsIndexOf rules c.args.config.now.names (map identity_of placed) index) (sym c.in_ok-new.ensures.ok)
    (record {
      jumping = rw (sym c.rules.ensures.value) c.in_ok-jumps.ensures;
      placing = ap (λ (places : List ℕ). map some_place places) c.in_ok-places.ensures ∙ places_of_ids rules placed c.requires.placed.found;
      naming = rw (sym c.rules-2.ensures.value, sym c.names.ensures.value) c.in_ok-names.ensures;
      gating = c.requires.gates;
      cacheable = rw (sym c.rules-3.ensures.value) c.is_cacheable.ensures;
    })
