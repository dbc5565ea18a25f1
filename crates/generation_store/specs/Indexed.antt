-- What an edition keeps beside its configuration, so that what an evaluation asks is looked up.
use Rattle.std.specs.Prelude.{◌≡◌, ℕ, Option, Some, List, map}
use Rattle.std.specs.Arc.{arc_value}
use Rattle.fw_rule.specs.declared.rule.Rule.{Rule}
use Rattle.rule_gates.specs.Cacheable.{is_cacheable}
use Rattle.rule_gates.specs.Gates.{AreGates}
use Rattle.generation_store.specs.declared.index.Index.{Index}
use Rattle.generation_store.specs.Jumps.{jumps_of}
use Rattle.generation_store.specs.Published.{Published, AreFacts, place_of_rule, flow_name}

-- the place of the rule of an identity, where there is one
abbrev pub some_place : ℕ → Option ℕ
some_place place = Some place

-- The index of these rules, flow names and identities: a jump for each rule, the place of the rule of each
-- identity, the flow name that each rule looks up, a gate for each rule, and whether each ends the search.
pub record IsIndexOf (rules : List Rule) (names : List (List ℕ)) (identities : List ℕ) (index : Index) : Type 0 where
  pub jumping : index.jumps.items ≡ jumps_of rules
  pub placing : map some_place index.places.items ≡ map (λ id. place_of_rule id rules) identities
  pub naming : index.names.items ≡ map (flow_name names) rules
  pub gating : AreGates rules (arc_value index.gates)
  pub cacheable : index.is_cacheable ≡ is_cacheable rules

-- the facts of the publication, and the index of its rules
pub record IsIndexed (edition : Published) (index : Index) : Type 0 where
  pub factual : AreFacts edition.number edition.config edition.facts
  pub indexing : IsIndexOf edition.config.rules edition.config.names edition.facts.rules index
