-- The places of the rules, in the order of their identities.
use Rattle.std.specs.Prelude.{◌≡◌, ℕ, ◌+◌, true, Some, List, [], ◌∷◌, map, All}
use Rattle.fw_rule.specs.declared.rule.Rule.{Rule}
use Rattle.state_asks.specs.Facts.{is_rule_list}
use Rattle.state_asks.specs.RuleLists.{has_id}
use Rattle.generation_store.specs.Published.{has_identity, place_of_rule}
use Rattle.generation_store.specs.declared.placed.Placed.{Placed}

-- the identity of a rule with its place
abbrev pub identity_of : Placed → ℕ
identity_of placed = placed.identity

-- the place of a rule with its identity
abbrev pub place_alone : Placed → ℕ
place_alone placed = placed.place

-- the places of these rules in their order, the first of them in this place
unfoldable pub placed_from : ℕ → List Rule → List Placed
placed_from place [] = []
placed_from place (rule ∷ rules) = record { identity = rule.id; place = place } ∷ placed_from (place + 1) rules

-- the identities ascend from that of rule 65535, they are those of the rules, and each stands with its place
pub record ArePlaced (rules : List Rule) (placed : List Placed) : Type 0 where
  pub ascending : is_rule_list (map identity_of placed) ≡ true
  pub whole : (id : ℕ) → has_id (map identity_of placed) id ≡ has_identity rules id
  pub found : All (λ p. place_of_rule p.identity rules ≡ Some p.place) placed
