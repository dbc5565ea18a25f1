-- An edition: a configuration that was published under a number (ipfw(8), "RULESET").
use Rattle.std.specs.Prelude.{◌≡◌, ℕ, Bool, ◌==◌, Option, Some, None, List, position}
use Rattle.std.specs.List.{list_any}
use Rattle.fw_rule.specs.Values.{values_of}
use Rattle.fw_rule.specs.declared.rule.Rule.{Rule}
use Rattle.rule_chain.specs.Configuration.{Configuration}
use Rattle.rule_chain.specs.Names.{name_of, number_of_name}
use Rattle.state_asks.specs.RuleLists.{has_id}
use Rattle.state_asks.specs.declared.facts.Facts.{Facts}
use Rattle.state_asks.specs.declared.op.FlowName.{FlowName}
use Rattle.state_asks.specs.declared.op.FlowName.TheVariants.{Any, Named}

-- the number of an edition, its configuration, and what its publication tells the states
pub record Published : Type 0 where
  pub number : ℕ
  pub config : Configuration
  pub facts : Facts

-- the rule has this identity
abbrev pub is_identity : ℕ → Rule → Bool
is_identity id rule = rule.id == id

-- some rule has this identity
abbrev pub has_identity : List Rule → ℕ → Bool
has_identity rules id = list_any (is_identity id) rules

-- The facts of a publication are its number, the identities of its rules, and its settings. There is one
-- value of them, since identities ascend strictly in all facts.
pub record AreFacts (number : ℕ) (config : Configuration) (facts : Facts) : Type 0 where
  pub numbered : facts.number ≡ number
  pub identified : (id : ℕ) → has_id facts.rules id ≡ has_identity config.rules id
  pub set : values_of facts.settings ≡ config.values

-- the edition has the facts of its configuration
abbrev pub IsEdition : Published → Type 0
IsEdition edition = AreFacts edition.number edition.config edition.facts

-- the place of the rule of this identity
abbrev pub place_of_rule : ℕ → List Rule → Option ℕ
place_of_rule id rules = position (is_identity id) rules

-- a name by its number among the flow names; `:any`, which has none, is every name
abbrev pub numbered_name : List (List ℕ) → Option (List ℕ) → FlowName
numbered_name names None = Any
numbered_name names (Some name) = Named (number_of_name names name)

-- the flow name that a rule looks up (ipfw(8), "STATEFUL FIREWALL")
abbrev pub flow_name : List (List ℕ) → Rule → FlowName
flow_name names rule = numbered_name names (name_of rule.action rule.body)

-- the edition of this number and this configuration
pub record IsBuilt (number : ℕ) (config : Configuration) (edition : Published) : Type 0 where
  pub numbered : edition.number ≡ number
  pub configured : edition.config ≡ config
  pub factual : IsEdition edition
