-- What holds in every configuration.
use Rattle.std.specs.Prelude.{◌≡◌, ◌≢◌, ℕ, ◌<◌, ◌≤◌, ⊤, IfSome, List, [], ◌∷◌, length, slice_index_or}
use Rattle.std.specs.List.{AllByRecursion}
use Rattle.fw_rule.specs.WellFormed.{IsNumber, IsSet, IsAction, IsValue, HasBody}
use Rattle.fw_rule.specs.declared.rule.Rule.{Rule}
use Rattle.rule_chain.specs.Configuration.{Configuration}
use Rattle.rule_chain.specs.Names.{AreNames, IsNamed}
use Rattle.rule_chain.specs.LastRule.{last_rule}

-- The numbers ascend from the least on, equal ones among them; the last rule is rule 65535, and no
-- other has its number.
abbrev pub AscendsFrom : ℕ → List Rule → Type 0
AscendsFrom least [] = ⊥
AscendsFrom least (rule ∷ []) = rule ≡ last_rule rule.counter
AscendsFrom least (rule ∷ next ∷ rules) = (least ≤ rule.number) × (rule.number < 65535) × AscendsFrom rule.number (next ∷ rules)

-- no two of the rules have one value of the key
abbrev pub DifferBy : (Rule → ℕ) → List Rule → Type 0
DifferBy key [] = ⊤
DifferBy key (rule ∷ rules) = AllByRecursion (λ other. key other ≢ key rule) rules × DifferBy key rules

-- no two of the rules have one identity
abbrev pub HaveOwnIds : List Rule → Type 0
HaveOwnIds rules = DifferBy (λ rule. rule.id) rules

-- no two of the rules have one counter number
abbrev pub DifferInCounters : List Rule → Type 0
DifferInCounters rules = DifferBy (λ rule. rule.counter) rules

-- of two rules of a list the one before hasn't the greater number
abbrev pub StandInOrder : List Rule → Type 0
StandInOrder rules = (i j : ℕ) (d : Rule) → i < j → j < length rules
    → (slice_index_or rules i d).number ≤ (slice_index_or rules j d).number

-- two rules in two places of a list have two identities
abbrev pub HaveOwnIdentities : List Rule → Type 0
HaveOwnIdentities rules = (i j : ℕ) (d : Rule) → i < j → j < length rules
    → (slice_index_or rules i d).id ≢ (slice_index_or rules j d).id

-- two rules in two places of a list have two counter numbers
abbrev pub HaveOwnCounters : List Rule → Type 0
HaveOwnCounters rules = (i j : ℕ) (d : Rule) → i < j → j < length rules
    → (slice_index_or rules i d).counter ≢ (slice_index_or rules j d).counter

-- each number of the rule is in its range, and its identity and its counter number were given out
pub record IsRule (greatest_id greatest_counter : ℕ) (rule : Rule) : Type 0 where
  pub number : IsNumber rule.number
  pub set : IsSet rule.set
  pub id : rule.id ≤ greatest_id
  pub counter : rule.counter ≤ greatest_counter
  pub action : IsAction rule.action
  pub log : IfSome rule.log IsValue
  pub body : HasBody rule.action rule.body

-- rules in number order with rule 65535 at their end, each with an identity and a counter number of its
-- own and a flow name that has a number, within the limits; set 31 isn't disabled
pub record IsConfiguration (c : Configuration) : Type 0 where
  pub ordered : AscendsFrom 1 c.rules
  pub rules : AllByRecursion (IsRule c.greatest_id c.greatest_counter) c.rules
  pub distinct : HaveOwnIds c.rules
  pub counted : DifferInCounters c.rules
  pub names : AreNames c.names
  pub named : AllByRecursion (IsNamed c.names) c.rules
  pub held : length c.rules ≤ 65535
  pub ids : c.greatest_id ≤ c.greatest_counter
  pub counters : c.greatest_counter < 16777216
  pub disabled : c.disabled < 2147483648
