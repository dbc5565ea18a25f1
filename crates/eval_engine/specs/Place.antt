-- A place in an edition's rules.
use Rattle.std.specs.Prelude.{◌≡◌, ℕ, ◌+◌, ◌<◌, ◌≤◌, ⊤, true, false, ◌∷◌, length, drop}
use Rattle.state_asks.specs.declared.op.FlowName.{FlowName}
use Rattle.state_asks.specs.declared.op.FlowName.TheVariants.{Any, Named}
use Rattle.fw_rule.specs.declared.rule.Rule.{Rule}
use Rattle.rule_chain.specs.Chain.{AscendsFrom}
use Rattle.generation_store.specs.Published.{has_identity}
use Rattle.eval_engine.specs.Encounter.{is_rule_met, looks_up, name_at}
use Rattle.eval_engine.specs.Question.{Question, rules_of}

-- the number of a flow name is one of the 64 that there are
abbrev pub IsNumbered : FlowName → Type 0
IsNumbered Any = ⊤
IsNumbered (Named number) = number < 64

-- The rule in this place: its number of flow name, its counter number and its identity are the
-- configuration's.
pub record IsRuleAt (q : Question) (place : ℕ) (rule : Rule) : Type 0 where
  pub there : drop place (rules_of q) ≡ rule ∷ drop (place + 1) (rules_of q)
  pub within : place < length (rules_of q)
  pub few : place < 65535
  pub counter : rule.counter ≤ q.edition.config.greatest_counter
  pub named : IsNumbered (name_at q rule)
  pub ordered : AscendsFrom 1 (rules_of q)
  pub listed : has_identity (rules_of q) rule.id ≡ true

-- a rule of which the gate told all: it looks nothing up, and its body holds
pub record IsTold (q : Question) (rule : Rule) : Type 0 where
  pub plain : looks_up rule ≡ false
  pub held : is_rule_met q rule ≡ true
