-- A configuration of the packet filter (ipfw(8), "RULESET", "SETS OF RULES", "LOOKUP TABLES", "SYSCTL VARIABLES").
use Rattle.std.specs.Prelude.{◌≡◌, ℕ, List}
use Rattle.fw_base.specs.declared.address.Addr.{Addr}
use Rattle.fw_rule.specs.Values.{Values}
use Rattle.fw_rule.specs.declared.rule.Rule.{Rule}
use Rattle.lookup_tables.specs.Tables.{NamedTables}

-- The rules in order; the disabled sets, as the bits of a mask; the tables under their names; the host's
-- addresses; the settings; the flow names by their numbers; and the greatest identity and the greatest counter number that were given out.
pub record Configuration : Type 0 where
  pub rules : List Rule
  pub disabled : ℕ
  pub tables : NamedTables
  pub locals : List Addr
  pub values : Values
  pub names : List (List ℕ)
  pub greatest_id : ℕ
  pub greatest_counter : ℕ

-- the one configuration has the rules and the flow names of the other
pub record HasRulesOf (before after : Configuration) : Type 0 where
  pub rules : after.rules ≡ before.rules
  pub names : after.names ≡ before.names
