-- The configuration that stands before any command (ipfw(8), "RULESET").
use Rattle.std.specs.Prelude.{[], ◌∷◌}
use Rattle.fw_rule.specs.FlowName.{default_flow}
use Rattle.fw_rule.specs.Values.{default_values}
use Rattle.rule_chain.specs.Configuration.{Configuration}
use Rattle.rule_chain.specs.LastRule.{last_rule}

-- rule 65535 alone, no set disabled, no table, no flow name but `default`
abbrev pub first_configuration : Configuration
first_configuration = record {
  rules = last_rule 0 ∷ [];
  disabled = 0;
  tables = [];
  locals = [];
  values = default_values;
  names = default_flow ∷ [];
  greatest_id = 0;
  greatest_counter = 0;
}
