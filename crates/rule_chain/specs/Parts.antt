-- The parts of a configuration, as whoever changes it has them.
use Rattle.std.specs.Arc.{arc_value}
use Rattle.fw_rule.specs.Values.{values_of}
use Rattle.rule_chain.specs.Configuration.{Configuration}
use Rattle.rule_chain.specs.declared.config_parts.ConfigParts.{ConfigParts}

-- the configuration that has these parts
abbrev pub configuration_of : ConfigParts → Configuration
configuration_of parts = record {
  rules = parts.rules;
  disabled = parts.disabled;
  tables = arc_value parts.tables;
  locals = (arc_value parts.locals).items;
  values = values_of parts.settings;
  names = (arc_value parts.names).items;
  greatest_id = parts.greatest_id;
  greatest_counter = parts.greatest_counter;
}
