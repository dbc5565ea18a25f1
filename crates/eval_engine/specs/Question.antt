-- What is evaluated: a packet that was captured there, at that second, under the rules of an edition.
use Rattle.std.specs.Prelude.{ℕ, List}
use Rattle.fw_base.specs.declared.port.Port.{Port}
use Rattle.fw_rule.specs.declared.rule.Rule.{Rule}
use Rattle.ip6_headers.specs.declared.any_ip.AnyIp.{AnyIp}
use Rattle.generation_store.specs.Published.{Published}

-- The edition, the packet, where it was captured, and its second.
pub record Question : Type 0 where
  pub edition : Published
  pub packet : AnyIp
  pub port : Port
  pub second : ℕ

-- what a packet that was captured there at that second comes to under an edition
abbrev pub question_under : Published → AnyIp → Port → ℕ → Question
question_under edition packet port second = record { edition = edition; packet = packet; port = port; second = second }

-- the rules that are evaluated
abbrev pub rules_of : Question → List Rule
rules_of q = q.edition.config.rules
