use Rattle.std.proofs.Common.{ap, ◌∙◌, codes}
use Rattle.std.specs.List.{join_with_byte}
use Rattle.fw_base.proofs.Texts.{starts}
use Rattle.rule_text.specs.Canonical.{spaced_text, test_words, numbers_where}
use Rattle.fw_rule.specs.TypeSet.{has_type}
use Rattle.fw_rule.specs.declared.test.Test.{Test}
use Rattle.rule_text.proofs.Lists.{spaced-pair}
use Rattle.rule_text.proofs.WriteSteps.{finishes}
use Rattle.rule_text.proofs.options.write_test.Goals as goal

pub returns-in-Icmp6Types : goal.returns-in-Icmp6Types
returns-in-Icmp6Types g c =
    finishes _ (starts _ _)
    (ap (λ (t : Test). spaced_text (test_words t)) c.in-Icmp6Types.is ∙ spaced-pair (codes "icmp6types") (join_with_byte 44 (numbers_where (has_type c.in-Icmp6Types.types) 256 0)))
    c.write_type_numbers.ensures
