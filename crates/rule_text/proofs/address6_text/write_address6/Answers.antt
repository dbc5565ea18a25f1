use Rattle.std.proofs.Common.{sym, ap}
use Rattle.fw_base.proofs.Texts.{starts}
use Rattle.rule_text.specs.Address6Text.{address6_text, groups_text}
use Rattle.rule_text.proofs.WriteSteps.{finishes}
use Rattle.rule_text.proofs.address6_text.write_address6.Goals as goal

pub returns : goal.returns
unfolding address6_text
returns g c = finishes _ (starts _ _) (ap groups_text (sym c.groups.ensures)) c.write_groups.ensures
