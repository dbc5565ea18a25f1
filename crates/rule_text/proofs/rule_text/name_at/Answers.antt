use Rattle.rule_text.proofs.Lists.{name_at}
use Rattle.rule_text.proofs.rule_text.name_at.Goals as goal

pub returns : goal.returns
returns c = name_at _ _ _ c.requires
