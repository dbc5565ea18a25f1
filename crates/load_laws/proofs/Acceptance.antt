-- Each command of a load's script is accepted.
use Rattle.std.proofs.Common.{refl}
use Rattle.rule_edits.specs.Apply.{add_rule, delete_rules}
use Rattle.rule_edits.specs.NewNames.{with_name_of}
use Rattle.rule_edits.specs.Rules.{insert_rule}
use Rattle.load_laws.specs.Laws.{MadeScriptsAreAccepted}

-- each of them is accepted by the configuration that those before it left
pub scripts_accepted : MadeScriptsAreAccepted
unfolding add_rule delete_rules with_name_of insert_rule
scripts_accepted n = (_, refl, (_, refl, (_, refl, (_, refl, (_, refl, (_, refl, tt))))))
