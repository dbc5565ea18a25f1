use Rattle.std.proofs.Common.{rules}
use Rattle.std.proofs.lemmas.Fn.{filter_same}
use Rattle.dyn_states.specs.StateObject as object
use Rattle.dyn_states.proofs.state_rules.keep_ruled.Goals as goal

pub returns-clause-items : goal.returns-clause-items
returns-clause-items c = filter_same _ (object.has_rule_among c.args.rules.now) _ (λ x b f' k. search rules) _ _ c.retain.ensures.filtered
