use Rattle.std.proofs.Common.{sym, ap, ◌∙◌, ◌≡◌, ◌+◌, List, length, arith}
use Rattle.std.specs.Arc.{arc_value}
use Rattle.fw_rule.specs.declared.rule.Rule.{Rule}
use Rattle.rule_chain.proofs.Lists.{map_length}
use Rattle.eval_engine.proofs.Configured.{none_above}
use Rattle.eval_engine.proofs.encounter.first_behind.Goals as goal

pub returns-in-None : goal.returns-in-None
returns-in-None c =
    let last : c.args.number + 1 ≡ 65536 = let fits = c.ranges.number.fits in let past = c.in-None.ensures in omega arith in
    rw last (sym (map_length arc_value c.rules.result.now) ∙ ap (λ (rs : List Rule). length rs) c.rules.ensures.value ∙ sym (none_above c.args.question.now c.rules.ensures.lawful))
