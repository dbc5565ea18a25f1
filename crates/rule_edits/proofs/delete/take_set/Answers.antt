use Rattle.std.proofs.Common.{rules, Bool, not, ◌||◌, ap, ◌∙◌, map}
use Rattle.std.proofs.lemmas.Fn.{filter_same}
use Rattle.std.specs.Prelude.{◌==◌}
use Rattle.std.specs.Arc.{arc_value}
use Rattle.fw_rule.specs.declared.rule.Rule.{Rule}
use Rattle.rule_edits.proofs.Lists.{filter-map}
use Rattle.rule_edits.proofs.delete.take_set.Goals as goal

pub returns : goal.returns
returns c =
    let kept = filter_same _ (λ x. test (arc_value x)) _ (λ x b f' k. search rules) _ _ c.retain.ensures.filtered in
    ap (map arc_value) kept ∙ filter-map test arc_value _
  where
    test : Rule → Bool
    test rule = not (rule.set == c.args.set) || rule.number == 65535
