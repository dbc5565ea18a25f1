use Rattle.std.proofs.Common.{◌∙◌, sym, ap, arith}
use Rattle.std.specs.Fmt.{decimal}
use Rattle.fw_rule.specs.Names.{unreach_names}
use Rattle.rule_text.proofs.Lists.{code_named, code_unnamed}
use Rattle.rule_text.proofs.rule_text.unreach_piece.Goals as goal

pub returns-then-place-lt16 : goal.returns-then-place-lt16
unfolding unreach_names
returns-then-place-lt16 c = code_named c.args.code c.from-place.result _ c.from-place.ensures c.name_at.ensures

pub returns-else-place-lt16 : goal.returns-else-place-lt16
returns-else-place-lt16 c = ap decimal c.from.ensures ∙ sym (code_unnamed c.args.code (omega arith))
