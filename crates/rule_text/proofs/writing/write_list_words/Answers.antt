use Rattle.std.proofs.Common.{map, refl}
use Rattle.std.specs.List.{join_with_byte}
use Rattle.fw_base.proofs.Texts.{starts}
use Rattle.rule_text.proofs.Lists.{spaced-list_words}
use Rattle.rule_text.proofs.WriteSteps.{goes, breaks_off, finishes}
use Rattle.rule_text.proofs.writing.write_list_words.Goals as goal

pub returns-in_err-write_text : goal.returns-in_err-write_text
returns-in_err-write_text g c =
    let split = spaced-list_words c.args.negated (map g.T.Element.text c.args.items.now) in
    breaks_off _ _ (join_with_byte 44 (map g.T.Element.text c.args.items.now)) (starts _ _) (rw (← c.list_start.ensures) at split) c.in_err-write_text.was c.write_text.ensures c.from_residual.ensures.1

pub returns : goal.returns
returns g c =
    let split = spaced-list_words c.args.negated (map g.T.Element.text c.args.items.now) in
    finishes _ (goes _ (starts _ _) (rw (← c.list_start.ensures) at split) c.in_ok-write_text.was c.write_text.ensures) refl c.write_joined.ensures
