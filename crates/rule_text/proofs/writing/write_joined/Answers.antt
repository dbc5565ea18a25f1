use Rattle.std.proofs.Common.{◌++◌, ◌+◌, drop, map, ap, sym}
use Rattle.fw_base.proofs.Texts.{starts}
use Rattle.rule_text.proofs.Lists.{behind_bytes, join-first, behind_bytes-drop}
use Rattle.rule_text.proofs.WriteSteps.{goes, breaks_off}
use Rattle.rule_text.proofs.writing.write_joined.Goals as goal

pub returns-in_err-write : goal.returns-in_err-write
returns-in_err-write g c =
    breaks_off _ _ _ (starts _ _) (join-first _ g.T.Element.text _ _ _ c.in-Some.ensures.cases.0) c.in_err-write.was c.write.ensures c.from_residual.ensures.1

pub loop-item-init : goal.loop-item-init
loop-item-init g c = goes _ (starts _ _) (join-first _ g.T.Element.text _ _ _ c.in-Some.ensures.cases.0) c.in_ok-write.was c.write.ensures

pub returns-in_err-write_text : goal.returns-in_err-write_text
returns-in_err-write_text g c =
    breaks_off _ _ _ c.loop-item.invariant (behind_bytes-drop _ g.T.Element.text _ _ c.item-item.result c.loop-item-test.true) c.in_err-write_text.was c.write_text.ensures c.from_residual-in_err-write_text.ensures.1

pub returns-in_err-write-2 : goal.returns-in_err-write-2
returns-in_err-write-2 g c =
    breaks_off _ _ (behind_bytes c.args.between (map g.T.Element.text (drop (c.loop-item.item-index + 1) c.in-Some.others.now)))
    (goes _ c.loop-item.invariant (behind_bytes-drop _ g.T.Element.text _ _ c.item-item.result c.loop-item-test.true) c.in_ok-write_text.was c.write_text.ensures)
    (ap (λ item. g.T.Element.text item ++ behind_bytes c.args.between (map g.T.Element.text (drop (c.loop-item.item-index + 1) c.in-Some.others.now))) (sym c.item-item.is))
    c.in_err-write-2.was c.write-in-loop-item.ensures c.from_residual-in_err-write-2.ensures.1

pub loop-item-preserved : goal.loop-item-preserved
loop-item-preserved g c =
    goes _ (goes _ c.loop-item.invariant (behind_bytes-drop _ g.T.Element.text _ _ c.item-item.result c.loop-item-test.true) c.in_ok-write_text.was c.write_text.ensures)
    (ap (λ item. g.T.Element.text item ++ behind_bytes c.args.between (map g.T.Element.text (drop (c.loop-item.item-index + 1) c.in-Some.others.now))) (sym c.item-item.is))
    c.in_ok-write-2.was c.write-in-loop-item.ensures
