use Rattle.std.proofs.Common.{◌∙◌, ap, refl}
use Rattle.fw_base.proofs.Texts.{starts}
use Rattle.rule_text.proofs.WriteSteps.{goes, breaks_off, finishes}
use Rattle.view_driver.specs.MovesTold.{records_told}
use Rattle.view_driver.specs.MovesText.{compared_text}
use Rattle.view_driver.proofs.moves_text.write_compared.Goals as goal

pub returns-in_err-write_counts : goal.returns-in_err-write_counts
unfolding compared_text
returns-in_err-write_counts g c =
    let moved = c.records_of.ensures ∙ ap records_told c.as_slice-moved.ensures.value in
    let stayed = c.records_of-2.ensures ∙ ap records_told c.as_slice-stayed.ensures.value in
    let counts = rw (moved, stayed) at c.write_counts.ensures in
    breaks_off _ _ _ (starts _ _) refl c.in_err-write_counts.was counts c.from_residual.ensures.1

pub returns-in_err-write_moved : goal.returns-in_err-write_moved
unfolding compared_text
returns-in_err-write_moved g c =
    let moved = c.records_of.ensures ∙ ap records_told c.as_slice-moved.ensures.value in
    let stayed = c.records_of-2.ensures ∙ ap records_told c.as_slice-stayed.ensures.value in
    let counts = rw (moved, stayed) at c.write_counts.ensures in
    let moves = rw (c.as_slice-texts.ensures.value, c.as_slice-moved.ensures.value, c.flows_told-flows.ensures) at c.write_moved.ensures in
    breaks_off _ _ _ (goes _ (starts _ _) refl c.in_ok-write_counts.was counts) refl c.in_err-write_moved.was moves c.from_residual-in_err-write_moved.ensures.1

pub returns : goal.returns
unfolding compared_text
returns g c =
    let moved = c.records_of.ensures ∙ ap records_told c.as_slice-moved.ensures.value in
    let stayed = c.records_of-2.ensures ∙ ap records_told c.as_slice-stayed.ensures.value in
    let counts = rw (moved, stayed) at c.write_counts.ensures in
    let moves = rw (c.as_slice-texts.ensures.value, c.as_slice-moved.ensures.value, c.flows_told-flows.ensures) at c.write_moved.ensures in
    let rest = rw (c.as_slice-texts.ensures.value, c.as_slice-stayed.ensures.value) at c.write_stayed.ensures in
    finishes _ (goes _ (goes _ (starts _ _) refl c.in_ok-write_counts.was counts) refl c.in_ok-write_moved.was moves) refl rest
