use Rattle.std.proofs.Common.{refl}
use Rattle.fw_base.proofs.Texts.{starts}
use Rattle.rule_text.proofs.WriteSteps.{goes, breaks_off, finishes}
use Rattle.view_driver.specs.MovesText.{counts_text}
use Rattle.view_driver.proofs.moves_text.write_counts.Goals as goal

pub returns-in_err-write_count : goal.returns-in_err-write_count
unfolding counts_text
returns-in_err-write_count g c = breaks_off _ _ _ (starts _ _) refl c.in_err-write_count.was c.write_count.ensures c.from_residual.ensures.1

pub returns-in_err-write_count-2 : goal.returns-in_err-write_count-2
unfolding counts_text
returns-in_err-write_count-2 g c =
    breaks_off _ _ _ (goes _ (starts _ _)
    refl c.in_ok-write_count.was c.write_count.ensures)
    refl c.in_err-write_count-2.was c.write_count-2.ensures c.from_residual-in_err-write_count-2.ensures.1

pub returns : goal.returns
unfolding counts_text
returns g c =
    finishes _ (goes _ (goes _ (starts _ _)
    refl c.in_ok-write_count.was c.write_count.ensures)
    refl c.in_ok-write_count-2.was c.write_count-2.ensures) refl c.write_count-3.ensures
