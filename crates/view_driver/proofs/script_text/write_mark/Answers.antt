use Rattle.std.proofs.Common.{refl}
use Rattle.fw_base.proofs.Texts.{starts}
use Rattle.rule_text.proofs.WriteSteps.{goes, breaks_off, finishes}
use Rattle.view_driver.specs.ReviewText.{mark_text}
use Rattle.view_driver.proofs.script_text.write_mark.Goals as goal

pub returns-in_err-write_under : goal.returns-in_err-write_under
unfolding mark_text
returns-in_err-write_under g c =
    breaks_off _ _ _ (starts _ _) refl c.in_err-write_under.was (rw (c.front_of.ensures, c.saturating_sub-before.ensures) at c.write_under.ensures) c.from_residual.ensures.1

pub returns-in_err-write_spaces : goal.returns-in_err-write_spaces
unfolding mark_text
returns-in_err-write_spaces g c =
    let under = goes _ (starts _ _) refl c.in_ok-write_under.was (rw (c.front_of.ensures, c.saturating_sub-before.ensures) at c.write_under.ensures) in
    breaks_off _ _ _ under refl c.in_err-write_spaces.was (rw (c.saturating_sub.ensures, c.saturating_sub-before.ensures) at c.write_spaces.ensures) c.from_residual-in_err-write_spaces.ensures.1

pub returns : goal.returns
unfolding mark_text
returns g c =
    let under = goes _ (starts _ _) refl c.in_ok-write_under.was (rw (c.front_of.ensures, c.saturating_sub-before.ensures) at c.write_under.ensures) in
    let blanks = goes _ under refl c.in_ok-write_spaces.was (rw (c.saturating_sub.ensures, c.saturating_sub-before.ensures) at c.write_spaces.ensures) in
    finishes _ blanks refl c.write_text.ensures
