use Rattle.std.proofs.Common.{refl, ℕ, ◌++◌, ap, sym}
use Rattle.view_driver.specs.MovesText.{moved_heading, moved_texts}
use Rattle.fw_base.proofs.Texts.{starts}
use Rattle.rule_text.proofs.WriteSteps.{goes, breaks_off, finishes}
use Rattle.view_driver.specs.MovesText.{moved_table}
use Rattle.view_driver.proofs.moves_text.write_moved_table.Goals as goal

pub returns-in_err-write_moved_heading : goal.returns-in_err-write_moved_heading
unfolding moved_table
returns-in_err-write_moved_heading g c =
    let table = ap (λ (n : ℕ). moved_heading n ++ moved_texts c.args.texts.now n c.args.moves.now c.args.flows.now) (sym c.width_of-width.ensures) in
    breaks_off _ _ _ (starts _ _) table c.in_err-write_moved_heading.was c.write_moved_heading.ensures c.from_residual.ensures.1

pub returns : goal.returns
unfolding moved_table
returns g c =
    let table = ap (λ (n : ℕ). moved_heading n ++ moved_texts c.args.texts.now n c.args.moves.now c.args.flows.now) (sym c.width_of-width.ensures) in
    finishes _ (goes _ (starts _ _) table c.in_ok-write_moved_heading.was c.write_moved_heading.ensures) refl c.write_moves.ensures
