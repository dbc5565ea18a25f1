use Rattle.std.proofs.Common.{refl}
use Rattle.fw_base.proofs.Texts.{starts}
use Rattle.rule_text.proofs.WriteSteps.{goes, breaks_off, finishes}
use Rattle.state_texts.proofs.SlotTexts.{slots_text}
use Rattle.state_texts.proofs.state_texts.write_section.Goals as goal

pub returns-in_err-write_heading : goal.returns-in_err-write_heading
returns-in_err-write_heading g c = breaks_off _ _ _ (starts _ _) refl c.in_err-write_heading.was c.write_heading.ensures c.from_residual.ensures.1

pub returns : goal.returns
returns g c = finishes _ (goes _ (starts _ _) refl c.in_ok-write_heading.was c.write_heading.ensures) refl (rw (slots_text c.args.names.now c.slots.result.now, c.slots.ensures) at c.write_lines.ensures)
