use Rattle.std.proofs.Common.{refl, ◌≡◌}
use Rattle.fw_base.proofs.Texts.{starts}
use Rattle.rule_text.proofs.WriteSteps.{goes, breaks_off, finishes}
use Rattle.std.proofs.Common.{false, nat_eq, arith}
use Rattle.std.proofs.lemmas.Bool.Decides.{nat_tests}
use Rattle.report_texts.specs.RulesText.{disabled_line}
use Rattle.fw_report.proofs.rule_lines.write_disabled.Goals as goal

pub returns-in_err-write_text : goal.returns-in_err-write_text
unfolding disabled_line
returns-in_err-write_text g c =
    let some : nat_eq c.args.disabled 0 ≡ false = let other = c.if-disabled-eq0.false in grind (arith, nat_tests) in
    rw some (breaks_off _ _ _ (starts _ _) refl c.in_err-write_text.was c.write_text.ensures c.from_residual.ensures.1)

pub returns-in_err-write_sets : goal.returns-in_err-write_sets
unfolding disabled_line
returns-in_err-write_sets g c =
    let some : nat_eq c.args.disabled 0 ≡ false = let other = c.if-disabled-eq0.false in grind (arith, nat_tests) in
    rw some (breaks_off _ _ _ (goes _ (starts _ _) refl c.in_ok-write_text.was c.write_text.ensures) refl c.in_err-write_sets.was c.write_sets.ensures c.from_residual-in_err-write_sets.ensures.1)

pub returns : goal.returns
unfolding disabled_line
returns g c =
    let some : nat_eq c.args.disabled 0 ≡ false = let other = c.if-disabled-eq0.false in grind (arith, nat_tests) in
    rw some (finishes _ (goes _ (goes _ (starts _ _) refl c.in_ok-write_text.was c.write_text.ensures) refl c.in_ok-write_sets.was c.write_sets.ensures) refl c.write_text-2.ensures)
