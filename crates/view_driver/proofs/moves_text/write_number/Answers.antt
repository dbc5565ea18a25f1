use Rattle.std.proofs.lemmas.List.{append-nil}
use Rattle.std.proofs.Common.{ℕ, ◌-◌, ◌∙◌, List, ◌∷◌, ◌++◌, ap, sym, length, replicate, codes}
use Rattle.std.specs.Fmt.{decimal}
use Rattle.fw_base.proofs.Texts.{starts}
use Rattle.rule_text.proofs.WriteSteps.{goes, breaks_off, finishes}
use Rattle.view_driver.specs.ColumnsText.{number_text}
use Rattle.view_driver.proofs.moves_text.write_number.Goals as goal

pub returns-in_err-write_spaces : goal.returns-in_err-write_spaces
unfolding number_text
returns-in_err-write_spaces g c =
    let digits = c.as_bytes-digits.ensures.value ∙ c.format.ensures.text in
    let count = c.saturating_sub.ensures ∙ ap (λ (n : ℕ). 8 - n) (ap length digits) in
    let split = ap (λ (n : ℕ). replicate n 32 ++ (codes " " ++ decimal c.args.number)) (sym count) in
    breaks_off _ _ _ (starts _ _) split c.in_err-write_spaces.was c.write_spaces.ensures c.from_residual.ensures.1

pub returns : goal.returns
unfolding number_text
returns g c =
    let digits = c.as_bytes-digits.ensures.value ∙ c.format.ensures.text in
    let count = c.saturating_sub.ensures ∙ ap (λ (n : ℕ). 8 - n) (ap length digits) in
    let split = ap (λ (n : ℕ). replicate n 32 ++ (codes " " ++ decimal c.args.number)) (sym count) in
    let whole = ap (λ (l : List ℕ). 32 ∷ l) (sym (append-nil (decimal c.args.number))) in
    finishes _ (goes _ (starts _ _) split c.in_ok-write_spaces.was c.write_spaces.ensures) whole (rw digits at c.write_pieces.ensures)
