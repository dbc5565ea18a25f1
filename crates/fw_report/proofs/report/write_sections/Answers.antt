use Rattle.std.proofs.Common.{◌∙◌, ◌++◌, ℕ, List, ap, sym}
use Rattle.fw_base.proofs.Texts.{starts}
use Rattle.rule_text.proofs.WriteSteps.{goes, breaks_off, finishes}
use Rattle.rule_chain.specs.Configuration.{Configuration}
use Rattle.report_texts.specs.Recorded.{Recorded}
use Rattle.report_texts.specs.Report.{report_text, start_text, closing_text, last_closing, last_edition}
use Rattle.fw_report.proofs.report.write_sections.Goals as goal

pub returns-in_err-write_start : goal.returns-in_err-write_start
unfolding report_text closing_text
returns-in_err-write_start g c =
    let recorded : Recorded = c.args.recorded.now in
    let rest : List ℕ = last_closing recorded c.args.journal (last_edition recorded.editions) in
    let first = ap (λ (r : Recorded). start_text r.editions r.dockets c.args.ends.now.captures c.args.ends.now.answers ++ rest) (sym c.recorded.view_is) in
    breaks_off _ _ rest (starts _ _) first c.in_err-write_start.was c.write_start.ensures c.from_residual.ensures.1

pub returns : goal.returns
unfolding report_text closing_text
returns g c =
    let recorded : Recorded = c.args.recorded.now in
    let rest : List ℕ = last_closing recorded c.args.journal (last_edition recorded.editions) in
    let first = ap (λ (r : Recorded). start_text r.editions r.dockets c.args.ends.now.captures c.args.ends.now.answers ++ rest) (sym c.recorded.view_is) in
    let last = ap (λ (r : Recorded). last_closing recorded c.args.journal (last_edition r.editions)) (sym c.recorded.view_is) ∙ ap (last_closing recorded c.args.journal) c.last_of.ensures in
    finishes _ (goes rest (starts _ _) first c.in_ok-write_start.was c.write_start.ensures) (last ∙ ap (λ (config : Configuration). closing_text recorded c.args.journal config) (sym c.config-config.ensures.value)) c.write_closing.ensures
