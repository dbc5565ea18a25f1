use Rattle.std.proofs.Common.{refl, ◌∙◌, ◌++◌, ℕ, List, ap, sym}
use Rattle.fw_base.proofs.Texts.{starts}
use Rattle.rule_text.proofs.WriteSteps.{goes, breaks_off, finishes}
use Rattle.dyn_states.specs.StateObject.{StateObject}
use Rattle.state_journal.specs.declared.entry.Entry.{Entry}
use Rattle.report_texts.specs.JournalText.{hits_text, optional_journal}
use Rattle.report_texts.specs.Report.{last_text, closing_text}
use Rattle.fw_report.proofs.report.write_closing.Goals as goal

pub returns-in_err-write_last : goal.returns-in_err-write_last
unfolding closing_text
returns-in_err-write_last g c =
    let told : List ℕ = optional_journal c.args.journal c.args.config.now.names c.recorded.inside.book.now.entries c.recorded.inside.dockets.now c.recorded.inside.trackers.now in
    let rest : List ℕ = hits_text 1 c.recorded.inside.hits.now ++ told in
    rw (← c.recorded.view_is)
    (breaks_off _ _ rest (starts _ _) (ap (λ (o : StateObject). last_text c.args.config.now c.recorded.inside.tallies.now o ++ rest) (sym c.states.ensures)) c.in_err-write_last.was c.write_last.ensures c.from_residual.ensures.1)

pub returns-in_err-write_hits : goal.returns-in_err-write_hits
unfolding closing_text
returns-in_err-write_hits g c =
    let told : List ℕ = optional_journal c.args.journal c.args.config.now.names c.recorded.inside.book.now.entries c.recorded.inside.dockets.now c.recorded.inside.trackers.now in
    let rest : List ℕ = hits_text 1 c.recorded.inside.hits.now ++ told in
    rw (← c.recorded.view_is)
    (breaks_off _ _ told (goes rest (starts _ _) (ap (λ (o : StateObject). last_text c.args.config.now c.recorded.inside.tallies.now o ++ rest) (sym c.states.ensures)) c.in_ok-write_last.was c.write_last.ensures) refl c.in_err-write_hits.was c.write_hits.ensures c.from_residual-in_err-write_hits.ensures.1)

pub returns : goal.returns
unfolding closing_text
returns g c =
    let told : List ℕ = optional_journal c.args.journal c.args.config.now.names c.recorded.inside.book.now.entries c.recorded.inside.dockets.now c.recorded.inside.trackers.now in
    let rest : List ℕ = hits_text 1 c.recorded.inside.hits.now ++ told in
    rw (← c.recorded.view_is)
    (finishes _ (goes told (goes rest (starts _ _) (ap (λ (o : StateObject). last_text c.args.config.now c.recorded.inside.tallies.now o ++ rest) (sym c.states.ensures)) c.in_ok-write_last.was c.write_last.ensures) refl c.in_ok-write_hits.was c.write_hits.ensures) (ap (λ (ns : List (List ℕ)). optional_journal c.args.journal ns c.recorded.inside.book.now.entries c.recorded.inside.dockets.now c.recorded.inside.trackers.now) (sym c.names.ensures.value) ∙ ap (λ (es : List Entry). optional_journal c.args.journal c.names.result.now es c.recorded.inside.dockets.now c.recorded.inside.trackers.now) (sym c.entries.ensures.value)) c.write_optional_journal.ensures)
