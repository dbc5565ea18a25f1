use Rattle.std.proofs.Common.{◌≡◌, ◌≤◌, List, [], length, map, refl, sym, ap, ◌∙◌, subst, arith}
use Rattle.std.specs.Arc.{arc_value}
use Rattle.std.proofs.lemmas.List.{length-replicate}
use Rattle.capture_tracks.specs.Commands.{lines_outcome}
use Rattle.counter_book.specs.declared.tally.Count.{Count}
use Rattle.run_audit.specs.AskNames.{names_in, names_told}
use Rattle.run_audit.specs.Audit.{IsOpened, no_docket, told_value}
use Rattle.run_audit.specs.JournalTold.{no_journal}
use Rattle.run_audit.specs.Judging.{ToldValue}
use Rattle.run_audit.specs.ToldReport.{IsTold, lines_told}
use Rattle.run_audit.proofs.AskPlaces.{names_replayed}
use Rattle.run_audit.proofs.Opened.{begins}
use Rattle.run_audit.proofs.Publishing.{some_edition}
use Rattle.run_audit.proofs.ToldReports.{told_is}
use Rattle.run_audit.proofs.audit.Audit.open.Goals as goal

-- nothing was counted
abbrev no_tally : List Count
no_tally = []

pub invariant_of-result : goal.invariant_of-result
invariant_of-result c =
    let told_lent = c.in_ok-told.ensures.told in
    let told : IsTold c.args.report.items c.in_ok-told.told = rw c.deref.ensures.value at told_lent in
    let opened_lent = c.in_ok-told.ensures.opened in
    let opened = rw c.deref.ensures.value at opened_lent in
    let many : length c.in_ok-new.field-0.dockets.items ≡ c.args.captures = ap length c.in_ok-new.ensures.dockets ∙ length-replicate c.args.captures no_docket in
    let value = c.in_ok-told-2.ensures in (
      subst (λ (t : ToldValue). t ≡ told_value t.editions t.journal c.args.report.items) (sym value) (told_is c.args.report.items c.in_ok-told.told told),
      subst (λ (t : ToldValue). 1 ≤ length t.editions) (sym value) (some_edition c.args.config (lines_outcome c.args.config c.args.steps.now).accepted (map arc_value c.in_ok-told.told.editions.items) opened.made),
      ap length c.in_ok-new.ensures.tallies ∙ length-replicate c.args.captures no_tally ∙ sym many,
      omega (arith, many, c.requires.few),
      subst (λ (t : ToldValue). names_in t.journal.entries ≡ names_told (lines_told c.args.report.items)) (sym value)
          (names_replayed (map arc_value c.in_ok-told.told.editions.items) 1 (lines_told c.args.report.items) no_journal c.in_ok-told.told.book opened.replayed),
    )

pub returns-clause-opened : goal.returns-clause-opened
returns-clause-opened c =
    let opened_lent = c.in_ok-told.ensures.opened in
    let opened = rw c.deref.ensures.value at opened_lent in
    let opening : IsOpened c.args.config c.args.steps.now c.args.report.items c.in_ok-told-2.told.editions c.in_ok-told-2.told.journal =
    subst (λ (t : ToldValue). IsOpened c.args.config c.args.steps.now c.args.report.items t.editions t.journal) (sym c.in_ok-told-2.ensures) opened in
    begins c.args.config c.args.steps.now c.args.captures _ c.in_ok-new.field-0.dockets.items opening c.in_ok-told.ensures.answered c.in_ok-new.ensures.dockets refl c.in_ok-new.ensures.tallies c.in_ok-new.ensures.lane refl
