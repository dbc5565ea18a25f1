-- What an audit concludes.
use Rattle.std.proofs.Common.{replicate, ◌≡◌, ℕ, ◌+◌, ◌<◌, ◌≤◌, true, false, Option, Some, None, List, [], ◌∷◌, ◌++◌, length, map, refl, sym, ap, subst, ◌∙◌, inl, inr, arith, zero, suc, ◌-◌, get_or}
use Rattle.std.specs.Prelude.{slice_get}
use Rattle.std.proofs.lemmas.List.{append-nil, length-append}
use Rattle.capture_tracks.specs.Commands.{lines_outcome}
use Rattle.capture_tracks.specs.Reading.{track_inputs}
use Rattle.capture_tracks.specs.Replay.{limit_for}
use Rattle.capture_tracks.specs.declared.opened.OpenedCapture.{OpenedCapture}
use Rattle.command_words.specs.Invocation.{capture_names}
use Rattle.command_words.specs.Words.{CaptureNames}
use Rattle.command_words.specs.declared.capture_word.CaptureWord.{CaptureWord}
use Rattle.report_texts.specs.declared.capture_end.CaptureEnd.{CaptureEnd}
use Rattle.report_texts.specs.declared.ends.Ends.{Ends}
use Rattle.report_texts.specs.declared.ends.LineAnswer.{LineAnswer}
use Rattle.report_texts.specs.Report.{report_text}
use Rattle.fw_world.specs.Inputs.{Input}
use Rattle.fw_world.specs.Legal.{IsLegal}
use Rattle.fw_world.specs.RecordValue.{RecordValue}
use Rattle.capture_tracks.specs.Reported.{report_record}
use Rattle.replay_setup.specs.declared.first_edition.FirstEdition.{FirstEdition}
use Rattle.run_audit.specs.Audit.{AuditValue, IsAuditOf, IsFirstWrong, IsRebuilt, FailsAtInput, StandsFor, rebuilt_record}
use Rattle.run_audit.specs.Comparison.{line_of_first_other}
use Rattle.run_audit.specs.declared.audit_fault.AuditFault.TheVariants.{Wrong}
use Rattle.capture_audits.proofs.Examining.{read_counts}
use Rattle.fw_command.specs.declared.script.Step.{Step}
use Rattle.rule_chain.specs.Configuration.{Configuration}
use Rattle.run_audit.specs.declared.rebuilt.Rebuilt.{Rebuilt}
use Rattle.audit_driver.specs.Concluding.{ComparesWith, ConcludesFor, Concludes, IsAnAudit, IsStoppedSo, rebuilt_text}
use Rattle.capture_audits.specs.Examined.{IsStopped, IsStoppedByRead, IsStoppedByFault, GoesOn, HasExamined, ExaminesAll}
use Rattle.capture_audits.specs.CaptureAudit.{inputs_at}
use Rattle.audit_driver.specs.Found.{HasLegalRecord, ConcludesAudit, TellsSoFar, text_of}
use Rattle.audit_driver.specs.declared.audit_result.AuditResult.{AuditResult}
use Rattle.audit_driver.specs.declared.audit_result.AuditResult.TheVariants.{Unread, Unready, TooLong, No, Yes}
use Rattle.capture_audits.specs.declared.examined.Examined.{Examined}

-- the text of what was rebuilt is that of its record with the script's answers
pub rebuilt_is : (edition : FirstEdition) (bytes : List ℕ) (inputs : List (List Input)) (ends : List CaptureEnd) (r : Rebuilt) → IsRebuilt edition.config edition.live bytes inputs r
    → report_text (report_record (rebuilt_record r)) ends (edition.answers ++ r.answers.items) true ≡ text_of edition (rebuilt_record r) ends
rebuilt_is edition bytes inputs ends r is = ap (λ (l : List LineAnswer). report_text (report_record (rebuilt_record r)) ends (edition.answers ++ l) true) is.answered

-- an audit that names a line at its fault
pub fails_there : (config : Configuration) (steps : List Step) (bytes : List ℕ) (inputs : List (List Input)) (audit : AuditValue) (line : ℕ) → IsAuditOf config steps bytes inputs audit → audit.fault ≡ Some (Wrong line)
    → FailsAtInput config steps bytes inputs line
fails_there config steps bytes inputs audit line is fault =
    subst (λ (report : List ℕ). FailsAtInput config steps report inputs line) is.reported (subst (StandsFor config steps audit inputs) fault is.stands)

-- an audit that came to no fault
pub tells_so_far : (edition : FirstEdition) (bytes : List ℕ) (inputs : List (List Input)) (audit : AuditValue) → IsAuditOf edition.config edition.live bytes inputs audit → audit.fault ≡ None
    → TellsSoFar edition bytes inputs
tells_so_far edition bytes inputs audit is clear =
    let stands : StandsFor edition.config edition.live audit inputs None = subst (StandsFor edition.config edition.live audit inputs) clear is.stands in
    subst (λ (report : List ℕ). TellsSoFar edition report inputs) is.reported
    (record { editions = audit.editions; journal = audit.journal; opened = is.opened; dockets = audit.dockets; told = stands.0 })

-- what was rebuilt and compared is what the audit comes to
pub concludes_so : (first : List LineAnswer) (audit : AuditValue) (ends : List CaptureEnd) (old new : Rebuilt) (all : Ends) (result : AuditResult)
    → ((config : Configuration) (steps : List Step) (report : List ℕ) (inputs : List (List Input)) → IsAuditOf config steps report inputs audit → IsRebuilt config steps report inputs old)
    → rebuilt_record new ≡ rebuilt_record old → new.report.items ≡ old.report.items → all.captures ≡ ends → all.answers ≡ first ++ old.answers.items
    → ComparesWith new all result → Concludes first audit ends result
concludes_so first audit ends old new all result closed record-is report-is captures answers compares config steps report inputs is = by_result result compares
  where
    whole : Ends
    whole = record { captures = ends; answers = first ++ old.answers.items }

    text_is : rebuilt_text new all ≡ rebuilt_text old whole
    text_is =
        ap (λ (r : RecordValue). report_text (report_record r) all.captures all.answers true) record-is
        ∙ ap (λ (c : List CaptureEnd). report_text (report_record (rebuilt_record old)) c all.answers true) captures
        ∙ ap (λ (a : List LineAnswer). report_text (report_record (rebuilt_record old)) ends a true) answers

    by_result : (result : AuditResult) → ComparesWith new all result → ConcludesFor config steps report inputs first ends result
    by_result (Unread name) none = absurd none
    by_result (Unready error) none = absurd none
    by_result TooLong none = absurd none
    by_result (No line) differs = inr (record {
      rebuilt = old;
      is = closed config steps report inputs is;
      compares = ap (λ (t : List ℕ). line_of_first_other 1 t old.report.items) (sym text_is) ∙ ap (line_of_first_other 1 (rebuilt_text new all)) (sym report-is) ∙ differs;
    })
    by_result Yes same = record { rebuilt = old; is = closed config steps report inputs is; compares = sym report-is ∙ same ∙ text_is }

-- the name of the capture in this place
pub named_at : (words : List CaptureWord) (place : ℕ) (blank : CaptureWord) → place < length words → slice_get (map capture_names words) place ≡ Some (capture_names (get_or words place blank))
named_at [] place blank less = absurd (omega arith)
named_at (word ∷ words) zero blank less = refl
named_at (word ∷ words) (suc place) blank less = named_at words place blank (omega (arith, less))

module _ {S : Type 0} (left : S → Option (List ℕ)) (failures : S → ℕ) where
  -- what was rebuilt is a legal record of the captures
  abbrev has_legal : (edition : FirstEdition) (bytes : List ℕ) (opened : List (OpenedCapture S)) (e : Examined S) (inputs : List (List Input))
      → (goes : GoesOn left failures (record { config = edition.config; steps = edition.live; report = bytes }) (limit_for (length opened)) 0 opened e)
      → inputs ≡ map track_inputs goes.met.tracks ++ []
      → (r : _) → IsRebuilt edition.config edition.live bytes inputs r
      → HasLegalRecord left failures edition opened e.sources.items (rebuilt_record r) e.ends.items
  has_legal edition bytes opened e inputs goes same r is = record {
    tracks = goes.met.tracks;
    read = goes.met.read;
    whole = goes.quiet;
    legal = subst (λ (i : List (List Input)). IsLegal edition.config (lines_outcome edition.config edition.live).accepted i (rebuilt_record r)) (same ∙ append-nil (map track_inputs goes.met.tracks)) is.legal;
  }

  -- an audit that met all records
  pub concluded : (edition : FirstEdition) (bytes : List ℕ) (names : List CaptureNames) (opened : List (OpenedCapture S)) (e : Examined S) (result : AuditResult) → length bytes ≤ 1073741824
      → GoesOn left failures (record { config = edition.config; steps = edition.live; report = bytes }) (limit_for (length opened)) 0 opened e
      → Concludes edition.answers e.audit e.ends.items result
      → ConcludesAudit left failures edition bytes names opened result e.sources.items
  concluded edition bytes names opened e result short goes concludes =
      by_result result (concludes edition.config edition.live bytes (map track_inputs goes.met.tracks ++ []) goes.met.stands)
    where
      count : length e.sources.items ≡ length opened
      count = (read_counts left failures (limit_for (length opened)) opened e.sources.items goes.met.tracks e.ends.items goes.met.read).2

      by_result : (result : AuditResult) → ConcludesFor edition.config edition.live bytes (map track_inputs goes.met.tracks ++ []) edition.answers e.ends.items result
          → ConcludesAudit left failures edition bytes names opened result e.sources.items
      by_result (Unread name) none = absurd none
      by_result (Unready error) none = absurd none
      by_result TooLong none = absurd none
      by_result (No line) (inl wrong) = (
        count,
        short,
        inr (inr (inl (record {
          tracks = goes.met.tracks;
          ends = e.ends.items;
          read = goes.met.read;
          whole = goes.quiet;
          wrong = subst (λ (i : List (List Input)). IsFirstWrong edition.config edition.live bytes i line) (append-nil (map track_inputs goes.met.tracks)) wrong;
        }))),
      )
      by_result (No line) (inr compares) = (
        count,
        short,
        inr (inr (inr (record {
          rebuilt = compares.rebuilt;
          ends = e.ends.items;
          has = has_legal edition bytes opened e _ goes refl compares.rebuilt compares.is;
          told = subst (λ (i : List (List Input)). IsRebuilt edition.config edition.live bytes i compares.rebuilt) (append-nil (map track_inputs goes.met.tracks)) compares.is;
          differs = ap (λ (t : List ℕ). line_of_first_other 1 t bytes) (sym (rebuilt_is edition bytes _ e.ends.items compares.rebuilt compares.is))
              ∙ ap (line_of_first_other 1 _) (sym compares.is.reported) ∙ compares.compares;
        }))),
      )
      by_result Yes compares = (
        count,
        short,
        record {
          record_of = rebuilt_record compares.rebuilt;
          ends = e.ends.items;
          has = has_legal edition bytes opened e _ goes refl compares.rebuilt compares.is;
          uncached = refl;
          text = sym compares.is.reported ∙ compares.compares ∙ rebuilt_is edition bytes _ e.ends.items compares.rebuilt compares.is;
        },
      )

  -- an audit that was stopped
  pub stopped_so : (edition : FirstEdition) (bytes : List ℕ) (names : List CaptureNames) (opened : List (OpenedCapture S)) (e : Examined S) (result : AuditResult) → length bytes ≤ 1073741824
      → IsStopped left failures (record { config = edition.config; steps = edition.live; report = bytes }) (limit_for (length opened)) 0 opened e e.audit.fault
      → IsStoppedSo e.audit (length e.ends.items) names result
      → ConcludesAudit left failures edition bytes names opened result e.sources.items
  stopped_so edition bytes names opened e (Unread name) short stopped (none, capture, stands, named) =
      let by : IsStoppedByRead left failures (record { config = edition.config; steps = edition.live; report = bytes }) (limit_for (length opened)) 0 opened e = subst (IsStopped left failures (record { config = edition.config; steps = edition.live; report = bytes }) (limit_for (length opened)) 0 opened e) none stopped in
      let place : length e.ends.items - 1 ≡ by.place = omega (arith, by.read) in
      let met = inputs_at (map track_inputs by.fails.tracks) (track_inputs by.fails.told) in
      let count : length by.fails.behind + 0 ≡ length by.fails.behind = omega arith in
      let right : TellsSoFar edition bytes (met (length by.fails.behind)) = subst (λ (n : ℕ). TellsSoFar edition bytes (met n)) count (tells_so_far edition bytes (met (length by.fails.behind + 0)) e.audit by.stands none) in (
        by.fails.all,
        short,
        record {
          place = by.place;
          capture = capture;
          stands = ap (slice_get names) (sym place) ∙ stands;
          named = named;
          fails = by.fails;
          right = right;
        },
      )
  stopped_so edition bytes names opened e (Unready error) short stopped none = absurd none
  stopped_so edition bytes names opened e TooLong short stopped none = absurd none
  stopped_so edition bytes names opened e (No line) short stopped fault =
      let by : IsStoppedByFault left failures (record { config = edition.config; steps = edition.live; report = bytes }) (limit_for (length opened)) 0 opened e = subst (IsStopped left failures (record { config = edition.config; steps = edition.live; report = bytes }) (limit_for (length opened)) 0 opened e) fault stopped in (
        by.given.all,
        short,
        inr (inl (record {
          inputs = by.inputs;
          given = by.given;
          wrong = fails_there edition.config edition.live bytes by.inputs e.audit line by.stands fault;
        })),
      )
  stopped_so edition bytes names opened e Yes short stopped none = absurd none

  -- all captures were examined for the audit that was opened beside this script
  pub was_examined : (edition : FirstEdition) (bytes : List ℕ) (opened : List (OpenedCapture S)) (audit : AuditValue) (e : Examined S) (steps : List Step) (captures : ℕ) → steps ≡ edition.live → captures ≡ length opened
      → IsAuditOf edition.config steps bytes (replicate captures []) audit → ExaminesAll left failures opened audit e
      → HasExamined left failures (record { config = edition.config; steps = edition.live; report = bytes }) (limit_for (length opened)) 0 opened e e.stopped
  was_examined edition bytes opened audit e steps captures steps_is captures_is is examines =
      examines (record { config = edition.config; steps = edition.live; report = bytes })
      (subst (λ (s : List Step). IsAuditOf edition.config s bytes (replicate (length opened) []) audit) steps_is
      (subst (λ (n : ℕ). IsAuditOf edition.config steps bytes (replicate n []) audit) captures_is is))

  -- a capture was read, and no more than there are, where the audit was stopped without a fault
  pub read_some : (edition : FirstEdition) (bytes : List ℕ) (opened : List (OpenedCapture S)) (e : Examined S) → e.stopped ≡ true
      → HasExamined left failures (record { config = edition.config; steps = edition.live; report = bytes }) (limit_for (length opened)) 0 opened e e.stopped
      → e.audit.fault ≡ None → (1 ≤ length e.ends.items) × (length e.ends.items ≤ length opened)
  read_some edition bytes opened e stopped has none =
      let whole : IsStopped left failures (record { config = edition.config; steps = edition.live; report = bytes }) (limit_for (length opened)) 0 opened e e.audit.fault =
      subst (HasExamined left failures (record { config = edition.config; steps = edition.live; report = bytes }) (limit_for (length opened)) 0 opened e) stopped has in
      let by : IsStoppedByRead left failures (record { config = edition.config; steps = edition.live; report = bytes }) (limit_for (length opened)) 0 opened e = subst (IsStopped left failures (record { config = edition.config; steps = edition.live; report = bytes }) (limit_for (length opened)) 0 opened e) none whole in
      let split : length opened ≡ length by.fails.before + suc (length by.fails.behind) = ap length by.fails.split ∙ length-append by.fails.before (by.fails.one ∷ by.fails.behind) in
      (omega (arith, by.read), omega (arith, by.read, by.fails.stands, split))

  -- it is the audit of some report, where it wasn't stopped
  pub is_an_audit : (edition : FirstEdition) (bytes : List ℕ) (opened : List (OpenedCapture S)) (e : Examined S) → e.stopped ≡ false
      → HasExamined left failures (record { config = edition.config; steps = edition.live; report = bytes }) (limit_for (length opened)) 0 opened e e.stopped → IsAnAudit e.audit
  is_an_audit edition bytes opened e going has =
      let goes : GoesOn left failures (record { config = edition.config; steps = edition.live; report = bytes }) (limit_for (length opened)) 0 opened e =
      subst (HasExamined left failures (record { config = edition.config; steps = edition.live; report = bytes }) (limit_for (length opened)) 0 opened e) going has in
      record { config = edition.config; steps = edition.live; report = bytes; inputs = map track_inputs goes.met.tracks ++ []; is = goes.met.stands }

  -- what it comes to where it was stopped
  pub stopped_there : (edition : FirstEdition) (bytes : List ℕ) (names : List CaptureNames) (opened : List (OpenedCapture S)) (e : Examined S) (result : AuditResult) (captures : ℕ) → length bytes ≤ 1073741824 → e.stopped ≡ true
      → HasExamined left failures (record { config = edition.config; steps = edition.live; report = bytes }) (limit_for (length opened)) 0 opened e e.stopped
      → captures ≡ length e.ends.items → IsStoppedSo e.audit captures names result → ConcludesAudit left failures edition bytes names opened result e.sources.items
  stopped_there edition bytes names opened e result captures short stopped has captures_is so =
      stopped_so edition bytes names opened e result short
      (subst (HasExamined left failures (record { config = edition.config; steps = edition.live; report = bytes }) (limit_for (length opened)) 0 opened e) stopped has)
      (subst (λ (n : ℕ). IsStoppedSo e.audit n names result) captures_is so)

  -- what it comes to where it met all records
  pub concluded_there : (edition : FirstEdition) (bytes : List ℕ) (names : List CaptureNames) (opened : List (OpenedCapture S)) (e : Examined S) (result : AuditResult) → length bytes ≤ 1073741824 → e.stopped ≡ false
      → HasExamined left failures (record { config = edition.config; steps = edition.live; report = bytes }) (limit_for (length opened)) 0 opened e e.stopped
      → Concludes edition.answers e.audit e.ends.items result → ConcludesAudit left failures edition bytes names opened result e.sources.items
  concluded_there edition bytes names opened e result short going has concludes =
      concluded edition bytes names opened e result short
      (subst (HasExamined left failures (record { config = edition.config; steps = edition.live; report = bytes }) (limit_for (length opened)) 0 opened e) going has) concludes
