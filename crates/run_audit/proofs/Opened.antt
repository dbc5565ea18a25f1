-- An audit that begins: no record was met.
use Rattle.std.proofs.Common.{◌≡◌, ℕ, zero, suc, ◌+◌, ◌<◌, Option, Some, None, List, [], length, map, refl, sym, ap, ◌∙◌, arith}
use Rattle.std.specs.Prelude.{replicate, slice_get}
use Rattle.std.proofs.lemmas.List.{length-map, length-replicate}
use Rattle.capture_tracks.specs.Commands.{lines_outcome}
use Rattle.eval_engine.specs.Dockets.{DocketValue}
use Rattle.fw_command.specs.declared.script.Step.{Step}
use Rattle.fw_world.specs.Inputs.{Input}
use Rattle.generation_store.specs.Published.{Published}
use Rattle.fw_base.specs.Chain.{or_else}
use Rattle.rule_chain.specs.Configuration.{Configuration}
use Rattle.state_journal.specs.Journal.{Journal}
use Rattle.run_audit.specs.Audit.{AreEditionsOf, IsOpened, FailsAtOpening, AuditValue, AreTalliesOf, IsAuditOf, no_docket, told_value}
use Rattle.run_audit.specs.AuditFaults.{IfWrong, NamesLine}
use Rattle.run_audit.specs.JournalTold.{ToldJournal, Lawful, no_journal, replay, wrong_line}
use Rattle.run_audit.specs.Judging.{ToldValue, AreToldSo}
use Rattle.run_audit.specs.Opening.{opening_fault, unformed_line, unlawful_line}
use Rattle.run_audit.specs.ToldReport.{lines_told}
use Rattle.run_audit.specs.declared.audit_fault.AuditFault.{AuditFault}
use Rattle.run_audit.specs.declared.audit_fault.AuditFault.TheVariants.{Wrong, OutOfMemory}

-- ---- the opening's fault

-- the form of a line is wrong
pub unformed : (config : Configuration) (steps : List Step) (report : List ℕ) (editions : List Published) (line : ℕ) → AreEditionsOf config steps editions → unformed_line report ≡ Some line
    → FailsAtOpening config steps report line
unformed config steps report editions line made is = record {
  editions = editions;
  made = made;
  found = ap (λ (o : Option ℕ). or_else o (unlawful_line editions report)) is;
}

-- the journal is wrong
pub unlawful : (config : Configuration) (steps : List Step) (report : List ℕ) (editions : List Published) (line : ℕ) → AreEditionsOf config steps editions → unformed_line report ≡ None
    → unlawful_line editions report ≡ Some line → FailsAtOpening config steps report line
unlawful config steps report editions line made formed is = record {
  editions = editions;
  made = made;
  found = ap (λ (o : Option ℕ). or_else o (unlawful_line editions report)) formed ∙ is;
}

-- a fault that names the line of the opening's fault names one at which it fails
pub fails_at : (config : Configuration) (steps : List Step) (report : List ℕ) (editions : List Published) (fault : AuditFault) → AreEditionsOf config steps editions
    → NamesLine (opening_fault editions report) fault → IfWrong fault (FailsAtOpening config steps report)
fails_at config steps report editions (Wrong line) made is = record { editions = editions; made = made; found = is }
fails_at config steps report editions OutOfMemory made is = tt

-- none is
pub opened : (config : Configuration) (steps : List Step) (report : List ℕ) (editions : List Published) (journal : Journal) → AreEditionsOf config steps editions → unformed_line report ≡ None
    → replay editions 1 (lines_told report) no_journal ≡ Lawful journal → IsOpened config steps report editions journal
opened config steps report editions journal made formed is = record {
  made = made;
  right = ap (λ (o : Option ℕ). or_else o (unlawful_line editions report)) formed ∙ ap (λ (t : ToldJournal). wrong_line t) is;
  replayed = is;
}

-- ---- no record

none_told : (told : ToldValue) (lane n : ℕ) → AreToldSo told lane (replicate n []) (map (λ (d : DocketValue). d.entries) (replicate n no_docket))
none_told told lane zero = tt
none_told told lane (suc n) = (tt, none_told told (lane + 1) n)

none_counted : (told : ToldValue) (lane n : ℕ) → AreTalliesOf told lane (replicate n []) (map (λ (d : DocketValue). d.entries) (replicate n no_docket)) (replicate n [])
none_counted told lane zero = tt
none_counted told lane (suc n) = (λ id. refl, none_counted told (lane + 1) n)

-- no record of a capture
abbrev no_inputs : List Input
no_inputs = []

none_behind : (n capture : ℕ) → capture < n → slice_get (replicate n no_inputs) capture ≡ Some []
none_behind zero capture less = absurd (omega (arith, less))
none_behind (suc n) zero less = refl
none_behind (suc n) (suc capture) less =
    let inner : capture < n = omega (arith, less) in
    none_behind n capture inner

-- an audit of no record
pub begins : (config : Configuration) (steps : List Step) (captures : ℕ) (audit : AuditValue) (dockets : List DocketValue)
    → IsOpened config steps audit.report audit.editions audit.journal → audit.answers ≡ (lines_outcome config steps).answers → dockets ≡ replicate captures no_docket
    → audit.dockets ≡ map (λ (d : DocketValue). d.entries) dockets → audit.tallies ≡ replicate captures [] → audit.lane ≡ 1 → audit.fault ≡ None
    → IsAuditOf config steps audit.report (replicate captures []) audit
begins config steps captures audit dockets opening answered none entries tallies lane clear =
    let told : ToldValue = told_value audit.editions audit.journal audit.report in
    let all : audit.dockets ≡ map (λ (d : DocketValue). d.entries) (replicate captures no_docket) = entries ∙ ap (map (λ (d : DocketValue). d.entries)) none in
    let many : length (replicate captures no_inputs) ≡ captures = length-replicate captures no_inputs in
    record {
      reported = refl;
      opened = opening;
      answered = answered;
      captures = ap length all ∙ length-map (replicate captures no_docket) (λ (d : DocketValue). d.entries) ∙ length-replicate captures no_docket ∙ sym many;
      ordered = λ capture above below. none_behind captures capture (omega (arith, below, many));
      stands = rw (clear, all, tallies) (none_told told 1 captures, none_counted told 1 captures);
    }
