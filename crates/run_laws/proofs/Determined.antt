-- Two runs of one job over the same files come to the same.
use Rattle.std.proofs.Common.{◌≡◌, ◌≢◌, ℕ, ◌≤◌, ◌⊎◌, inl, inr, List, [], ◌∷◌, Option, None, Some, IfSome, IfNone, is_some, true, refl, sym, ap, ◌∙◌, subst, arith}
use Rattle.std.proofs.lemmas.Bool.{false≢true}
use Rattle.std.specs.Io.KnownBytes.{Appends}
use Rattle.fw_base.specs.Faults.{Rose}
use Rattle.fw_base.specs.Pairs.{Pair}
use Rattle.fw_base.specs.Texts.{AppendsPart}
use Rattle.report_texts.specs.Report.{report_text}
use Rattle.fw_world.specs.RecordValue.{RecordValue}
use Rattle.load_maker.specs.Load.{load_script, load_capture}
use Rattle.record_laws.specs.OneReplay.{IsSameRecord}
use Rattle.replay_setup.specs.FirstEdition.{first_edition}
use Rattle.command_words.specs.declared.invocation.Mode.{Mode}
use Rattle.replay_driver.specs.Found.{IsReplayOf, made_capture}
use Rattle.replay_setup.specs.InMemory.{known_left, no_failures}
use Rattle.replay_driver.specs.Promises.{IsKept, IsUnreadyJob}
use Rattle.replay_setup.specs.Outcomes.{Writes}
use Rattle.capture_tracks.specs.Reported.{report_record}
use Rattle.replay_driver.specs.RunResult.{summary_of}
use Rattle.replay_setup.specs.ScriptTexts.{error_text}
use Rattle.replay_driver.specs.Served.{Job, Replays, Loads, IsSerialJob}
use Rattle.replay_setup.specs.FirstEdition.{pace_of}
use Rattle.replay_setup.specs.declared.outcome.Outcome.{Outcome}
use Rattle.run_laws.specs.TwoRuns.{Outside, HaveSameFiles, IsSameKept, ComeToTheSame, IsPromisedRun, RunsAreDetermined}
use Rattle.run_laws.proofs.SameNames.{same_read}
use Rattle.run_laws.proofs.SameTexts.{err_one, not_both, no_failed_read, same_status, same_summary, same_replay}
use Rattle.replay_setup.specs.Outside.{Output}

-- ---- options

-- what is promised where there is nothing
if_none : {A : Type 0} (o : Option A) (P : Type 0) → o ≡ None → IfNone o P → P
if_none None P none h = h
if_none (Some x) P none h = absurd (cc)

-- what is promised of what there is
if_some : {A : Type 0} (o : Option A) (P : A → Type 0) (x : A) → o ≡ Some x → IfSome o P → P x
if_some o P x is h = subst (λ r. IfSome r P) is h

-- what holds anyway holds of whatever there is
if_kept : {A : Type 0} (o : Option A) (P : Type 0) → P → IfSome o (λ x. P)
if_kept None P h = tt
if_kept (Some x) P h = h

-- anything holds of what there isn't
if_absent : {A : Type 0} (o : Option A) (P : A → Type 0) → o ≡ None → IfSome o P
if_absent None P none = tt
if_absent (Some x) P none = absurd (cc)

-- what there isn't isn't there
not_some : {A : Type 0} (o : Option A) → o ≡ None → is_some o ≡ true → ⊥
not_some o none some = false≢true (sym (ap is_some none) ∙ some)

-- both kept records that say the same
kept_alike : (a b : Option RecordValue) (r s : RecordValue) → a ≡ Some r → b ≡ Some s → IsSameRecord r s → IsSameKept a b
kept_alike a b r s p q same = subst (λ (x : Option RecordValue). IsSameKept x b) (sym p) (subst (λ (y : Option RecordValue). IsSameKept (Some r) y) (sym q) same)

-- neither kept one
kept_none : (a b : Option RecordValue) → a ≡ None → b ≡ None → IsSameKept a b
kept_none a b p q = subst (λ (x : Option RecordValue). IsSameKept x b) (sym p) (subst (λ (y : Option RecordValue). IsSameKept None y) (sym q) tt)

-- the same files in the other order
same_files_back : (job : Job) (told otherTold : Option (List Pair)) → HaveSameFiles job told otherTold → HaveSameFiles job otherTold told
same_files_back (Replays names) told otherTold same = record { before = same.other_before; other_before = same.before; tells = same.other_tells; other_tells = same.tells; same = sym same.same }
same_files_back (Loads n) told otherTold same = tt

-- ---- one run

-- a status of at most 3 that isn't 0, 1 or 3
is_two : (status : ℕ) → status ≤ 3 → status ≢ 0 → status ≢ 1 → status ≢ 3 → status ≡ 2
is_two status few a b c = omega arith

-- a text that was written with a status of at most 3 was written whole
written_whole : {K : Type 0} (output : Output K) (sink sinkAfter : K) (wanted got : ℕ) (text : List ℕ) → Writes output sink sinkAfter wanted got text → got ≤ 3
    → (got ≡ wanted) × Appends (output.written sink) (output.written sinkAfter) text
written_whole output sink sinkAfter wanted got text writes few = by_answer writes.answered
  where
    by_answer : ((got ≡ wanted) × Appends (output.written sink) (output.written sinkAfter) text) ⊎ ((got ≡ 5) × AppendsPart (output.written sink) (output.written sinkAfter) text × Rose (output.faults sink) (output.faults sinkAfter))
        → (got ≡ wanted) × Appends (output.written sink) (output.written sinkAfter) text
    by_answer (inl whole) = whole
    by_answer (inr part) = let five = part.0 in absurd (omega arith)

module _ {L S K : Type 0} (out : Outside L S K) (library libraryAfter : L) (sink sinkAfter : K) (outcome : Outcome S) where
  -- a run of at most status 3 that kept no record has status 2, and its script gives no edition
  without_record : (job : Job) → IsPromisedRun out job library libraryAfter sink sinkAfter outcome → outcome.kept ≡ None → outcome.status ≤ 3
      → (outcome.status ≡ 2) × IsUnreadyJob out.output out.files job library libraryAfter sink sinkAfter outcome
  without_record job run none few =
      let two : outcome.status ≡ 2 =
      is_two outcome.status few (λ e. not_some outcome.kept none (run.status_0_cause e).begun) run.status_1_cause (λ e. not_some outcome.kept none (run.status_3_cause e).begun) in
      (two, if_none outcome.kept _ none (run.status_2_before two))

-- ---- two runs

module _ {L S K M T N : Type 0} (out : Outside L S K) (other : Outside M T N) where
  -- of the same files one run can't keep a record where the other found that the script gives no edition
  not_one_kept : (job : Job) (library libraryAfter : L) (otherLibrary otherLibraryAfter : M) (sink sinkAfter : K) (otherSink otherSinkAfter : N) (outcome : Outcome S) (otherOutcome : Outcome T) (r : RecordValue)
      → IsKept out.output out.files job library libraryAfter sink sinkAfter outcome r
      → IsUnreadyJob other.output other.files job otherLibrary otherLibraryAfter otherSink otherSinkAfter otherOutcome
      → HaveSameFiles job (out.files.pairs library) (other.files.pairs otherLibrary) → ⊥
  not_one_kept (Loads n) library libraryAfter otherLibrary otherLibraryAfter sink sinkAfter otherSink otherSinkAfter outcome otherOutcome r mine yours files = absurd yours
  not_one_kept (Replays names) library libraryAfter otherLibrary otherLibraryAfter sink sinkAfter otherSink otherSinkAfter outcome otherOutcome r mine yours files =
      let cause = yours.cause in
      let read = same_read out other names library libraryAfter otherLibrary otherLibraryAfter mine.script cause.script mine.bytes cause.bytes mine.opened cause.opened mine.reads cause.reads files in
      not_both (first_edition (pace_of names.mode) cause.bytes) mine.replay.edition yours.error (ap (first_edition (pace_of names.mode)) (sym read.script) ∙ mine.replay.first) cause.first

module _ {L S K M T N : Type 0} (out : Outside L S K) (other : Outside M T N) where
  module _ (library libraryAfter : L) (otherLibrary otherLibraryAfter : M) (sink sinkAfter : K) (otherSink otherSinkAfter : N) (outcome : Outcome S) (otherOutcome : Outcome T) where
    -- both runs kept a record
    both_kept : (job : Job) (r s : RecordValue) → IsSerialJob job → outcome.kept ≡ Some r → otherOutcome.kept ≡ Some s
        → IsKept out.output out.files job library libraryAfter sink sinkAfter outcome r
        → IsKept other.output other.files job otherLibrary otherLibraryAfter otherSink otherSinkAfter otherOutcome s
        → HaveSameFiles job (out.files.pairs library) (other.files.pairs otherLibrary) → outcome.status ≤ 3 → otherOutcome.status ≤ 3
        → ComeToTheSame out.output.written other.output.written outcome otherOutcome sink sinkAfter otherSink otherSinkAfter
    both_kept (Replays names) r s serial p q mine yours files few otherFew =
        let (status, took) = written_whole out.output sink sinkAfter _ outcome.status _ mine.writes few in
        let (otherStatus, otherTook) = written_whole other.output otherSink otherSinkAfter _ otherOutcome.status _ yours.writes otherFew in
        let read = same_read out other names library libraryAfter otherLibrary otherLibraryAfter mine.script yours.script mine.bytes yours.bytes mine.opened yours.opened mine.reads yours.reads files in
        let alike = same_replay out.files.left out.files.failures other.files.left other.files.failures names.cache mine.bytes yours.bytes mine.opened yours.opened r s outcome.ends otherOutcome.ends mine.captures yours.captures
        (subst (λ (m : Mode). IsReplayOf out.files.left out.files.failures m names.cache mine.bytes mine.opened r outcome.ends mine.captures) serial mine.replay)
        (subst (λ (m : Mode). IsReplayOf other.files.left other.files.failures m names.cache yours.bytes yours.opened s otherOutcome.ends yours.captures) serial yours.replay) read.script read.captures
        (no_failed_read outcome.ends.captures outcome.ends.answers (subst (λ (n : ℕ). n ≤ 3) status few))
        (no_failed_read otherOutcome.ends.captures otherOutcome.ends.answers (subst (λ (n : ℕ). n ≤ 3) otherStatus otherFew)) in
        record {
          status = status ∙ same_status r s outcome.ends otherOutcome.ends alike ∙ sym otherStatus;
          kept = kept_alike outcome.kept otherOutcome.kept r s p q alike.recorded;
          ends = if_kept outcome.kept _ alike.printed;
          answers = if_kept outcome.kept _ alike.answers;
          text = report_text (report_record r) outcome.ends.captures outcome.ends.answers names.journal;
          took = took;
          other_took = subst (λ (text : List ℕ). Appends (other.output.written otherSink) (other.output.written otherSinkAfter) text) (sym (alike.text names.journal)) otherTook;
        }
    both_kept (Loads n) r s serial p q mine yours files few otherFew =
        let (status, took) = written_whole out.output sink sinkAfter _ outcome.status _ mine.writes few in
        let (otherStatus, otherTook) = written_whole other.output otherSink otherSinkAfter _ otherOutcome.status _ yours.writes otherFew in
        let made = made_capture (load_capture n) ∷ [] in
        let alike = same_replay known_left no_failures known_left no_failures None (load_script n) (load_script n) made made r s outcome.ends otherOutcome.ends mine.replay.sources yours.replay.sources
        mine.replay.replay yours.replay.replay refl (record { contents = load_capture n ∷ []; ports = refl; told = refl; other_told = refl })
        (no_failed_read outcome.ends.captures outcome.ends.answers (subst (λ (n : ℕ). n ≤ 3) status few))
        (no_failed_read otherOutcome.ends.captures otherOutcome.ends.answers (subst (λ (n : ℕ). n ≤ 3) otherStatus otherFew)) in
        record {
          status = status ∙ same_status r s outcome.ends otherOutcome.ends alike ∙ sym otherStatus;
          kept = kept_alike outcome.kept otherOutcome.kept r s p q alike.recorded;
          ends = if_kept outcome.kept _ alike.printed;
          answers = if_kept outcome.kept _ alike.answers;
          text = summary_of r;
          took = took;
          other_took = subst (λ (text : List ℕ). Appends (other.output.written otherSink) (other.output.written otherSinkAfter) text) (sym (same_summary r s alike.recorded)) otherTook;
        }

    -- neither run kept a record
    neither_kept : (job : Job) → outcome.kept ≡ None → otherOutcome.kept ≡ None → outcome.status ≡ 2 → otherOutcome.status ≡ 2
        → IsUnreadyJob out.output out.files job library libraryAfter sink sinkAfter outcome
        → IsUnreadyJob other.output other.files job otherLibrary otherLibraryAfter otherSink otherSinkAfter otherOutcome
        → HaveSameFiles job (out.files.pairs library) (other.files.pairs otherLibrary)
        → ComeToTheSame out.output.written other.output.written outcome otherOutcome sink sinkAfter otherSink otherSinkAfter
    neither_kept (Loads n) p q two otherTwo mine yours files = absurd mine
    neither_kept (Replays names) p q two otherTwo mine yours files =
        let a = mine.cause in
        let b = yours.cause in
        let read = same_read out other names library libraryAfter otherLibrary otherLibraryAfter a.script b.script a.bytes b.bytes a.opened b.opened a.reads b.reads files in
        let error : mine.error ≡ yours.error = err_one (first_edition (pace_of names.mode) b.bytes) mine.error yours.error (ap (first_edition (pace_of names.mode)) (sym read.script) ∙ a.first) b.first in
        record {
          status = two ∙ sym otherTwo;
          kept = kept_none outcome.kept otherOutcome.kept p q;
          ends = if_absent outcome.kept _ p;
          answers = if_absent outcome.kept _ p;
          text = error_text mine.error;
          took = mine.text;
          other_took = subst (λ (text : List ℕ). Appends (other.output.written otherSink) (other.output.written otherSinkAfter) text) (ap error_text (sym error)) yours.text;
        }

  -- two runs of one job come to the same
  pub runs_are_determined : RunsAreDetermined out other
  runs_are_determined job library libraryAfter otherLibrary otherLibraryAfter sink sinkAfter otherSink otherSinkAfter outcome otherOutcome serial run otherRun files few otherFew =
      by_kept outcome.kept otherOutcome.kept refl refl
    where
      by_kept : (a b : Option RecordValue) → outcome.kept ≡ a → otherOutcome.kept ≡ b → ComeToTheSame out.output.written other.output.written outcome otherOutcome sink sinkAfter otherSink otherSinkAfter
      by_kept (Some r) (Some s) p q =
          both_kept library libraryAfter otherLibrary otherLibraryAfter sink sinkAfter otherSink otherSinkAfter outcome otherOutcome job r s serial p q
          (if_some outcome.kept _ r p run.report) (if_some otherOutcome.kept _ s q otherRun.report) files few otherFew
      by_kept (Some r) None p q =
          absurd (not_one_kept out other job library libraryAfter otherLibrary otherLibraryAfter sink sinkAfter otherSink otherSinkAfter outcome otherOutcome r
          (if_some outcome.kept _ r p run.report) (without_record other otherLibrary otherLibraryAfter otherSink otherSinkAfter otherOutcome job otherRun q otherFew).1 files)
      by_kept None (Some s) p q =
          absurd (not_one_kept other out job otherLibrary otherLibraryAfter library libraryAfter otherSink otherSinkAfter sink sinkAfter otherOutcome outcome s
          (if_some otherOutcome.kept _ s q otherRun.report) (without_record out library libraryAfter sink sinkAfter outcome job run p few).1 (same_files_back job (out.files.pairs library) (other.files.pairs otherLibrary) files))
      by_kept None None p q =
          let (two, mine) = without_record out library libraryAfter sink sinkAfter outcome job run p few in
          let (otherTwo, yours) = without_record other otherLibrary otherLibraryAfter otherSink otherSinkAfter otherOutcome job otherRun q otherFew in
          neither_kept library libraryAfter otherLibrary otherLibraryAfter sink sinkAfter otherSink otherSinkAfter outcome otherOutcome job p q two otherTwo mine yours files
