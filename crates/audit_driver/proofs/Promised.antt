-- What an audit promises follows from what it does exactly.
use Rattle.std.proofs.Common.{◌≡◌, ◌≢◌, ℕ, false, ◌||◌, List, [], ◌∷◌, ◌++◌, Option, None, Some, Ok, Err, refl, ap, ◌∙◌, sym, subst, arith, inl, inr, ◌⊎◌, take, length, suc}
use Rattle.std.specs.List.{AllByRecursion}
use Rattle.std.proofs.lemmas.List.{length-map}
use Rattle.buffered_io.specs.WholeSource.{ReadsAll}
use Rattle.capture_tracks.specs.Reading.{IsEnd}
use Rattle.capture_tracks.specs.Replay.{limit_for}
use Rattle.capture_tracks.specs.declared.opened.OpenedCapture.{OpenedCapture}
use Rattle.command_words.specs.declared.invocation.Mode.TheVariants.{Serial}
use Rattle.fw_base.specs.Faults.{Rose}
use Rattle.fw_base.specs.Pairs.{Pair}
use Rattle.replay_setup.specs.Openings.{Opens, file_names, pairs_without}
use Rattle.capture_tracks.specs.Replay.{sources_of}
use Rattle.report_texts.specs.declared.capture_end.CaptureEnd.{CaptureEnd}
use Rattle.pcap_read.specs.Reading.{Captured}
use Rattle.pcap_read.specs.declared.capture_fault.CaptureFault.{CaptureFault}
use Rattle.replay_setup.specs.FirstEdition.{first_edition}
use Rattle.replay_setup.specs.NamesRead.{HasNoEdition, IsUnreadable}
use Rattle.replay_setup.specs.FailedReads.{FailedRead}
use Rattle.replay_setup.specs.Outside.{Files, Output}
use Rattle.replay_setup.specs.FirstEdition.{pace_of}
use Rattle.replay_setup.specs.declared.outcome.Outcome.{Outcome}
use Rattle.replay_setup.specs.declared.script_error.ScriptError.{ScriptError}
use Rattle.replay_setup.proofs.QuietReads.{took_from, all_bytes, not_risen}
use Rattle.replay_setup.proofs.FailedReads.{failed_read}
use Rattle.replay_setup.proofs.Told.{all_fresh, all_named, names_steady, one_out, script_refused, script_failed, capture_refused}
use Rattle.audit_driver.specs.AuditNames.{AuditNames}
use Rattle.audit_driver.specs.AuditTexts.{result_status}
use Rattle.audit_driver.specs.Found.{FindsAudit, ConcludesAudit, IsAudited, IsBehindReport}
use Rattle.audit_driver.specs.Promises.{IsQuietAudit, TellsAudit, SaysYes, SaysNo, SaysUnready, SaysUnread, names_in_order}
use Rattle.audit_driver.specs.Run.{IsAuditRun}
use Rattle.audit_driver.specs.declared.audit_result.AuditResult.{AuditResult}
use Rattle.audit_driver.specs.declared.audit_result.AuditResult.TheVariants.{Unread, Unready, TooLong, No, Yes}

-- what holds of all of a list holds of one between others
one_of_all : {X : Type 0} (P : X → Type 0) (before : List X) (one : X) (behind all : List X) → all ≡ before ++ one ∷ behind → AllByRecursion P all → P one
one_of_all P [] one behind all is holds = (subst (AllByRecursion P) is holds).0
one_of_all P (x ∷ before) one behind all is holds = one_of_all P before one behind (before ++ one ∷ behind) refl (subst (AllByRecursion P) is holds).1

-- a source of which no read failed is no source that failed
failed_none : (end : CaptureEnd) (records : List Captured) (number : ℕ) (stop : Option CaptureFault) (faults : ℕ) → IsEnd end records number stop faults → faults ≡ 0 → FailedRead end → ⊥
failed_none end records number stop faults told zero (at, count, is, some) =
    let here = subst (λ (e : CaptureEnd). IsEnd e records number stop faults) is told in
    let same = here.2 in
    absurd (omega arith)

-- as many sources are handed back as captures were opened
all_sources : {S : Type 0} (left : S → Option (List ℕ)) (failures : S → ℕ) (edition : _) (bytes : List ℕ) (captures : _) (opened : List (OpenedCapture S)) (result : AuditResult) (sources : List S)
    → ConcludesAudit left failures edition bytes captures opened result sources → length sources ≡ length opened
all_sources left failures edition bytes captures opened (Unread name) sources concludes = concludes.0
all_sources left failures edition bytes captures opened (Unready error) sources concludes = absurd concludes
all_sources left failures edition bytes captures opened TooLong sources concludes = ap length concludes.0 ∙ length-map opened (λ o. o.source)
all_sources left failures edition bytes captures opened (No line) sources concludes = concludes.0
all_sources left failures edition bytes captures opened Yes sources concludes = concludes.0

module _ {K S L : Type 0} (output : Output K) (files : Files L S) (names : AuditNames) (library libraryAfter : L) (sink sinkAfter : K) (outcome : Outcome S) where
  abbrev Run : Type 0
  Run = IsAuditRun output files names library libraryAfter sink sinkAfter outcome

  abbrev Tells : AuditResult → Type 0
  Tells result = TellsAudit output files names library libraryAfter sink sinkAfter outcome result

  -- what was found, with another status than 5 and 6: the status is its, and its whole line was written
  record Answered (status : ℕ) : Type 0 where
    result : AuditResult
    tells : Tells result
    is : result_status result ≡ status

  answered : Run → (status : ℕ) → outcome.status ≡ status → status ≢ 5 → status ≢ 6 → Answered status
  answered (inl memory) status is other none = absurd (none (sym is ∙ memory.status))
  answered (inr a) status is other none = elim a.written_result.writes.answered [
    | inl h ↦ record { result = a.result; tells = record { finds = a.finds; text = h.1 }; is = sym h.0 ∙ is }
    | inr h ↦ absurd (other (sym is ∙ h.0))
  ]

  -- ---- each status has its cause

  -- with status 0 the report is that of a legal record
  pub audit_yes : Run → outcome.status ≡ 0 → SaysYes output files names library libraryAfter sink sinkAfter outcome
  audit_yes run zero = let a = answered run 0 zero (omega arith) (omega arith) in go a.result a.tells a.is
    where
      go : (result : AuditResult) → Tells result → result_status result ≡ 0 → SaysYes output files names library libraryAfter sink sinkAfter outcome
      go (Unread name) tells e = absurd (omega arith)
      go (Unready error) tells e = absurd (omega arith)
      go TooLong tells e = absurd (omega arith)
      go (No line) tells e = absurd (omega arith)
      go Yes tells e = tells

  -- with status 7 it is too long, or a line is wrong
  pub audit_no : Run → outcome.status ≡ 7 → SaysNo output files names library libraryAfter sink sinkAfter outcome
  audit_no run seven = let a = answered run 7 seven (omega arith) (omega arith) in go a.result a.tells a.is
    where
      go : (result : AuditResult) → Tells result → result_status result ≡ 7 → SaysNo output files names library libraryAfter sink sinkAfter outcome
      go (Unread name) tells e = absurd (omega arith)
      go (Unready error) tells e = absurd (omega arith)
      go TooLong tells e = inl tells
      go (No line) tells e = inr (line, tells)
      go Yes tells e = absurd (omega arith)

  -- with status 2 the script gives no edition
  pub audit_unready : Run → outcome.status ≡ 2 → SaysUnready output files names library libraryAfter sink sinkAfter outcome
  audit_unready run two = let a = answered run 2 two (omega arith) (omega arith) in go a.result a.tells a.is
    where
      go : (result : AuditResult) → Tells result → result_status result ≡ 2 → SaysUnready output files names library libraryAfter sink sinkAfter outcome
      go (Unread name) tells e = absurd (omega arith)
      go (Unready error) tells e = (error, tells)
      go TooLong tells e = absurd (omega arith)
      go (No line) tells e = absurd (omega arith)
      go Yes tells e = absurd (omega arith)

  -- with status 4 a name could not be opened or read
  pub audit_unread : Run → outcome.status ≡ 4 → SaysUnread output files names library libraryAfter sink sinkAfter outcome
  audit_unread run four = let a = answered run 4 four (omega arith) (omega arith) in go a.result a.tells a.is
    where
      go : (result : AuditResult) → Tells result → result_status result ≡ 4 → SaysUnread output files names library libraryAfter sink sinkAfter outcome
      go (Unread name) tells e = (name, tells)
      go (Unready error) tells e = absurd (omega arith)
      go TooLong tells e = absurd (omega arith)
      go (No line) tells e = absurd (omega arith)
      go Yes tells e = absurd (omega arith)

  -- what is found has none of these statuses
  never : (result : AuditResult) → (result_status result ≢ 1) × (result_status result ≢ 3) × (result_status result ≢ 5) × (result_status result ≢ 6)
  never (Unread name) = (omega arith, omega arith, omega arith, omega arith)
  never (Unready error) = (omega arith, omega arith, omega arith, omega arith)
  never TooLong = (omega arith, omega arith, omega arith, omega arith)
  never (No line) = (omega arith, omega arith, omega arith, omega arith)
  never Yes = (omega arith, omega arith, omega arith, omega arith)

  -- no audit has status 1
  pub audit_never_1 : Run → outcome.status ≢ 1
  audit_never_1 run one = let a = answered run 1 one (omega arith) (omega arith) in (never a.result).0 a.is

  -- no audit has status 3
  pub audit_never_3 : Run → outcome.status ≢ 3
  audit_never_3 run three = let a = answered run 3 three (omega arith) (omega arith) in (never a.result).1 a.is

  -- with status 5 the sink's count rose
  pub audit_risen : Run → outcome.status ≡ 5 → Rose (output.faults sink) (output.faults sinkAfter)
  audit_risen (inl memory) five = let six = memory.status in absurd (omega arith)
  audit_risen (inr a) five = elim a.written_result.writes.answered [
    | inl h ↦ absurd ((never a.result).2 (sym h.0 ∙ five))
    | inr h ↦ h.2
  ]

  -- with status 6 nothing was written
  pub audit_silent : Run → outcome.status ≡ 6 → sinkAfter ≡ sink
  audit_silent (inl memory) six = memory.nothing_written
  audit_silent (inr a) six = elim a.written_result.writes.answered [
    | inl h ↦ absurd ((never a.result).3 (sym h.0 ∙ six))
    | inr h ↦ let five = h.0 in absurd (omega arith)
  ]

  -- an audit keeps no record
  pub audit_keeps_none : Run → outcome.kept ≡ None
  audit_keeps_none (inl memory) = memory.nothing_kept
  audit_keeps_none (inr a) = a.written_result.nothing_kept

  -- ---- openings

  -- all names were opened
  audited_names : (result : AuditResult) (told : List Pair) → IsAudited files names library libraryAfter result outcome.sources.items → files.pairs library ≡ Some told
      → files.pairs libraryAfter ≡ pairs_without (take (length outcome.sources.items) (names_in_order names)) told
  audited_names result told a is =
      let count = all_sources files.left files.failures a.edition a.bytes names.captures a.opened result a.captures a.concludes in
      rw (a.given_back) (one_out (files.pairs library) (files.pairs a.between) names.report (take (suc (length a.captures)) (names.script ∷ file_names names.captures)) (files.left a.reads_report.opened) told (files.pairs libraryAfter) a.reads_report.opens.took is
      (λ rest gone. all_named files names.script names.captures a.between libraryAfter a.script a.script_bytes a.opened a.captures rest a.reads gone count))

  -- the names that were opened are taken out of the told list, in their order
  pub audit_openings : Run → outcome.status ≢ 6 → (told : List Pair) → files.pairs library ≡ Some told → files.pairs libraryAfter ≡ pairs_without (take (length outcome.sources.items) (names_in_order names)) told
  audit_openings (inl memory) other told is = absurd (other memory.status)
  audit_openings (inr a) other told is = go a.result a.finds
    where
      go : (result : AuditResult) → FindsAudit files names library libraryAfter result outcome.sources.items → files.pairs libraryAfter ≡ pairs_without (take (length outcome.sources.items) (names_in_order names)) told
      go (Unread name) (inl r) = rw (r.nothing_opened) (r.refuses.list_kept ∙ is)
      go (Unread name) (inr (inl f)) =
          let opens = subst (λ (n : List ℕ). Opens files library libraryAfter n f.opened) f.named f.opens in
          rw (f.given_back) (one_out (files.pairs library) (files.pairs libraryAfter) names.report [] (files.left f.opened) told (files.pairs libraryAfter) opens.took is (λ rest gone. gone))
      go (Unread name) (inr (inr (inl b))) =
          rw (b.given_back) (one_out (files.pairs library) (files.pairs b.between) names.report (take (length b.behind) (names.script ∷ file_names names.captures)) (files.left b.reads.opened) told (files.pairs libraryAfter) b.reads.opens.took is
          (λ rest gone. elim b.found [
            | inl r ↦ script_refused files names.script names.captures b.between libraryAfter name b.behind rest r gone
            | inr more ↦ elim more [
              | inl f ↦ script_failed files names.script names.captures b.between libraryAfter name b.behind rest f gone
              | inr r ↦ capture_refused files names.script names.captures b.between libraryAfter name b.behind rest r gone
            ]
          ]))
      go (Unread name) (inr (inr (inr au))) = audited_names (Unread name) told au is
      go (Unready error) b =
          let n = b.found in
          let count : length (sources_of n.opened) ≡ length n.opened = length-map n.opened (λ o. o.source) in
          rw (b.given_back, n.given_back) (one_out (files.pairs library) (files.pairs b.between) names.report (take (suc (length (sources_of n.opened))) (names.script ∷ file_names names.captures)) (files.left b.reads.opened) told (files.pairs libraryAfter) b.reads.opens.took is
          (λ rest gone. all_named files names.script names.captures b.between libraryAfter n.script n.bytes n.opened (sources_of n.opened) rest n.reads gone count))
      go TooLong au = audited_names TooLong told au is
      go (No line) au = audited_names (No line) told au is
      go Yes au = audited_names Yes told au is

  -- ---- completeness

  -- where nothing failed and the script gives an edition, an audit says yes or no, or memory ran out
  pub audit_quiet : Run → IsQuietAudit output files names library libraryAfter sink sinkAfter outcome → (outcome.status ≡ 0) ⊎ ((outcome.status ≡ 7) ⊎ (outcome.status ≡ 6))
  audit_quiet (inl memory) quiet = inr (inr memory.status)
  audit_quiet (inr a) quiet = elim a.written_result.writes.answered [
    | inl h ↦ go a.result a.finds h.0
    | inr h ↦ absurd (quiet.sink_quiet h.2)
  ]
    where
      edition_read : (error : ScriptError) (b : IsBehindReport files names.report library libraryAfter outcome.sources.items (λ between behind. HasNoEdition files Serial names.script names.captures between libraryAfter error behind)) → ⊥
      edition_read error b =
          let n = b.found in
          let report = took_from (files.pairs library) (files.pairs b.between) names.report (files.left b.reads.opened) quiet.before _ _ b.reads.opens.took quiet.told quiet.report_stands in
          let script = took_from (files.pairs b.between) (files.pairs n.reads.between) names.script (files.left n.reads.script_read.opened) quiet.between _ _ n.reads.script_read.opens.took report.1 quiet.script_stands in
          let bytes = all_bytes quiet.script n.bytes (files.left n.script) (files.failures n.reads.script_read.opened) (files.failures n.script)
          (subst (λ (l : Option (List ℕ)). ReadsAll l (files.left n.script) (files.failures n.reads.script_read.opened) (files.failures n.script) 1048577 n.bytes) script.0 n.reads.script_read.reads) quiet.script_short in
          let ok : first_edition (pace_of Serial) n.bytes ≡ Ok quiet.edition = ap (first_edition (pace_of Serial)) bytes ∙ quiet.first in
          let bad : first_edition (pace_of Serial) n.bytes ≡ Err error = n.first in
          absurd (cc)

      unreadable : (name : List ℕ) (b : IsBehindReport files names.report library libraryAfter outcome.sources.items (λ between behind. IsUnreadable files names.script names.captures between libraryAfter name behind)) → ⊥
      unreadable name b =
          let steady : files.faults b.between ≡ files.faults library = b.reads.opens.steady in
          let behind = (subst (AllByRecursion (λ (source : S). files.failures source ≡ 0)) b.given_back quiet.sources_quiet).1 in
          elim b.found [
            | inl r ↦ quiet.library_quiet (subst (λ (n : ℕ). Rose n (files.faults libraryAfter)) steady r.refuses.rose)
            | inr more ↦ elim more [
              | inl f ↦ not_risen (files.failures f.opened) (files.failures f.script) f.opens.fresh (subst (AllByRecursion (λ (source : S). files.failures source ≡ 0)) f.given_back behind).0 f.fails.rose
              | inr r ↦
                  let before : files.faults r.between ≡ files.faults library = names_steady files names.script r.before b.between r.between r.script r.bytes r.opened r.reads ∙ steady in
                  quiet.library_quiet (subst (λ (n : ℕ). Rose n (files.faults libraryAfter)) before r.refuses.rose)
            ]
          ]

      unread_one : (name : List ℕ) → IsAudited files names library libraryAfter (Unread name) outcome.sources.items → ⊥
      unread_one name au =
          let fails = au.concludes.2.fails in
          let captures = (subst (AllByRecursion (λ (source : S). files.failures source ≡ 0)) au.given_back quiet.sources_quiet).1.1 in
          let quiet_one = one_of_all (λ (source : S). files.failures source ≡ 0) fails.sources_before fails.source fails.sources_behind au.captures fails.given_back captures in
          let fresh = one_of_all (λ (o : OpenedCapture S). files.failures o.source ≡ 0) fails.before fails.one fails.behind au.opened fails.split (all_fresh files au.reads.between libraryAfter names.captures au.opened au.reads.captures_opened) in
          let failed = failed_read files.left files.failures (limit_for (length au.opened)) (fails.one ∷ []) (fails.source ∷ []) (fails.told ∷ []) (fails.end ∷ []) (fails.port, fails.read, tt) (fresh, tt) (ap (λ b. b || false) fails.unread) in
          elim failed [
            | inl one ↦ failed_none fails.end fails.told.records fails.read.number fails.read.stop (files.failures fails.source) fails.read.told quiet_one one
            | inr none ↦ none
          ]

      go : (result : AuditResult) → FindsAudit files names library libraryAfter result outcome.sources.items → outcome.status ≡ result_status result → (outcome.status ≡ 0) ⊎ ((outcome.status ≡ 7) ⊎ (outcome.status ≡ 6))
      go (Unread name) (inl r) is = absurd (quiet.library_quiet r.refuses.rose)
      go (Unread name) (inr (inl f)) is =
          absurd (not_risen (files.failures f.opened) (files.failures f.report) f.opens.fresh (subst (AllByRecursion (λ (source : S). files.failures source ≡ 0)) f.given_back quiet.sources_quiet).0 f.fails.rose)
      go (Unread name) (inr (inr (inl b))) is = absurd (unreadable name b)
      go (Unread name) (inr (inr (inr au))) is = absurd (unread_one name au)
      go (Unready error) b is = absurd (edition_read error b)
      go TooLong finds is = inr (inl is)
      go (No line) finds is = inr (inl is)
      go Yes finds is = inl is
