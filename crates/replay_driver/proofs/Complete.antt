-- Where all is as it should be, a run answers 0.
use Rattle.std.proofs.Common.{◌≡◌, ℕ, ◌+◌, ◌≤◌, Bool, true, false, List, [], ◌∷◌, ◌++◌, length, Option, None, Some, Result, Ok, Err, refl, sym, ap, ◌∙◌, subst, arith, inl, inr, ◌⊎◌, append-nil, length-append}
use Rattle.std.specs.Prelude.{IfSome, MatchOption, ◌||◌}
use Rattle.std.specs.List.{list_any, AllByRecursion}
use Rattle.std.specs.Io.KnownBytes.{Consumes, IsAtEnd}
use Rattle.std.proofs.lemmas.Bool.{or_from}
use Rattle.command_words.specs.Words.{CaptureNames}
use Rattle.fw_base.specs.Faults.{Rose}
use Rattle.fw_base.specs.Pairs.{Pair, take_named, TakesOut}
use Rattle.fw_command.specs.declared.script.Line.{Line}
use Rattle.command_words.specs.declared.invocation.Mode.{Mode}
use Rattle.command_words.specs.declared.invocation.Mode.TheVariants.{Serial}
use Rattle.fw_command.specs.declared.script.Pace.{Pace}
use Rattle.fw_command.specs.declared.script.Script.{Script}
use Rattle.fw_command.specs.Scripts.{script_of}
use Rattle.report_texts.specs.CaptureEnds.{is_unread}
use Rattle.report_texts.specs.declared.capture_end.CaptureEnd.{CaptureEnd}
use Rattle.report_texts.specs.declared.capture_end.CaptureEnd.TheVariants.{Read, Stopped}
use Rattle.report_texts.specs.declared.ends.Answer.{Answer}
use Rattle.report_texts.specs.declared.ends.Answer.TheVariants.{Refused, Listed}
use Rattle.report_texts.specs.declared.ends.Ends.{Ends}
use Rattle.report_texts.specs.declared.ends.LineAnswer.{LineAnswer}
use Rattle.fw_world.specs.RecordValue.{RecordValue}
use Rattle.load_maker.specs.Load as load
use Rattle.fw_base.specs.declared.limits.TheConstants.{MOST_LOAD_RECORDS}
use Rattle.load_laws.proofs.MadeCaptures.{captures_whole}
use Rattle.pcap_read.specs.Reading.{Captured, Place, Open, Closed, AtBoundary, HasFront, Stops, at_end}
use Rattle.pcap_read.specs.declared.capture_fault.CaptureFault.{CaptureFault}
use Rattle.pcap_read.specs.declared.capture_fault.CaptureFault.TheVariants.{ReadFault}
use Rattle.pcap_read.proofs.OneFront.{front_unique, front_stays}
use Rattle.rule_chain.specs.Configuration.{Configuration}
use Rattle.rule_chain.specs.First.{first_configuration}
use Rattle.capture_tracks.specs.Commands.{Listing, line_answer, listed_answer, listing_of}
use Rattle.capture_tracks.specs.Reading.{Track, IsRead, AllRead, IsEnd}
use Rattle.capture_tracks.specs.Commands.{lines_outcome}
use Rattle.capture_tracks.specs.Replay.{limit_for}
use Rattle.capture_tracks.specs.declared.opened.OpenedCapture.{OpenedCapture}
use Rattle.replay_setup.specs.FirstEdition.{◌>>=◌, first_edition, configuration_behind, listings_of, answered_line, listed_first, with_answer, read_script}
use Rattle.replay_setup.specs.NamesRead.{ReadsScript}
use Rattle.replay_driver.specs.Found.{FindsReplay, FindsLoad, IsReplayOf, made_capture}
use Rattle.replay_setup.specs.InMemory.{known_left, no_failures}
use Rattle.replay_setup.specs.Openings.{OpensAll}
use Rattle.replay_driver.specs.Promises.{AllWhole, IsAccepted, IsComplete, IsCompleteJob}
use Rattle.replay_driver.specs.Run.{IsRunOf}
use Rattle.replay_driver.specs.RunResult.{result_status, report_status, is_stopped, is_refused}
use Rattle.replay_driver.specs.Served.{ReplayNames, Job, Replays, Loads}
use Rattle.replay_setup.specs.FirstEdition.{pace_of}
use Rattle.buffered_io.specs.WholeSource.{ReadsAll}
use Rattle.replay_setup.specs.declared.first_edition.FirstEdition.{FirstEdition}
use Rattle.replay_setup.specs.declared.outcome.Outcome.{Outcome}
use Rattle.replay_driver.specs.declared.run_result.RunResult.{RunResult}
use Rattle.replay_driver.specs.declared.run_result.RunResult.TheVariants.{Usage, Unread, Unready, Reported, Summed}
use Rattle.replay_setup.specs.declared.script_error.ScriptError.{ScriptError}
use Rattle.replay_driver.proofs.AcceptedLoad.{load_accepted, load_ready}
use Rattle.replay_driver.proofs.LoadWords.{CanBeMade}
use Rattle.replay_setup.proofs.Openings.{opens_length}
use Rattle.replay_setup.proofs.Logic.{IfSome-both, ok_same}
use Rattle.replay_setup.proofs.QuietReads.{took_from, all_bytes, not_risen}
use Rattle.replay_driver.proofs.Statuses.{all_well}
use Rattle.replay_setup.proofs.Told.{names_steady}
use Rattle.replay_setup.specs.Outside.{Files, Output}

-- a capture that ends behind a whole record was read to its end
ends_well : (limit : ℕ) (whole bytes : List ℕ) (left : Option (List ℕ)) (records read : List Captured) (F : Type 0) (place : Place) (stop : Option CaptureFault) → HasFront limit whole records (Open AtBoundary)
    → Consumes (Some whole) left bytes → HasFront limit bytes read place → Stops (IsAtEnd left) F place stop → (F → stop ≡ Some ReadFault → ⊥) → stop ≡ None
ends_well limit whole bytes None records read F place stop front taken here stops quiet = absurd taken
ends_well limit whole bytes (Some ys) records read F (Closed fault) stop front taken here stops quiet =
    let stays = front_stays limit bytes ys read fault here in
    let same = front_unique limit whole records read (Open AtBoundary) (Closed fault) front (subst (λ (b : List ℕ). HasFront limit b read (Closed fault)) (sym taken) stays) in
    let no = same.1 in absurd (cc)
ends_well limit whole bytes (Some ys) records read F (Open place) stop front taken here (inr failed) quiet = absurd (quiet failed.0 failed.1)
ends_well limit whole bytes (Some ys) records read F (Open place) stop front taken here (inl ended) quiet =
    let all : whole ≡ bytes = taken ∙ ap (λ l. bytes ++ l) ended.0 ∙ append-nil bytes in
    let same = front_unique limit whole records read (Open AtBoundary) (Open place) front (subst (λ (b : List ℕ). HasFront limit b read (Open place)) (sym all) here) in
    let opened : AtBoundary ≡ place = let e = same.1 in cc in
    ended.1 ∙ ap at_end (sym opened)

-- an end that tells no fault
quiet_end : (end : CaptureEnd) (records : List Captured) (number : ℕ) (stop : Option CaptureFault) (faults : ℕ) → IsEnd end records number stop faults → stop ≡ None → (is_unread end ≡ false) × (is_stopped end ≡ false)
quiet_end (Read count) records number stop faults is none = (refl, refl)
quiet_end (Stopped at fault count) records number stop faults is none = let some = is.0 in absurd (cc)

none_of_both : {X : Type 0} (test : X → Bool) (xs ys : List X) → list_any test xs ≡ false → list_any test ys ≡ false → list_any test (xs ++ ys) ≡ false
none_of_both test [] ys p q = q
none_of_both test (x ∷ xs) ys p q = by_first (test x) refl p (λ more. none_of_both test xs ys more q)
  where
    by_first : (b : Bool) → test x ≡ b → list_any test (x ∷ xs) ≡ false → (list_any test xs ≡ false → list_any test (xs ++ ys) ≡ false) → list_any test ((x ∷ xs) ++ ys) ≡ false
    by_first true is p behind = let t : (true || list_any test xs) ≡ false = sym (ap (λ (b : Bool). b || list_any test xs) is) ∙ p in absurd (cc)
    by_first false is p behind = or_from (test x) (list_any test (xs ++ ys)) is (behind (sym (ap (λ (b : Bool). b || list_any test xs) is) ∙ p))

-- ---- the answers before `live`

-- none of them is a refusal
answered_well : (line : ℕ) (shown : Answer) (a : Option LineAnswer) → answered_line line shown ≡ Ok a → list_any is_refused (with_answer a []) ≡ false
answered_well line (Refused fault) a is = absurd (cc)
answered_well line (Listed edition table) a is = subst (λ (o : Option LineAnswer). list_any is_refused (with_answer o []) ≡ false) (ok_same (Some (line_answer line (Listed edition table))) a is) refl

first_well : (config : Configuration) (line : ℕ) (listing : Option Listing) (a : Option LineAnswer) → listed_first config line listing ≡ Ok a → list_any is_refused (with_answer a []) ≡ false
first_well config line None a is = subst (λ (o : Option LineAnswer). list_any is_refused (with_answer o []) ≡ false) (ok_same None a is) refl
first_well config line (Some listing) a is = answered_well line (listed_answer config 1 listing) a is

before_others : (a : Option LineAnswer) (others : List LineAnswer) → with_answer a others ≡ with_answer a [] ++ others
before_others None others = refl
before_others (Some x) others = refl

listed_well : (config : Configuration) (lines : List Line) (answers : List LineAnswer) → listings_of config lines ≡ Ok answers → list_any is_refused answers ≡ false
unfolding listings_of
listed_well config [] answers is = subst (λ (l : List LineAnswer). list_any is_refused l ≡ false) (ok_same [] answers is) refl
listed_well config (line ∷ lines) answers is = by_first (listed_first config line.line (listing_of line.command)) refl is (λ others q. listed_well config lines others q)
  where
    by_rest : (a : Option LineAnswer) (q : Result (List LineAnswer) ScriptError) → ((others : List LineAnswer) → listings_of config lines ≡ Ok others → list_any is_refused others ≡ false) → list_any is_refused (with_answer a []) ≡ false → listings_of config lines ≡ q
        → (q >>= λ (others : List LineAnswer). let r : Result (List LineAnswer) ScriptError = Ok (with_answer a others) in r) ≡ Ok answers → list_any is_refused answers ≡ false
    by_rest a (Err e) behind one q is = absurd (cc)
    by_rest a (Ok others) behind one q is =
        subst (λ (l : List LineAnswer). list_any is_refused l ≡ false) (sym (before_others a others) ∙ ok_same (with_answer a others) answers is)
        (none_of_both is_refused (with_answer a []) others one (behind others q))

    by_first : (r : Result (Option LineAnswer) ScriptError) → listed_first config line.line (listing_of line.command) ≡ r
        → (r >>= λ (a : Option LineAnswer). listings_of config lines >>= λ (others : List LineAnswer). Ok (with_answer a others)) ≡ Ok answers
        → ((others : List LineAnswer) → listings_of config lines ≡ Ok others → list_any is_refused others ≡ false) → list_any is_refused answers ≡ false
    by_first (Err e) one is behind = absurd (cc)
    by_first (Ok a) one is behind = by_rest a (listings_of config lines) behind (first_well config line.line (listing_of line.command) a one) refl is

edition_well : (pace : Pace) (bytes : List ℕ) (edition : FirstEdition) → first_edition pace bytes ≡ Ok edition → list_any is_refused edition.answers ≡ false
unfolding first_edition
edition_well pace bytes edition is = by_script (read_script (script_of pace bytes)) is
  where
    by_listings : (script : Script) (config : Configuration) (r : Result (List LineAnswer) ScriptError) → listings_of config script.before ≡ r
        → (r >>= λ (answers : List LineAnswer). let q : Result FirstEdition ScriptError = Ok (record { config = config; answers = answers; live = script.live }) in q) ≡ Ok edition → list_any is_refused edition.answers ≡ false
    by_listings script config (Err e) one is = absurd (cc)
    by_listings script config (Ok answers) one is =
        subst (λ (e : FirstEdition). list_any is_refused e.answers ≡ false) (ok_same (record { config = config; answers = answers; live = script.live }) edition is) (listed_well config script.before answers one)

    by_config : (script : Script) (r : Result Configuration ScriptError) → (r >>= λ (config : Configuration). listings_of config script.before >>= λ (answers : List LineAnswer).
        let q : Result FirstEdition ScriptError = Ok (record { config = config; answers = answers; live = script.live }) in q) ≡ Ok edition → list_any is_refused edition.answers ≡ false
    by_config script (Err e) is = absurd (cc)
    by_config script (Ok config) is = by_listings script config (listings_of config script.before) refl is

    by_script : (r : Result Script ScriptError) → (r >>= λ (script : Script). configuration_behind first_configuration script.before >>= λ (config : Configuration). listings_of config script.before >>= λ (answers : List LineAnswer).
        let q : Result FirstEdition ScriptError = Ok (record { config = config; answers = answers; live = script.live }) in q) ≡ Ok edition → list_any is_refused edition.answers ≡ false
    by_script (Err e) is = absurd (cc)
    by_script (Ok script) is = by_config script (configuration_behind first_configuration script.before) is

-- ---- captures

module _ {S : Type 0} (left : S → Option (List ℕ)) (failures : S → ℕ) where
  -- what is known of an opened capture whose bytes are told and whole
  abbrev pub IsWhole : ℕ → OpenedCapture S → Type 0
  IsWhole limit opened = (bytes : List ℕ) × (left opened.source ≡ Some bytes) × (failures opened.source ≡ 0) × ((records : List Captured) × HasFront limit bytes records (Open AtBoundary))

  read_by : (limit : ℕ) (opened : OpenedCapture S) (after : S) (track : Track) (end : CaptureEnd) → IsWhole limit opened → (read : IsRead left failures limit opened.source after track end)
      → (Rose (failures opened.source) (failures after) → read.stop ≡ Some ReadFault → ⊥) → (is_unread end ≡ false) × (is_stopped end ≡ false)
  read_by limit opened after track end (bytes, told, fresh, whole) read quiet =
      let (place, here, stops, numbered) = read.stopped.behind in
      let taken : Consumes (Some bytes) (left after) track.bytes = subst (λ (l : Option (List ℕ)). Consumes l (left after) track.bytes) told read.stopped.taken in
      let none = ends_well limit bytes track.bytes (left after) whole.0 track.records (Rose (failures opened.source) (failures after)) place read.stop whole.1 taken here stops quiet in
      quiet_end end track.records read.number read.stop (failures after) read.told none

  read_well : (limit : ℕ) (opened : OpenedCapture S) (after : S) (track : Track) (end : CaptureEnd) → IsWhole limit opened → IsRead left failures limit opened.source after track end → failures after ≡ 0
      → (is_unread end ≡ false) × (is_stopped end ≡ false)
  read_well limit opened after track end whole read quiet =
      let fresh = whole.2 in
      read_by limit opened after track end whole read (λ rose stop. not_risen (failures opened.source) (failures after) fresh quiet rose)

  all_read_well : (limit : ℕ) (opened : List (OpenedCapture S)) (sources : List S) (tracks : List Track) (ends : List CaptureEnd) → AllByRecursion (IsWhole limit) opened → AllRead left failures limit opened sources tracks ends
      → AllByRecursion (λ s. failures s ≡ 0) sources → (list_any is_unread ends ≡ false) × (list_any is_stopped ends ≡ false)
  all_read_well limit [] [] [] [] whole read quiet = (refl, refl)
  all_read_well limit [] [] [] (end ∷ ends) whole read quiet = absurd read
  all_read_well limit [] [] (track ∷ tracks) ends whole read quiet = absurd read
  all_read_well limit [] (source ∷ sources) tracks ends whole read quiet = absurd read
  all_read_well limit (o ∷ os) [] tracks ends whole read quiet = absurd read
  all_read_well limit (o ∷ os) (source ∷ sources) [] ends whole read quiet = absurd read
  all_read_well limit (o ∷ os) (source ∷ sources) (track ∷ tracks) [] whole read quiet = absurd read
  all_read_well limit (o ∷ os) (source ∷ sources) (track ∷ tracks) (end ∷ ends) whole read quiet =
      let (port, here, behind) = read in
      let one = read_well limit o source track end whole.0 here quiet.0 in
      let others = all_read_well limit os sources tracks ends whole.1 behind quiet.1 in
      (or_from (is_unread end) (list_any is_unread ends) one.0 others.0, or_from (is_stopped end) (list_any is_stopped ends) one.1 others.1)

  -- a replay of whole captures beside an accepted script has status 0
  replayed_well : (mode : Mode) (cache : Option ℕ) (script : List ℕ) (opened : List (OpenedCapture S)) (kept : RecordValue) (ends : Ends) (sources : List S) → IsAccepted (pace_of mode) script → AllByRecursion (IsWhole (limit_for (length opened))) opened
      → IsReplayOf left failures mode cache script opened kept ends sources → AllByRecursion (λ s. failures s ≡ 0) sources → report_status ends.captures ends.answers ≡ 0
  replayed_well mode cache script opened kept ends sources accepted whole of quiet =
      let still : AllByRecursion (λ s. failures s ≡ 0) of.beside.replayed.sources.items = subst (AllByRecursion (λ s. failures s ≡ 0)) of.beside.given_back quiet in
      let read = all_read_well (limit_for (length opened)) opened of.beside.replayed.sources.items of.beside.replay.tracks of.beside.replayed.ends.captures whole of.beside.replay.read still in
      let is : ◌≡◌ {A = Result FirstEdition ScriptError} (Ok of.edition) (Ok accepted.edition) = sym of.first ∙ accepted.first in
      let same : of.edition ≡ accepted.edition = cc in
      let live : list_any is_refused of.beside.replayed.ends.answers ≡ false =
      ap (list_any is_refused) (of.beside.replay.answered ∙ ap (λ (e : FirstEdition). (lines_outcome e.config e.live).answers) same) ∙ accepted.accepted in
      let answers : list_any is_refused ends.answers ≡ false =
      ap (list_any is_refused) of.beside.lines_answered ∙ none_of_both is_refused of.edition.answers of.beside.replayed.ends.answers (edition_well (pace_of mode) script of.edition of.first) live in
      all_well ends.captures ends.answers (ap (list_any is_unread) of.beside.captures_ended ∙ read.0) (ap (list_any is_stopped) of.beside.captures_ended ∙ read.1) answers

-- no read of a made capture failed
none_failed : (sources : List (List ℕ)) → AllByRecursion (λ source. no_failures source ≡ 0) sources
none_failed [] = tt
none_failed (source ∷ sources) = (refl, none_failed sources)

module _ {L S : Type 0} (files : Files L S) where
  -- the captures of a told list are whole where their names stand
  all_whole : (limit : ℕ) (old new : L) (captures : List CaptureNames) (opened : List (OpenedCapture S)) (told : List Pair) → OpensAll files old new captures opened
      → files.pairs old ≡ Some told → AllWhole limit captures told → AllByRecursion (IsWhole files.left files.failures limit) opened
  all_whole limit old new [] [] told all is whole = tt
  all_whole limit old new [] (o ∷ os) told all is whole = absurd all
  all_whole limit old new (c ∷ cs) [] told all is whole = absurd all
  all_whole limit old new (c ∷ cs) (o ∷ os) told all is (bytes, behind, stands, front, others) =
      let (port, between, opens, more) = all in
      let took = took_from (files.pairs old) (files.pairs between) c.name (files.left o.source) told (c.name, bytes) behind opens.took is stands in
      ((bytes, took.0, opens.fresh, front), all_whole limit between new cs os behind more took.1 others)

module _ {K S L : Type 0} (output : Output K) (files : Files L S)
    (library libraryAfter : L) (sink sinkAfter : K) (outcome : Outcome S) where
  -- a script that was opened and read has the told bytes
  reads_told : (names : ReplayNames) (complete : IsComplete output files names library libraryAfter sink sinkAfter outcome) (between : L) (script : S) (bytes : List ℕ)
      → ReadsScript files library between names.script script bytes → (bytes ≡ complete.script) × (files.pairs between ≡ Some complete.behind)
  reads_told names complete between script bytes reads =
      let opened = took_from _ _ names.script _ complete.before _ _ reads.opens.took complete.told complete.script_stands in (
        all_bytes complete.script bytes (files.left script) (files.failures reads.opened) (files.failures script)
            (subst (λ (l : Option (List ℕ)). ReadsAll l (files.left script) (files.failures reads.opened) (files.failures script) 1048577 bytes) opened.0 reads.reads) complete.script_short,
        opened.1,
      )

  replay_status : (names : ReplayNames) → IsComplete output files names library libraryAfter sink sinkAfter outcome → (result : RunResult)
      → FindsReplay files names library libraryAfter result outcome.sources.items → result_status result ≡ 0
  replay_status names complete Usage finds = absurd finds
  replay_status names complete (Unread name) (inl found) = absurd (complete.library_quiet found.refuses.rose)
  replay_status names complete (Unread name) (inr (inl found)) =
      let quiet = subst (AllByRecursion (λ s. files.failures s ≡ 0)) found.given_back complete.sources_quiet in
      absurd (not_risen (files.failures found.opened) (files.failures found.script) found.opens.fresh quiet.0 found.fails.rose)
  replay_status names complete (Unread name) (inr (inr found)) =
      let still = names_steady files names.script found.before library found.between found.script found.bytes found.opened found.reads in
      absurd (complete.library_quiet (subst (λ (n : ℕ). Rose n (files.faults libraryAfter)) still found.refuses.rose))
  replay_status names complete (Unready error) found =
      let read = reads_told names complete found.reads.between found.script found.bytes found.reads.script_read in
      let ok : first_edition (pace_of names.mode) found.bytes ≡ Ok complete.accepted.edition = ap (first_edition (pace_of names.mode)) read.0 ∙ complete.accepted.first in
      let bad : first_edition (pace_of names.mode) found.bytes ≡ Err error = found.first in
      absurd (cc)
  replay_status names complete (Reported kept ends journal) (asked, found) =
      let read = reads_told names complete found.reads.between found.script found.bytes found.reads.script_read in
      let quiet = subst (AllByRecursion (λ s. files.failures s ≡ 0)) found.given_back complete.sources_quiet in
      let many = opens_length files found.reads.between libraryAfter names.captures found.opened found.reads.captures_opened in
      let whole = all_whole files (limit_for (length names.captures)) found.reads.between libraryAfter names.captures found.opened complete.behind found.reads.captures_opened read.1 complete.captures_whole in
      replayed_well files.left files.failures names.mode names.cache found.bytes found.opened kept ends found.captures (subst (IsAccepted (pace_of names.mode)) (sym read.0) complete.accepted)
      (subst (λ (n : ℕ). AllByRecursion (IsWhole files.left files.failures (limit_for n)) found.opened) (sym many) whole) found.replay quiet.1
  replay_status names complete (Summed kept ends) finds = absurd finds

  load_status : (n : ℕ) → n ≤ MOST_LOAD_RECORDS → (result : RunResult) → FindsLoad n result → result_status result ≡ 0
  load_status n few Usage finds = absurd finds
  load_status n few (Unread name) finds = absurd finds
  load_status n few (Unready error) found = absurd (load_ready n few error found)
  load_status n few (Reported kept ends journal) finds = absurd finds
  load_status n few (Summed kept ends) found =
      let (records, many, front) = captures_whole n (limit_for 1) (omega (arith, few)) in
      replayed_well known_left no_failures Serial None (load.load_script n) (made_capture (load.load_capture n) ∷ []) kept ends found.sources (load_accepted n few)
      ((load.load_capture n, refl, refl, (records, front)), tt) found.replay (none_failed found.sources)

  -- a run of what is complete ends with status 0, or 6
  pub ends_0 : (job : Job) → CanBeMade job → IsRunOf output files job library libraryAfter sink sinkAfter outcome
      → IsCompleteJob output files job library libraryAfter sink sinkAfter outcome → (outcome.status ≡ 0) ⊎ (outcome.status ≡ 6)
  ends_0 job few (inl memory) complete = inr memory.status
  ends_0 (Replays names) few (inr a) complete = elim a.written_result.writes.answered [
    | inl h ↦ inl (h.0 ∙ replay_status names complete a.result a.finds)
    | inr h ↦ absurd (complete.sink_quiet h.2)
  ]
  ends_0 (Loads n) few (inr a) complete = elim a.written_result.writes.answered [
    | inl h ↦ inl (h.0 ∙ load_status n few a.result a.finds.2)
    | inr h ↦ absurd (complete.sink_quiet h.2)
  ]

  -- where all is as it should be a command's run answers 0, or 6 for want of memory
  pub all_complete : (command : Option Job) → IfSome command CanBeMade → IfSome command (λ job. IsRunOf output files job library libraryAfter sink sinkAfter outcome)
      → IfSome command (λ job. IsCompleteJob output files job library libraryAfter sink sinkAfter outcome → (outcome.status ≡ 0) ⊎ (outcome.status ≡ 6))
  all_complete command few found = IfSome-both command _ _ _ (λ job few run complete. ends_0 job few run complete) few found
