-- What a run promises follows from what it does exactly.
use Rattle.std.proofs.Common.{◌≡◌, ◌≢◌, ℕ, ◌≤◌, Bool, true, List, [], ◌∷◌, Option, None, Some, refl, ap, ◌∙◌, sym, subst, arith, inl, inr, ◌⊎◌, take, length, suc, Vec, Global}
use Rattle.std.specs.Prelude.{IfSome, IfNone, IsSome}
use Rattle.std.specs.List.{list_any}
use Rattle.std.proofs.lemmas.List.{length-map}
use Rattle.std.specs.Io.KnownBytes.{Appends}
use Rattle.fw_base.specs.Faults.{Rose}
use Rattle.fw_base.specs.Pairs.{Pair}
use Rattle.report_texts.specs.CaptureEnds.{is_unread}
use Rattle.report_texts.specs.Report.{report_text}
use Rattle.report_texts.specs.declared.capture_end.CaptureEnd.{CaptureEnd}
use Rattle.report_texts.specs.declared.ends.Ends.{Ends}
use Rattle.report_texts.specs.declared.ends.LineAnswer.{LineAnswer}
use Rattle.fw_world.specs.RecordValue.{RecordValue}
use Rattle.command_words.specs.declared.invocation.Mode.{Mode}
use Rattle.command_words.specs.declared.invocation.Mode.TheVariants.{Serial}
use Rattle.capture_tracks.specs.Reading.{Track, AllRead}
use Rattle.capture_tracks.specs.declared.opened.OpenedCapture.{OpenedCapture}
use Rattle.replay_driver.specs.Found.{FindsJob, FindsWords, FindsReplay, IsReplayOf, ReplaysLoad}
use Rattle.replay_setup.specs.InMemory.{known_left, no_failures}
use Rattle.replay_setup.specs.Openings.{pairs_without}
use Rattle.capture_tracks.specs.Replay.{sources_of}
use Rattle.replay_driver.specs.Promises.{IsKept, IsReported, IsSummed, IsUnreadJob, IsUnreadyJob, IsQuiet, HasRefusedCommand, IsFaulty, opening_order}
use Rattle.replay_setup.specs.FailedReads.{HasFailedRead}
use Rattle.replay_driver.specs.Run.{WritesResult, IsUsage, IsNoCommand, IsRunOf, IsFoundRun}
use Rattle.replay_setup.specs.Outcomes.{Writes}
use Rattle.capture_tracks.specs.Reported.{report_record}
use Rattle.replay_driver.specs.RunResult.{result_status, result_text, usage_text, report_status, is_stopped, is_refused}
use Rattle.replay_driver.specs.Served.{ReplayNames, Job, Replays, Loads}
use Rattle.replay_driver.specs.declared.run_result.Found.{Found}
use Rattle.replay_setup.specs.declared.outcome.Outcome.{Outcome}
use Rattle.replay_driver.specs.declared.run_result.RunResult.{RunResult}
use Rattle.replay_driver.specs.declared.run_result.RunResult.TheVariants.{Usage, Unread, Unready, Reported, Summed}
use Rattle.replay_driver.proofs.AcceptedLoad.{load_ready}
use Rattle.replay_driver.proofs.LoadWords.{CanBeMade}
use Rattle.replay_driver.proofs.Statuses.{quiet_ends, refused_lines, faulty_ends, unread_ends, few}
use Rattle.replay_setup.proofs.FailedReads.{AreFresh, failed_read}
use Rattle.replay_setup.proofs.Logic.{IfSome-both}
use Rattle.replay_setup.proofs.Told.{names_steady, all_fresh, all_named, script_refused, script_failed, capture_refused}
use Rattle.replay_setup.specs.Outside.{Files, Output}

-- what follows of a value from its being the one holds where there is one
pub IfSome-by : {A : Type 0} (o : Option A) (P : A → Type 0) → ((x : A) → o ≡ Some x → P x) → IfSome o P
IfSome-by None P f = tt
IfSome-by (Some x) P f = f x refl

-- what follows from there being none holds where there is none
pub IfNone-by : {A : Type 0} (o : Option A) (P : Type 0) → (o ≡ None → P) → IfNone o P
IfNone-by None P f = f refl
IfNone-by (Some x) P f = tt

-- what follows of each value follows of the one that there is, if there is one
pub IfSome-map : {A : Type 0} (o : Option A) (P Q : A → Type 0) → ((x : A) → P x → Q x) → IfSome o P → IfSome o Q
IfSome-map None P Q f h = tt
IfSome-map (Some x) P Q f h = f x h

-- a case by what there is
pub by_option : {A : Type 0} (o : Option A) (P : A → Type 0) (R : Type 0) → (o ≡ None → R) → IfSome o P → ((x : A) → P x → R) → R
by_option None P R none h some = none refl
by_option (Some x) P R none h some = some x h

only_none : {A : Type 0} (o : Option A) (P : A → Type 0) → IfSome o P → ((x : A) → P x → ⊥) → o ≡ None
only_none None P h never = refl
only_none (Some x) P h never = absurd (never x h)

IsSome-from : {X : Type 0} (o : Option X) (x : X) → o ≡ Some x → IsSome o
IsSome-from None x e = cc
IsSome-from (Some y) x e = refl

ends_same : (a b : Ends) → a.captures ≡ b.captures → a.answers ≡ b.answers → a ≡ b
ends_same a b p q =
    ap (λ (c : List CaptureEnd). let e : Ends = record { captures = c; answers = a.answers } in e) p
    ∙ ap (λ (l : List LineAnswer). let e : Ends = record { captures = b.captures; answers = l } in e) q

-- the status of what is found is at most 4; it is 1 only of words that are no command
statuses : (result : RunResult) → (result_status result ≤ 4) × (result_status result ≡ 1 → result ≡ Usage)
statuses Usage = (omega arith, λ e. refl)
statuses (Unread name) = (omega arith, λ e. absurd (omega arith))
statuses (Unready error) = (omega arith, λ e. absurd (omega arith))
statuses (Reported kept ends journal) = let f = few ends.captures ends.answers in (f.0, λ e. absurd (f.1 e))
statuses (Summed kept ends) = let f = few ends.captures ends.answers in (f.0, λ e. absurd (f.1 e))

-- as many sources are given back as captures were opened
as_read : {T : Type 0} (left : T → Option (List ℕ)) (failures : T → ℕ) (limit : ℕ) (opened : List (OpenedCapture T)) (sources : List T) (tracks : List Track) (ends : List CaptureEnd)
    → AllRead left failures limit opened sources tracks ends → length sources ≡ length opened
as_read left failures limit [] [] tracks ends read = refl
as_read left failures limit [] (s ∷ ss) tracks ends read = absurd read
as_read left failures limit (o ∷ os) [] tracks ends read = absurd read
as_read left failures limit (o ∷ os) (s ∷ ss) [] ends read = absurd read
as_read left failures limit (o ∷ os) (s ∷ ss) (t ∷ ts) [] read = absurd read
as_read left failures limit (o ∷ os) (s ∷ ss) (t ∷ ts) (e ∷ es) read = let (port, here, behind) = read in ap suc (as_read left failures limit os ss ts es behind)

as_many : {T : Type 0} (left : T → Option (List ℕ)) (failures : T → ℕ) (mode : Mode) (cache : Option ℕ) (script : List ℕ) (opened : List (OpenedCapture T)) (kept : RecordValue) (ends : Ends) (sources : List T)
    → IsReplayOf left failures mode cache script opened kept ends sources → length sources ≡ length opened
as_many left failures mode cache script opened kept ends sources of = ap length of.beside.given_back ∙ as_read left failures _ opened of.beside.replayed.sources.items of.beside.replay.tracks of.beside.replayed.ends.captures of.beside.replay.read

module _ {K S L : Type 0} (output : Output K) (files : Files L S) where
  module _ (library libraryAfter : L) (sink sinkAfter : K) where
    -- words that are no command
    pub usage_run : (command : Option Job) (found : Found S) (outcome : Outcome S) → command ≡ None → FindsWords files command library libraryAfter found.result found.sources.items
        → IsFoundRun output found sink sinkAfter outcome → IsNoCommand output library libraryAfter sink sinkAfter outcome
    unfolding result_text
    usage_run (Some job) found outcome none finds run = absurd (cc)
    usage_run None found outcome none finds (inl memory) = inl memory
    usage_run None found outcome none (usage, kept, nothing) (inr (writes, sources)) = inr (by_usage found.result usage writes)
      where
        by_usage : (result : RunResult) → result ≡ Usage → WritesResult output sink sinkAfter result outcome → IsUsage output library libraryAfter sink sinkAfter outcome
        by_usage Usage is w = record {
          library_kept = kept;
          nothing_opened = ap (λ (v : Vec S Global). v.items) sources ∙ nothing;
          nothing_kept = w.kept;
          no_end = w.ends;
          no_answer = w.answers;
          writes = w.writes;
        }
        by_usage (Unread name) is w = absurd (cc)
        by_usage (Unready error) is w = absurd (cc)
        by_usage (Reported k ends journal) is w = absurd (cc)
        by_usage (Summed k ends) is w = absurd (cc)

    -- words that are a command
    pub found_run : (command : Option Job) (found : Found S) (outcome : Outcome S) → FindsWords files command library libraryAfter found.result found.sources.items
        → IsFoundRun output found sink sinkAfter outcome → IfSome command (λ job. IsRunOf output files job library libraryAfter sink sinkAfter outcome)
    found_run None found outcome finds run = tt
    found_run (Some job) found outcome finds (inl memory) = inl memory
    found_run (Some job) found outcome finds (inr (writes, sources)) = inr (record {
      result = found.result;
      finds = subst (λ (v : Vec S Global). FindsJob files job library libraryAfter found.result v.items) (sym sources) finds;
      written_result = writes;
    })

  module _ (library libraryAfter : L) (sink sinkAfter : K) (outcome : Outcome S) where
    abbrev Run : Job → Type 0
    Run job = IsRunOf output files job library libraryAfter sink sinkAfter outcome

    -- what was found, with another status than 5 and 6: the status is its, and the whole text was written
    record Answered (job : Job) (status : ℕ) : Type 0 where
      result : RunResult
      finds : FindsJob files job library libraryAfter result outcome.sources.items
      writes : WritesResult output sink sinkAfter result outcome
      is : result_status result ≡ status
      text : Appends (output.written sink) (output.written sinkAfter) (result_text result)

    answered : (job : Job) → Run job → (status : ℕ) → outcome.status ≡ status → status ≤ 4 → Answered job status
    answered job (inl memory) status is small = let six = memory.status in absurd (omega arith)
    answered job (inr a) status is small = elim a.written_result.writes.answered [
      | inl h ↦ record { result = a.result; finds = a.finds; writes = a.written_result; is = sym h.0 ∙ is; text = h.1 }
      | inr h ↦ let five = h.0 in absurd (omega arith)
    ]

    -- ---- the headline

    reported : (names : ReplayNames) (result : RunResult) (kept : RecordValue) → FindsReplay files names library libraryAfter result outcome.sources.items
        → WritesResult output sink sinkAfter result outcome → outcome.kept ≡ Some kept
        → IsReported output files names library libraryAfter sink sinkAfter outcome kept
    unfolding result_text
    reported names Usage kept finds w e = absurd finds
    reported names (Unread name) kept finds w e = let no = w.kept in absurd (cc)
    reported names (Unready error) kept finds w e = let no = w.kept in absurd (cc)
    reported names (Reported k ends journal) kept (told, found) w e =
        let had = w.kept in
        let same : k ≡ kept = cc in
        let ended : ends ≡ outcome.ends = ends_same ends outcome.ends (sym w.ends) (sym w.answers) in
        subst (λ (r : RecordValue). IsReported output files names library libraryAfter sink sinkAfter outcome r) same (record {
          script = found.script;
          bytes = found.bytes;
          opened = found.opened;
          reads = found.reads;
          captures = found.captures;
          replay = subst (λ (f : Ends). IsReplayOf files.left files.failures names.mode names.cache found.bytes found.opened k f found.captures) ended found.replay;
          given_back = found.given_back;
          writes = subst (λ (b : Bool). Writes output sink sinkAfter (report_status outcome.ends.captures outcome.ends.answers) outcome.status (report_text (report_record k) outcome.ends.captures outcome.ends.answers b)) told
              (subst (λ (f : Ends). Writes output sink sinkAfter (report_status f.captures f.answers) outcome.status (report_text (report_record k) f.captures f.answers journal)) ended w.writes);
        })
    reported names (Summed k ends) kept finds w e = absurd finds

    summed : (n : ℕ) (result : RunResult) (kept : RecordValue) → FindsJob files (Loads n) library libraryAfter result outcome.sources.items
        → WritesResult output sink sinkAfter result outcome → outcome.kept ≡ Some kept
        → IsSummed output files n library libraryAfter sink sinkAfter outcome kept
    unfolding result_text
    summed n Usage kept (same, none, found) w e = absurd found
    summed n (Unread name) kept (same, none, found) w e = absurd found
    summed n (Unready error) kept finds w e = let no = w.kept in absurd (cc)
    summed n (Reported k ends journal) kept (same, none, found) w e = absurd found
    summed n (Summed k ends) kept (library_same, none, found) w e =
        let had = w.kept in
        let same : k ≡ kept = cc in
        let ended : ends ≡ outcome.ends = ends_same ends outcome.ends (sym w.ends) (sym w.answers) in
        subst (λ (r : RecordValue). IsSummed output files n library libraryAfter sink sinkAfter outcome r) same (record {
          replay = subst (λ (f : Ends). ReplaysLoad n k f) ended found;
          library_kept = library_same;
          nothing_opened = none;
          writes = subst (λ (f : Ends). Writes output sink sinkAfter (report_status f.captures f.answers) outcome.status (Rattle.replay_driver.specs.RunResult.summary_of k)) ended w.writes;
        })

    -- ---- how the captures ended

    pub is_quiet : (job : Job) → Run job → outcome.status ≡ 0 → IsQuiet outcome
    is_quiet job run zero = let a = answered job run 0 zero (omega arith) in go a.result a.finds a.writes a.is
      where
        go : (result : RunResult) → FindsJob files job library libraryAfter result outcome.sources.items → WritesResult output sink sinkAfter result outcome → result_status result ≡ 0 → IsQuiet outcome
        go Usage finds w e = absurd (omega arith)
        go (Unread name) finds w e = absurd (omega arith)
        go (Unready error) finds w e = absurd (omega arith)
        go (Reported k ends journal) finds w e =
            let (whole, accepted) = quiet_ends ends.captures ends.answers e in
            record { begun = IsSome-from outcome.kept k w.kept; whole = ap (list_any is_stopped) w.ends ∙ whole; accepted = ap (list_any is_refused) w.answers ∙ accepted }
        go (Summed k ends) finds w e =
            let (whole, accepted) = quiet_ends ends.captures ends.answers e in
            record { begun = IsSome-from outcome.kept k w.kept; whole = ap (list_any is_stopped) w.ends ∙ whole; accepted = ap (list_any is_refused) w.answers ∙ accepted }

    pub is_refused_run : (job : Job) → Run job → outcome.status ≡ 2 → (kept : RecordValue) → outcome.kept ≡ Some kept → HasRefusedCommand outcome
    is_refused_run job run two kept had = let a = answered job run 2 two (omega arith) in go a.result a.writes a.is
      where
        go : (result : RunResult) → WritesResult output sink sinkAfter result outcome → result_status result ≡ 2 → HasRefusedCommand outcome
        go Usage w e = absurd (omega arith)
        go (Unread name) w e = absurd (omega arith)
        go (Unready error) w e = let no = w.kept in absurd (cc)
        go (Reported k ends journal) w e =
            let (whole, some) = refused_lines ends.captures ends.answers e in
            record { whole = ap (list_any is_stopped) w.ends ∙ whole; refused = ap (list_any is_refused) w.answers ∙ some }
        go (Summed k ends) w e =
            let (whole, some) = refused_lines ends.captures ends.answers e in
            record { whole = ap (list_any is_stopped) w.ends ∙ whole; refused = ap (list_any is_refused) w.answers ∙ some }

    pub is_faulty : (job : Job) → Run job → outcome.status ≡ 3 → IsFaulty outcome
    is_faulty job run three = let a = answered job run 3 three (omega arith) in go a.result a.writes a.is
      where
        go : (result : RunResult) → WritesResult output sink sinkAfter result outcome → result_status result ≡ 3 → IsFaulty outcome
        go Usage w e = absurd (omega arith)
        go (Unread name) w e = absurd (omega arith)
        go (Unready error) w e = absurd (omega arith)
        go (Reported k ends journal) w e =
            let (read, stopped) = faulty_ends ends.captures ends.answers e in
            record { begun = IsSome-from outcome.kept k w.kept; read = ap (list_any is_unread) w.ends ∙ read; stopped = ap (list_any is_stopped) w.ends ∙ stopped }
        go (Summed k ends) w e =
            let (read, stopped) = faulty_ends ends.captures ends.answers e in
            record { begun = IsSome-from outcome.kept k w.kept; read = ap (list_any is_unread) w.ends ∙ read; stopped = ap (list_any is_stopped) w.ends ∙ stopped }

    -- the end of a capture that was unread, where its source was opened in this run
    failed_by : {T : Type 0} (left : T → Option (List ℕ)) (failures : T → ℕ) (mode : Mode) (cache : Option ℕ) (script : List ℕ) (opened : List (OpenedCapture T)) (kept : RecordValue) (ends : Ends) (sources : List T)
        → IsReplayOf left failures mode cache script opened kept ends sources → AreFresh left failures opened → list_any is_unread ends.captures ≡ true → HasFailedRead ends.captures
    failed_by left failures mode cache script opened kept ends sources of fresh e =
        subst HasFailedRead (sym of.beside.captures_ended)
        (failed_read left failures _ opened of.beside.replayed.sources.items of.beside.replay.tracks of.beside.replayed.ends.captures of.beside.replay.read fresh (ap (list_any is_unread) (sym of.beside.captures_ended) ∙ e))

    pub is_failed_run : (job : Job) → Run job → outcome.status ≡ 4 → (kept : RecordValue) → outcome.kept ≡ Some kept → HasFailedRead outcome.ends.captures
    is_failed_run job run four kept had = let a = answered job run 4 four (omega arith) in go job a.result a.finds a.writes a.is
      where
        go : (job : Job) (result : RunResult) → FindsJob files job library libraryAfter result outcome.sources.items → WritesResult output sink sinkAfter result outcome
            → result_status result ≡ 4 → HasFailedRead outcome.ends.captures
        go job Usage finds w e = absurd (omega arith)
        go job (Unread name) finds w e = let no = w.kept in absurd (cc)
        go job (Unready error) finds w e = let no = w.kept in absurd (cc)
        go (Replays names) (Reported k ends journal) (told, found) w e =
            subst HasFailedRead (sym w.ends) (failed_by files.left files.failures names.mode names.cache found.bytes found.opened k ends found.captures found.replay
            (all_fresh files found.reads.between libraryAfter names.captures found.opened found.reads.captures_opened) (unread_ends ends.captures ends.answers e))
        go (Replays names) (Summed k ends) finds w e = absurd finds
        go (Loads n) (Reported k ends journal) (same, none, found) w e = absurd found
        go (Loads n) (Summed k ends) (same, none, found) w e =
            subst HasFailedRead (sym w.ends) (failed_by known_left no_failures Serial None _ _ k ends found.sources found.replay (refl, tt) (unread_ends ends.captures ends.answers e))

    -- ---- before a replay

    pub is_unready : (job : Job) → CanBeMade job → Run job → outcome.status ≡ 2 → outcome.kept ≡ None → IsUnreadyJob output files job library libraryAfter sink sinkAfter outcome
    unfolding result_text
    is_unready job few run two none = let a = answered job run 2 two (omega arith) in go job few a.result a.finds a.writes a.is a.text
      where
        go : (job : Job) → CanBeMade job → (result : RunResult) → FindsJob files job library libraryAfter result outcome.sources.items → WritesResult output sink sinkAfter result outcome
            → result_status result ≡ 2 → Appends (output.written sink) (output.written sinkAfter) (result_text result)
            → IsUnreadyJob output files job library libraryAfter sink sinkAfter outcome
        go job few Usage finds w e text = absurd (omega arith)
        go job few (Unread name) finds w e text = absurd (omega arith)
        go (Replays names) few (Unready error) finds w e text = record { error = error; cause = finds; text = text }
        go (Loads n) few (Unready error) (same, nothing, found) w e text = absurd (load_ready n few error found)
        go job few (Reported k ends journal) finds w e text = let some = w.kept in absurd (cc)
        go job few (Summed k ends) finds w e text = let some = w.kept in absurd (cc)

    pub is_unread_run : (job : Job) → Run job → outcome.status ≡ 4 → outcome.kept ≡ None → IsUnreadJob output files job library libraryAfter sink sinkAfter outcome
    unfolding result_text
    is_unread_run job run four none = let a = answered job run 4 four (omega arith) in go job a.result a.finds a.writes a.is a.text
      where
        go : (job : Job) (result : RunResult) → FindsJob files job library libraryAfter result outcome.sources.items → WritesResult output sink sinkAfter result outcome
            → result_status result ≡ 4 → Appends (output.written sink) (output.written sinkAfter) (result_text result)
            → IsUnreadJob output files job library libraryAfter sink sinkAfter outcome
        go job Usage finds w e text = absurd (omega arith)
        go (Replays names) (Unread name) finds w e text = record { name = name; cause = finds; text = text }
        go (Loads n) (Unread name) (same, nothing, found) w e text = absurd found
        go job (Unready error) finds w e text = absurd (omega arith)
        go job (Reported k ends journal) finds w e text = let some = w.kept in absurd (cc)
        go job (Summed k ends) finds w e text = let some = w.kept in absurd (cc)

    -- ---- statuses

    pub is_kept : (job : Job) → Run job → (kept : RecordValue) → outcome.kept ≡ Some kept → IsKept output files job library libraryAfter sink sinkAfter outcome kept
    is_kept job (inl memory) kept had = let none = memory.nothing_kept in absurd (cc)
    is_kept (Replays names) (inr a) kept had = reported names a.result kept a.finds a.written_result had
    is_kept (Loads n) (inr a) kept had = summed n a.result kept a.finds a.written_result had

    -- a command doesn't end with status 1
    pub not_1 : (job : Job) → Run job → outcome.status ≡ 1 → ⊥
    not_1 job run one = let a = answered job run 1 one (omega arith) in go job a.result a.finds ((statuses a.result).1 a.is)
      where
        go : (job : Job) (result : RunResult) → FindsJob files job library libraryAfter result outcome.sources.items → result ≡ Usage → ⊥
        go (Replays names) Usage finds e = finds
        go (Loads n) Usage (same, none, found) e = found
        go job (Unread name) finds e = absurd (cc)
        go job (Unready error) finds e = absurd (cc)
        go job (Reported k ends journal) finds e = absurd (cc)
        go job (Summed k ends) finds e = absurd (cc)

    risen : (wanted : ℕ) (text : List ℕ) → wanted ≤ 4 → Writes output sink sinkAfter wanted outcome.status text → outcome.status ≡ 5 → Rose (output.faults sink) (output.faults sinkAfter)
    risen wanted text small w five = elim w.answered [
      | inl h ↦ let got = h.0 in absurd (omega arith)
      | inr h ↦ h.2
    ]

    pub has_risen : (job : Job) → Run job → outcome.status ≡ 5 → Rose (output.faults sink) (output.faults sinkAfter)
    has_risen job (inl memory) five = let six = memory.status in absurd (omega arith)
    has_risen job (inr a) five = risen _ _ (statuses a.result).0 a.written_result.writes five

    silent_text : (wanted : ℕ) (text : List ℕ) → wanted ≤ 4 → Writes output sink sinkAfter wanted outcome.status text → outcome.status ≡ 6 → ⊥
    silent_text wanted text small w six = elim w.answered [
      | inl h ↦ let got = h.0 in omega arith
      | inr h ↦ let five = h.0 in omega arith
    ]

    pub is_silent : (job : Job) → Run job → outcome.status ≡ 6 → sinkAfter ≡ sink
    is_silent job (inl memory) six = memory.nothing_written
    is_silent job (inr a) six = absurd (silent_text _ _ (statuses a.result).0 a.written_result.writes six)

    -- ---- openings

    pub has_openings : (job : Job) (told : List Pair) → Run job → files.pairs library ≡ Some told → outcome.status ≢ 6 → files.pairs libraryAfter ≡ pairs_without (take (length outcome.sources.items) (opening_order job)) told
    has_openings job told (inl memory) is other = absurd (other memory.status)
    has_openings job told (inr a) is other = go job a.result outcome.sources.items a.finds
      where
        go : (job : Job) (result : RunResult) (sources : List S) → FindsJob files job library libraryAfter result sources → files.pairs libraryAfter ≡ pairs_without (take (length sources) (opening_order job)) told
        go (Loads n) result sources (same, none, found) = rw none (ap files.pairs same ∙ is)
        go (Replays names) Usage sources finds = absurd finds
        go (Replays names) (Unread name) sources (inl found) = script_refused files names.script names.captures library libraryAfter name sources told found is
        go (Replays names) (Unread name) sources (inr (inl found)) = script_failed files names.script names.captures library libraryAfter name sources told found is
        go (Replays names) (Unread name) sources (inr (inr found)) = capture_refused files names.script names.captures library libraryAfter name sources told found is
        go (Replays names) (Unready error) sources found =
            rw (found.given_back) (all_named files names.script names.captures library libraryAfter found.script found.bytes found.opened (sources_of found.opened) told found.reads is (length-map found.opened (λ o. o.source)))
        go (Replays names) (Reported k ends journal) sources (asked, found) =
            rw (found.given_back) (all_named files names.script names.captures library libraryAfter found.script found.bytes found.opened found.captures told found.reads is (as_many files.left files.failures names.mode names.cache found.bytes found.opened k ends found.captures found.replay))
        go (Replays names) (Summed k ends) sources finds = absurd finds

    -- no opening failed where the run went on
    pub steady : (job : Job) → Run job → (kept : RecordValue) → outcome.kept ≡ Some kept → files.faults libraryAfter ≡ files.faults library
    steady job (inl memory) kept had = let none = memory.nothing_kept in absurd (cc)
    steady job (inr a) kept had = go job a.result a.finds a.written_result
      where
        go : (job : Job) (result : RunResult) → FindsJob files job library libraryAfter result outcome.sources.items → WritesResult output sink sinkAfter result outcome → files.faults libraryAfter ≡ files.faults library
        go (Loads n) result (same, none, found) w = ap files.faults same
        go (Replays names) Usage finds w = absurd finds
        go (Replays names) (Unread name) finds w = let no = w.kept in absurd (cc)
        go (Replays names) (Unready error) finds w = let no = w.kept in absurd (cc)
        go (Replays names) (Reported k ends journal) (asked, found) w = names_steady files names.script names.captures library libraryAfter found.script found.bytes found.opened found.reads
        go (Replays names) (Summed k ends) finds w = absurd finds

    -- words that are no command have status 1, 5 or 6
    no_command : IsNoCommand output library libraryAfter sink sinkAfter outcome → (outcome.status ≡ 1) ⊎ ((outcome.status ≡ 5) ⊎ (outcome.status ≡ 6))
    no_command (inl memory) = inr (inr memory.status)
    no_command (inr usage) = elim usage.writes.answered [
      | inl h ↦ inl h.0
      | inr h ↦ inr (inl h.0)
    ]

    pub usage_keeps_nothing : IsNoCommand output library libraryAfter sink sinkAfter outcome → outcome.kept ≡ None
    usage_keeps_nothing (inl memory) = memory.nothing_kept
    usage_keeps_nothing (inr usage) = usage.nothing_kept

    pub usage_risen : IsNoCommand output library libraryAfter sink sinkAfter outcome → outcome.status ≡ 5 → Rose (output.faults sink) (output.faults sinkAfter)
    usage_risen (inl memory) five = let six = memory.status in absurd (omega arith)
    usage_risen (inr usage) five = risen 1 _ (omega arith) usage.writes five

    pub usage_silent : IsNoCommand output library libraryAfter sink sinkAfter outcome → outcome.status ≡ 6 → sinkAfter ≡ sink
    usage_silent (inl memory) six = memory.nothing_written
    usage_silent (inr usage) six = absurd (silent_text 1 _ (omega arith) usage.writes six)

    -- so it is none of 0, 2, 3 and 4
    pub usage_status : IsNoCommand output library libraryAfter sink sinkAfter outcome → (status : ℕ) → outcome.status ≡ status → status ≤ 4 → status ≢ 1 → ⊥
    usage_status run status is small other = elim (no_command run) [
      | inl h ↦ other (sym is ∙ h)
      | inr h ↦ elim h [
        | inl five ↦ omega arith
        | inr six ↦ omega arith
      ]
    ]

    module _ (command : Option Job) (found : IfSome command (λ job. IsRunOf output files job library libraryAfter sink sinkAfter outcome))
        (usage : command ≡ None → IsNoCommand output library libraryAfter sink sinkAfter outcome) where
      -- a fact of each job, which is so of no words that are no command
      of_each : (R : Type 0) → (IsNoCommand output library libraryAfter sink sinkAfter outcome → R) → ((job : Job) → Run job → R) → R
      of_each R none some = by_option command _ R (λ (e : command ≡ None). none (usage e)) found some

      -- a record that is kept is that of the command's replay
      pub all_kept : IfSome outcome.kept (λ kept. IfSome command (λ job. IsKept output files job library libraryAfter sink sinkAfter outcome kept))
      all_kept = IfSome-by outcome.kept _ (λ kept had. IfSome-map command _ _ (λ job run. is_kept job run kept had) found)

      -- status 0 says that each capture was read to its end and no command was refused
      pub all_quiet : outcome.status ≡ 0 → IsQuiet outcome
      all_quiet zero = of_each (IsQuiet outcome) (λ none. absurd (usage_status none 0 zero (omega arith) (λ e. omega arith))) (λ job run. is_quiet job run zero)

      -- status 1 says that the words are no command
      pub all_1 : outcome.status ≡ 1 → command ≡ None
      all_1 one = only_none command _ found (λ job run. not_1 job run one)

      -- status 2 without a record says that the script gives no edition, which a load's always does
      pub all_unready : IfSome command CanBeMade → outcome.status ≡ 2 → IfNone outcome.kept (IfSome command (λ job. IsUnreadyJob output files job library libraryAfter sink sinkAfter outcome))
      all_unready few two = IfNone-by outcome.kept _ (λ none. IfSome-both command _ _ _ (λ job few run. is_unready job few run two none) few found)

      -- status 2 with a record says that a command behind `live` was refused
      pub all_refused : outcome.status ≡ 2 → IfSome outcome.kept (λ kept. HasRefusedCommand outcome)
      all_refused two = IfSome-by outcome.kept _ (λ kept had.
          of_each (HasRefusedCommand outcome) (λ none. absurd (usage_status none 2 two (omega arith) (λ e. omega arith))) (λ job run. is_refused_run job run two kept had))

      -- status 3 says that a capture has a fault, and no capture's source failed
      pub all_faulty : outcome.status ≡ 3 → IsFaulty outcome
      all_faulty three = of_each (IsFaulty outcome) (λ none. absurd (usage_status none 3 three (omega arith) (λ e. omega arith))) (λ job run. is_faulty job run three)

      -- status 4 without a record says that a name could not be opened, or the script not be read
      pub all_unread : outcome.status ≡ 4 → IfNone outcome.kept (IfSome command (λ job. IsUnreadJob output files job library libraryAfter sink sinkAfter outcome))
      all_unread four = IfNone-by outcome.kept _ (λ none. IfSome-map command _ _ (λ job run. is_unread_run job run four none) found)

      -- status 4 with a record says that a capture's source failed
      pub all_failed : outcome.status ≡ 4 → IfSome outcome.kept (λ kept. HasFailedRead outcome.ends.captures)
      all_failed four = IfSome-by outcome.kept _ (λ kept had.
          of_each (HasFailedRead outcome.ends.captures) (λ none. absurd (usage_status none 4 four (omega arith) (λ e. omega arith))) (λ job run. is_failed_run job run four kept had))

      -- status 5 says that the sink's count of faults rose
      pub all_risen : outcome.status ≡ 5 → Rose (output.faults sink) (output.faults sinkAfter)
      all_risen five = of_each (Rose (output.faults sink) (output.faults sinkAfter)) (λ none. usage_risen none five) (λ job run. has_risen job run five)

      -- status 6 says that nothing was written
      pub all_silent : outcome.status ≡ 6 → sinkAfter ≡ sink
      all_silent six = of_each (sinkAfter ≡ sink) (λ none. usage_silent none six) (λ job run. is_silent job run six)

      -- a run takes the names that it opened, and no others, out of the library's list, but for status 6
      pub all_openings : IfSome (files.pairs library) (λ told. IfSome command (λ job. outcome.status ≢ 6 → files.pairs libraryAfter ≡ pairs_without (take (length outcome.sources.items) (opening_order job)) told))
      all_openings = IfSome-by (files.pairs library) _ (λ told is. IfSome-map command _ _ (λ job run other. has_openings job told run is other) found)

      -- where a record is kept no opening failed
      pub all_steady : IfSome outcome.kept (λ kept. files.faults libraryAfter ≡ files.faults library)
      all_steady = IfSome-by outcome.kept _ (λ kept had.
          of_each (files.faults libraryAfter ≡ files.faults library) (λ none. let no = usage_keeps_nothing none in absurd (cc)) (λ job run. steady job run kept had))

      -- where the words are no command nothing is opened, but for status 6
      pub all_unopened : command ≡ None → outcome.status ≢ 6 → libraryAfter ≡ library
      all_unopened none other = elim (usage none) [
        | inl out ↦ absurd (other out.status)
        | inr is ↦ is.library_kept
      ]
