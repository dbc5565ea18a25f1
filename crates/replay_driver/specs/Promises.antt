-- What a run promises, one fact each.
use Rattle.std.specs.Prelude.{◌≡◌, ℕ, ◌<◌, ◌≤◌, true, false, ⊤, IsSome, List, [], ◌∷◌, length, Some, Ok, ◌⊎◌}
use Rattle.std.specs.List.{list_any, AllByRecursion}
use Rattle.std.specs.Io.KnownBytes.{Appends}
use Rattle.command_words.specs.Words.{CaptureNames}
use Rattle.fw_base.specs.Faults.{Rose}
use Rattle.fw_command.specs.declared.script.Pace.{Pace}
use Rattle.fw_base.specs.Pairs.{Pair, take_named}
use Rattle.report_texts.specs.CaptureEnds.{is_unread}
use Rattle.report_texts.specs.Report.{report_text}
use Rattle.report_texts.specs.declared.capture_end.CaptureEnd.{CaptureEnd}
use Rattle.report_texts.specs.declared.capture_end.CaptureEnd.TheVariants.{Stopped}
use Rattle.fw_world.specs.RecordValue.{RecordValue}
use Rattle.pcap_read.specs.Reading.{Captured, HasFront, Open, AtBoundary}
use Rattle.pcap_read.specs.declared.capture_fault.CaptureFault.TheVariants.{ReadFault}
use Rattle.capture_tracks.specs.Commands.{lines_outcome}
use Rattle.capture_tracks.specs.Replay.{limit_for}
use Rattle.capture_tracks.specs.declared.opened.OpenedCapture.{OpenedCapture}
use Rattle.replay_setup.specs.FirstEdition.{first_edition}
use Rattle.replay_setup.specs.NamesRead.{ReadsNames, HasNoEdition}
use Rattle.replay_driver.specs.Found.{FindsReplay, IsReplayOf, ReplaysLoad}
use Rattle.replay_setup.specs.Openings.{file_names}
use Rattle.replay_setup.specs.Outcomes.{Writes}
use Rattle.capture_tracks.specs.Reported.{report_record}
use Rattle.replay_driver.specs.RunResult.{summary_of, report_status, is_stopped, is_refused}
use Rattle.replay_setup.specs.UnreadName.{unread_text}
use Rattle.replay_setup.specs.ScriptTexts.{error_text}
use Rattle.replay_driver.specs.Served.{ReplayNames, Job, Replays, Loads}
use Rattle.replay_setup.specs.FirstEdition.{pace_of}
use Rattle.replay_setup.specs.declared.first_edition.FirstEdition.{FirstEdition}
use Rattle.replay_setup.specs.declared.outcome.Outcome.{Outcome}
use Rattle.replay_driver.specs.declared.run_result.RunResult.TheVariants.{Unread}
use Rattle.replay_setup.specs.declared.script_error.ScriptError.{ScriptError}
use Rattle.replay_setup.specs.Outside.{Files, Output}

-- the names of a command in the order in which they are opened; a load opens none
abbrev pub opening_order : Job → List (List ℕ)
opening_order (Replays names) = names.script ∷ file_names names.captures
opening_order (Loads n) = []

-- ---- how a replay ended

-- The report was begun, each capture was read to its end, and no command was refused.
pub record IsQuiet {S : Type 0} (outcome : Outcome S) : Type 0 where
  pub begun : IsSome outcome.kept
  pub whole : list_any is_stopped outcome.ends.captures ≡ false
  pub accepted : list_any is_refused outcome.ends.answers ≡ false

-- The report was begun, each capture was read to its end, and a command behind `live` was refused.
pub record HasRefusedCommand {S : Type 0} (outcome : Outcome S) : Type 0 where
  pub whole : list_any is_stopped outcome.ends.captures ≡ false
  pub refused : list_any is_refused outcome.ends.answers ≡ true

-- The report was begun, no capture's source failed, and a capture has a fault.
pub record IsFaulty {S : Type 0} (outcome : Outcome S) : Type 0 where
  pub begun : IsSome outcome.kept
  pub read : list_any is_unread outcome.ends.captures ≡ false
  pub stopped : list_any is_stopped outcome.ends.captures ≡ true

-- ---- what is complete

-- each capture's name stands in the told list, behind what the names before it took out, and its bytes are
-- those of a whole capture
abbrev pub AllWhole : ℕ → List CaptureNames → List Pair → Type 0
AllWhole limit [] told = ⊤
AllWhole limit (capture ∷ captures) told =
    (bytes : List ℕ) × (behind : List Pair) × (take_named capture.name told ≡ Some ((capture.name, bytes), behind))
    × ((records : List Captured) × HasFront limit bytes records (Open AtBoundary)) × AllWhole limit captures behind

-- a script of this pace that gives an edition, and whose lines behind `live` are all accepted
pub record IsAccepted (pace : Pace) (script : List ℕ) : Type 0 where
  pub edition : FirstEdition
  pub first : first_edition pace script ≡ Ok edition
  pub accepted : list_any is_refused (lines_outcome edition.config edition.live).answers ≡ false

module _ {K S L : Type 0} (output : Output K) (files : Files L S) where
  -- ---- the headline

  -- The names were opened in the order of the words. The script's bytes give edition 1 and the lines behind
  -- `live`, and the captures were replayed beside them: the record is legal for them, in serial mode in the order
  -- of the schedule, and ends and answers are theirs. What the sink took is its report's text; with status 5 a front.
  pub record IsReported (names : ReplayNames) (library libraryAfter : L) (sink sinkAfter : K) (outcome : Outcome S) (kept : RecordValue) : Type 0 where
    pub script : S
    pub bytes : List ℕ
    pub opened : List (OpenedCapture S)
    pub reads : ReadsNames files names.script names.captures library libraryAfter script bytes opened
    pub captures : List S
    pub replay : IsReplayOf files.left files.failures names.mode names.cache bytes opened kept outcome.ends captures
    pub given_back : outcome.sources.items ≡ script ∷ captures
    pub writes : Writes output sink sinkAfter (report_status outcome.ends.captures outcome.ends.answers) outcome.status
        (report_text (report_record kept) outcome.ends.captures outcome.ends.answers names.journal)

  -- The made script and the made capture were replayed, and what the sink took is the record's summary.
  pub record IsSummed (n : ℕ) (library libraryAfter : L) (sink sinkAfter : K) (outcome : Outcome S) (kept : RecordValue) : Type 0 where
    pub replay : ReplaysLoad n kept outcome.ends
    pub library_kept : libraryAfter ≡ library
    pub nothing_opened : outcome.sources.items ≡ []
    pub writes : Writes output sink sinkAfter (report_status outcome.ends.captures outcome.ends.answers) outcome.status (summary_of kept)

  -- the record and what the sink took, by the job: a replay writes its report, a load its summary
  abbrev pub IsKept : Job → L → L → K → K → Outcome S → RecordValue → Type 0
  IsKept (Replays names) library libraryAfter sink sinkAfter outcome kept = IsReported names library libraryAfter sink sinkAfter outcome kept
  IsKept (Loads n) library libraryAfter sink sinkAfter outcome kept = IsSummed n library libraryAfter sink sinkAfter outcome kept

  -- ---- before a replay

  -- A name could not be opened or, for the script, read; the text names it.
  pub record IsUnread (names : ReplayNames) (library libraryAfter : L) (sink sinkAfter : K) (outcome : Outcome S) : Type 0 where
    pub name : List ℕ
    pub cause : FindsReplay files names library libraryAfter (Unread name) outcome.sources.items
    pub text : Appends (output.written sink) (output.written sinkAfter) (unread_text name)

  -- a load reads nothing from outside
  abbrev pub IsUnreadJob : Job → L → L → K → K → Outcome S → Type 0
  IsUnreadJob (Replays names) library libraryAfter sink sinkAfter outcome = IsUnread names library libraryAfter sink sinkAfter outcome
  IsUnreadJob (Loads n) library libraryAfter sink sinkAfter outcome = ⊥

  -- All names were opened, and this is why the script gives no edition: its first fault, else the first
  -- command that is refused.
  pub record IsUnready (names : ReplayNames) (library libraryAfter : L) (sink sinkAfter : K) (outcome : Outcome S) : Type 0 where
    pub error : ScriptError
    pub cause : HasNoEdition files names.mode names.script names.captures library libraryAfter error outcome.sources.items
    pub text : Appends (output.written sink) (output.written sinkAfter) (error_text error)

  -- a load's script always gives an edition
  abbrev pub IsUnreadyJob : Job → L → L → K → K → Outcome S → Type 0
  IsUnreadyJob (Replays names) library libraryAfter sink sinkAfter outcome = IsUnready names library libraryAfter sink sinkAfter outcome
  IsUnreadyJob (Loads n) library libraryAfter sink sinkAfter outcome = ⊥

  -- ---- completeness

  -- The library tells its list, in which the names stand; the script is accepted, the captures are whole, and
  -- no count rose.
  pub record IsComplete (names : ReplayNames) (library libraryAfter : L) (sink sinkAfter : K) (outcome : Outcome S) : Type 0 where
    pub before : List Pair
    pub told : files.pairs library ≡ Some before
    pub script : List ℕ
    pub behind : List Pair
    pub script_stands : take_named names.script before ≡ Some ((names.script, script), behind)
    pub script_short : length script ≤ 1048576
    pub accepted : IsAccepted (pace_of names.mode) script
    pub captures_whole : AllWhole (limit_for (length names.captures)) names.captures behind
    pub library_quiet : Rose (files.faults library) (files.faults libraryAfter) → ⊥
    pub sources_quiet : AllByRecursion (λ source. files.failures source ≡ 0) outcome.sources.items
    pub sink_quiet : Rose (output.faults sink) (output.faults sinkAfter) → ⊥

  -- no write failed; its script is always accepted, and its capture whole
  pub record IsCompleteLoad (sink sinkAfter : K) : Type 0 where
    pub sink_quiet : Rose (output.faults sink) (output.faults sinkAfter) → ⊥

  -- all is as it should be, by the job
  abbrev pub IsCompleteJob : Job → L → L → K → K → Outcome S → Type 0
  IsCompleteJob (Replays names) library libraryAfter sink sinkAfter outcome = IsComplete names library libraryAfter sink sinkAfter outcome
  IsCompleteJob (Loads n) library libraryAfter sink sinkAfter outcome = IsCompleteLoad sink sinkAfter
