-- What two runs of one job have in common.
use Rattle.std.specs.Prelude.{◌≡◌, ℕ, ◌≤◌, ⊤, Option, None, Some, IfSome, IfNone, List, [], ◌∷◌, map, option_and_then}
use Rattle.std.specs.Option.{option_map}
use Rattle.std.specs.Io.KnownBytes.{Appends}
use Rattle.fw_base.specs.Pairs.{Pair, take_named}
use Rattle.fw_world.specs.RecordValue.{RecordValue}
use Rattle.record_laws.specs.OneReplay.{IsSameRecord}
use Rattle.record_laws.specs.SameCaptures.{printed_end}
use Rattle.replay_setup.specs.Outside.{Files, Output}
use Rattle.replay_driver.specs.Promises.{IsKept, IsUnreadyJob, IsQuiet, IsFaulty, opening_order}
use Rattle.replay_driver.specs.Served.{Job, Replays, Loads, IsSerialJob}
use Rattle.replay_setup.specs.declared.outcome.Outcome.{Outcome}

-- what contracts see of a run's outside: its library with the sources, and its sink
pub record Outside (L S K : Type 0) : Type 0 where
  pub files : Files L S
  pub output : Output K

-- ---- the same files

-- the bytes that stand under each of these names, behind what the names before it took out, if all names are there
abbrev pub contents_of : List (List ℕ) → List Pair → Option (List (List ℕ))
contents_of [] told = Some []
contents_of (name ∷ names) told = option_and_then (λ found. option_map (λ contents. found.0.1 ∷ contents) (contents_of names found.1)) (take_named name told)

-- Both libraries tell their lists, and the same bytes stand there under these names; or in each of them a name is
-- missing.
pub record TellSameContents (names : List (List ℕ)) (told otherTold : Option (List Pair)) : Type 0 where
  pub before : List Pair
  pub other_before : List Pair
  pub tells : told ≡ Some before
  pub other_tells : otherTold ≡ Some other_before
  pub same : contents_of names before ≡ contents_of names other_before

-- both libraries tell the same bytes under the names that the job opens; a load opens none
abbrev pub HaveSameFiles : Job → Option (List Pair) → Option (List Pair) → Type 0
HaveSameFiles (Replays names) told otherTold = TellSameContents (opening_order (Replays names)) told otherTold
HaveSameFiles (Loads n) told otherTold = ⊤

-- ---- the same end

-- both runs kept a record, and the records say the same; or neither kept one
abbrev pub IsSameKept : Option RecordValue → Option RecordValue → Type 0
IsSameKept None None = ⊤
IsSameKept None (Some s) = ⊥
IsSameKept (Some r) None = ⊥
IsSameKept (Some r) (Some s) = IsSameRecord r s

-- Both runs end with the same status and keep what says the same. Where they kept records, their captures' ends are
-- printed alike and their answers are the same. And one text is what each sink took, if it tells what was written.
pub record ComeToTheSame {S T K N : Type 0} (written : K → Option (List ℕ)) (otherWritten : N → Option (List ℕ)) (outcome : Outcome S) (other : Outcome T) (sink sinkAfter : K) (otherSink otherSinkAfter : N) : Type 0 where
  pub status : outcome.status ≡ other.status
  pub kept : IsSameKept outcome.kept other.kept
  pub ends : IfSome outcome.kept (λ kept. map printed_end outcome.ends.captures ≡ map printed_end other.ends.captures)
  pub answers : IfSome outcome.kept (λ kept. outcome.ends.answers ≡ other.ends.answers)
  pub text : List ℕ
  pub took : Appends (written sink) (written sinkAfter) text
  pub other_took : Appends (otherWritten otherSink) (otherWritten otherSinkAfter) text

-- ---- runs

module _ {L S K : Type 0} (out : Outside L S K) where
  -- A run of this job keeps the clauses of `run`'s contract that have these names.
  pub record IsPromisedRun (job : Job) (library libraryAfter : L) (sink sinkAfter : K) (outcome : Outcome S) : Type 0 where
    pub report : IfSome outcome.kept (λ kept. IsKept out.output out.files job library libraryAfter sink sinkAfter outcome kept)
    pub status_0_cause : outcome.status ≡ 0 → IsQuiet outcome
    pub status_1_cause : outcome.status ≡ 1 → ⊥
    pub status_2_before : outcome.status ≡ 2 → IfNone outcome.kept (IsUnreadyJob out.output out.files job library libraryAfter sink sinkAfter outcome)
    pub status_3_cause : outcome.status ≡ 3 → IsFaulty outcome

module _ {L S K M T N : Type 0} (out : Outside L S K) (other : Outside M T N) where
  -- Two runs of one job that isn't of live mode, over libraries that tell the same bytes under the names that it
  -- opens, come to the same, where neither ends with the status of a failed opening or read, 4, of a failed write, 5, or of want of memory, 6.
  abbrev pub RunsAreDetermined : Type 0
  RunsAreDetermined = (job : Job) (library libraryAfter : L) (otherLibrary otherLibraryAfter : M) (sink sinkAfter : K) (otherSink otherSinkAfter : N) (outcome : Outcome S) (otherOutcome : Outcome T)
      → IsSerialJob job → IsPromisedRun out job library libraryAfter sink sinkAfter outcome → IsPromisedRun other job otherLibrary otherLibraryAfter otherSink otherSinkAfter otherOutcome
      → HaveSameFiles job (out.files.pairs library) (other.files.pairs otherLibrary) → outcome.status ≤ 3 → otherOutcome.status ≤ 3
      → ComeToTheSame out.output.written other.output.written outcome otherOutcome sink sinkAfter otherSink otherSinkAfter
