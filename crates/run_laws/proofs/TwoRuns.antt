-- What the contract of `run` says of two runs, by their job.
use Rattle.std.proofs.Common.{◌≡◌, ◌≤◌, Option, None, Some, IfSome, IfNone}
use Rattle.replay_driver.specs.Promises.{IsKept, IsUnreadyJob, IsQuiet, IsFaulty}
use Rattle.replay_driver.specs.Served.{Job, IsSerialJob}
use Rattle.replay_setup.specs.declared.outcome.Outcome.{Outcome}
use Rattle.run_laws.specs.TwoRuns.{Outside, HaveSameFiles, ComeToTheSame, IsPromisedRun}
use Rattle.run_laws.proofs.Determined.{runs_are_determined}

-- a run of words that are a job keeps the promises of that job
pub run_promised : {L S K : Type 0} (out : Outside L S K) (library libraryAfter : L) (sink sinkAfter : K) (outcome : Outcome S) (command : Option Job)
    → IfSome outcome.kept (λ kept. IfSome command (λ job. IsKept out.output out.files job library libraryAfter sink sinkAfter outcome kept))
    → (outcome.status ≡ 0 → IsQuiet outcome) → (outcome.status ≡ 1 → command ≡ None)
    → (outcome.status ≡ 2 → IfNone outcome.kept (IfSome command (λ job. IsUnreadyJob out.output out.files job library libraryAfter sink sinkAfter outcome)))
    → (outcome.status ≡ 3 → IsFaulty outcome)
    → IfSome command (λ job. IsPromisedRun out job library libraryAfter sink sinkAfter outcome)
run_promised out library libraryAfter sink sinkAfter outcome None report quiet usage unready faulty = tt
run_promised out library libraryAfter sink sinkAfter outcome (Some job) report quiet usage unready faulty = record {
  report = report;
  status_0_cause = quiet;
  status_1_cause = λ one. let none = usage one in absurd (cc);
  status_2_before = unready;
  status_3_cause = faulty;
}

-- two runs of words that are a job of serial mode, or a load, come to the same
pub both_same : {L S K M T N : Type 0} (out : Outside L S K) (other : Outside M T N)
    (library libraryAfter : L) (otherLibrary otherLibraryAfter : M) (sink sinkAfter : K) (otherSink otherSinkAfter : N) (outcome : Outcome S) (otherOutcome : Outcome T) (command : Option Job)
    → IfSome command (λ job. IsPromisedRun out job library libraryAfter sink sinkAfter outcome)
    → IfSome command (λ job. IsPromisedRun other job otherLibrary otherLibraryAfter otherSink otherSinkAfter otherOutcome)
    → IfSome command (λ job. IsSerialJob job → HaveSameFiles job (out.files.pairs library) (other.files.pairs otherLibrary) → outcome.status ≤ 3 → otherOutcome.status ≤ 3
    → ComeToTheSame out.output.written other.output.written outcome otherOutcome sink sinkAfter otherSink otherSinkAfter)
both_same out other library libraryAfter otherLibrary otherLibraryAfter sink sinkAfter otherSink otherSinkAfter outcome otherOutcome None run otherRun = tt
both_same out other library libraryAfter otherLibrary otherLibraryAfter sink sinkAfter otherSink otherSinkAfter outcome otherOutcome (Some job) run otherRun = λ serial.
    runs_are_determined out other job library libraryAfter otherLibrary otherLibraryAfter sink sinkAfter otherSink otherSinkAfter outcome otherOutcome serial run otherRun
