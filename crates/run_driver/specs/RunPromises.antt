-- What `run` promises of a replay or a load, as one fact.
use Rattle.std.specs.Prelude.{◌≡◌, ◌≢◌, ◌⊎◌, IfNone, IfSome, length, take}
use Rattle.fw_base.specs.Faults.{Rose}
use Rattle.replay_setup.specs.Openings.{pairs_without}
use Rattle.replay_setup.specs.Outside.{Files, Output}
use Rattle.replay_driver.specs.Promises.{HasRefusedCommand, IsCompleteJob, IsFaulty, IsKept, IsQuiet, IsUnreadJob, IsUnreadyJob, opening_order}
use Rattle.replay_setup.specs.FailedReads.{HasFailedRead}
use Rattle.replay_driver.specs.Served.{Job}
use Rattle.replay_setup.specs.declared.outcome.Outcome.{Outcome}

-- The clauses of these names of `replay_driver::run`, of words that are this job; that run's comments say what each means.
pub record KeepsPromises {K S L : Type 0} (output : Output K) (files : Files L S) (job : Job) (library libraryAfter : L) (sink sinkAfter : K) (outcome : Outcome S) : Type 0 where
  -- the headline
  pub report : IfSome outcome.kept (λ kept. IsKept output files job library libraryAfter sink sinkAfter outcome kept)
  -- each status only where its cause is
  pub status_0_cause : outcome.status ≡ 0 → IsQuiet outcome
  pub never_1 : outcome.status ≢ 1
  pub status_2_before : outcome.status ≡ 2 → IfNone outcome.kept (IsUnreadyJob output files job library libraryAfter sink sinkAfter outcome)
  pub status_2_with_record : outcome.status ≡ 2 → IfSome outcome.kept (λ _. HasRefusedCommand outcome)
  pub status_3_cause : outcome.status ≡ 3 → IsFaulty outcome
  pub status_4_before : outcome.status ≡ 4 → IfNone outcome.kept (IsUnreadJob output files job library libraryAfter sink sinkAfter outcome)
  pub status_4_with_record : outcome.status ≡ 4 → IfSome outcome.kept (λ _. HasFailedRead outcome.ends.captures)
  pub status_5_cause : outcome.status ≡ 5 → Rose (output.faults sink) (output.faults sinkAfter)
  pub status_6_silent : outcome.status ≡ 6 → sinkAfter ≡ sink
  -- the names are opened in their order, once each, and no other is
  pub openings : IfSome (files.pairs library) (λ pairs. outcome.status ≢ 6 → files.pairs libraryAfter ≡ pairs_without (take (length outcome.sources.items) (opening_order job)) pairs)
  pub no_second_try : IfSome outcome.kept (λ _. files.faults libraryAfter ≡ files.faults library)
  -- where all is as it should be, and memory is there, the status is 0
  pub complete : IsCompleteJob output files job library libraryAfter sink sinkAfter outcome → (outcome.status ≡ 0) ⊎ (outcome.status ≡ 6)
