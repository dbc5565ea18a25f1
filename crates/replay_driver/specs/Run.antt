-- What a run leaves: what was found, written with its status.
use Rattle.std.specs.Prelude.{◌≡◌, [], None, ◌⊎◌}
use Rattle.replay_driver.specs.Found.{FindsJob}
use Rattle.replay_driver.specs.RunResult.{usage_text, result_status, result_text, result_kept, result_ends, result_answers}
use Rattle.replay_driver.specs.Served.{Job}
use Rattle.replay_driver.specs.declared.run_result.Found.{Found}
use Rattle.replay_setup.specs.Outcomes.{IsWithoutMemory, Writes}
use Rattle.replay_setup.specs.declared.outcome.Outcome.{Outcome}
use Rattle.replay_driver.specs.declared.run_result.RunResult.{RunResult}
use Rattle.replay_setup.specs.Outside.{Files, Output}

module _ {K : Type 0} (output : Output K) where
  module _ {S : Type 0} where
    -- what was found is written with its status, and kept
    pub record WritesResult (sink sinkAfter : K) (result : RunResult) (outcome : Outcome S) : Type 0 where
      pub writes : Writes output sink sinkAfter (result_status result) outcome.status (result_text result)
      pub kept : outcome.kept ≡ result_kept result
      pub ends : outcome.ends.captures ≡ result_ends result
      pub answers : outcome.ends.answers ≡ result_answers result

    -- what was found is written, or memory ran out before
    abbrev pub IsFoundRun : Found S → K → K → Outcome S → Type 0
    IsFoundRun found sink sinkAfter outcome =
        IsWithoutMemory sink sinkAfter outcome ⊎ (WritesResult sink sinkAfter found.result outcome × (outcome.sources ≡ found.sources))

    -- The words are no command: the usage line is written with status 1, and nothing is opened.
    pub record IsUsage {L : Type 0} (library libraryAfter : L) (sink sinkAfter : K) (outcome : Outcome S) : Type 0 where
      pub library_kept : libraryAfter ≡ library
      pub nothing_opened : outcome.sources.items ≡ []
      pub nothing_kept : outcome.kept ≡ None
      pub no_end : outcome.ends.captures ≡ []
      pub no_answer : outcome.ends.answers ≡ []
      pub writes : Writes output sink sinkAfter 1 outcome.status usage_text

    -- the words are no command, or memory ran out before that was known
    abbrev pub IsNoCommand : {L : Type 0} → L → L → K → K → Outcome S → Type 0
    IsNoCommand library libraryAfter sink sinkAfter outcome =
        IsWithoutMemory sink sinkAfter outcome ⊎ IsUsage library libraryAfter sink sinkAfter outcome

    module _ {L : Type 0} (files : Files L S) where
      -- What is found of the command is written with its status, and kept.
      pub record IsAnswered (job : Job) (library libraryAfter : L) (sink sinkAfter : K) (outcome : Outcome S) : Type 0 where
        pub result : RunResult
        pub finds : FindsJob files job library libraryAfter result outcome.sources.items
        pub written_result : WritesResult sink sinkAfter result outcome

      -- a run of a command
      abbrev pub IsRunOf : Job → L → L → K → K → Outcome S → Type 0
      IsRunOf job library libraryAfter sink sinkAfter outcome =
          IsWithoutMemory sink sinkAfter outcome ⊎ IsAnswered job library libraryAfter sink sinkAfter outcome
