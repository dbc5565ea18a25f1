-- What `run` promises of a replay or a load follows from what it does exactly.
use Rattle.std.proofs.Common.{Some, Option}
use Rattle.std.specs.Prelude.{IfSome}
use Rattle.replay_setup.specs.Outside.{Files, Output}
use Rattle.replay_driver.specs.Run.{IsRunOf}
use Rattle.replay_driver.specs.Served.{Job}
use Rattle.replay_setup.specs.declared.outcome.Outcome.{Outcome}
use Rattle.replay_driver.proofs.Complete.{ends_0}
use Rattle.replay_driver.proofs.LoadWords.{CanBeMade}
use Rattle.replay_driver.proofs.Promised.{all_kept, all_quiet, all_1, all_unready, all_refused, all_faulty, all_unread, all_failed, all_risen, all_silent, all_openings, all_steady}
use Rattle.replay_setup.proofs.Logic.{IfSome-both}
use Rattle.run_driver.specs.RunPromises.{KeepsPromises}

module _ {K S L : Type 0} (output : Output K) (files : Files L S) (library libraryAfter : L) (sink sinkAfter : K) (outcome : Outcome S) where
  keeps : (job : Job) → CanBeMade job → IsRunOf output files job library libraryAfter sink sinkAfter outcome → KeepsPromises output files job library libraryAfter sink sinkAfter outcome
  keeps job few run = record {
    report = all_kept output files library libraryAfter sink sinkAfter outcome (Some job) run (λ none. absurd (cc));
    status_0_cause = all_quiet output files library libraryAfter sink sinkAfter outcome (Some job) run (λ none. absurd (cc));
    never_1 = λ one. let none = all_1 output files library libraryAfter sink sinkAfter outcome (Some job) run (λ none. absurd (cc)) one in absurd (cc);
    status_2_before = all_unready output files library libraryAfter sink sinkAfter outcome (Some job) run (λ none. absurd (cc)) few;
    status_2_with_record = all_refused output files library libraryAfter sink sinkAfter outcome (Some job) run (λ none. absurd (cc));
    status_3_cause = all_faulty output files library libraryAfter sink sinkAfter outcome (Some job) run (λ none. absurd (cc));
    status_4_before = all_unread output files library libraryAfter sink sinkAfter outcome (Some job) run (λ none. absurd (cc));
    status_4_with_record = all_failed output files library libraryAfter sink sinkAfter outcome (Some job) run (λ none. absurd (cc));
    status_5_cause = all_risen output files library libraryAfter sink sinkAfter outcome (Some job) run (λ none. absurd (cc));
    status_6_silent = all_silent output files library libraryAfter sink sinkAfter outcome (Some job) run (λ none. absurd (cc));
    openings = all_openings output files library libraryAfter sink sinkAfter outcome (Some job) run (λ none. absurd (cc));
    no_second_try = all_steady output files library libraryAfter sink sinkAfter outcome (Some job) run (λ none. absurd (cc));
    complete = ends_0 output files library libraryAfter sink sinkAfter outcome job few run;
  }

  -- of words that are a job
  pub all_promised : (command : Option Job) → IfSome command CanBeMade → IfSome command (λ job. IsRunOf output files job library libraryAfter sink sinkAfter outcome)
      → IfSome command (λ job. KeepsPromises output files job library libraryAfter sink sinkAfter outcome)
  all_promised command few found = IfSome-both command _ _ _ keeps few found
