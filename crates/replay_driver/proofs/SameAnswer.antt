-- What is so of an answer is so of the same answer, and what is so beside a library and a sink is so beside the same.
-- An answer to a clause of `run` that goes by these is refused by an equation alone where the body answers another
-- outcome, or calls on with another library or sink: the checker doesn't open the words' definitions to tell why.
use Rattle.std.proofs.Common.{◌≡◌, Option, None, subst, ◌⊎◌}
use Rattle.std.specs.Prelude.{IfSome, IfNone}
use Rattle.replay_setup.specs.Outside.{Files, Output}
use Rattle.replay_driver.specs.Promises.{IsKept, IsUnreadJob, IsUnreadyJob, IsCompleteJob}
use Rattle.replay_driver.specs.Run.{IsNoCommand, IsRunOf}
use Rattle.replay_driver.specs.Served.{Job}
use Rattle.replay_setup.specs.declared.outcome.Outcome.{Outcome}

module _ {K S L : Type 0} (output : Output K) (files : Files L S) (library libraryAfter : L) (sink sinkAfter : K) (command : Option Job) where
  module _ (told answered : Outcome S) (same : told ≡ answered) where
    -- a run of the command
    pub same_run : IfSome command (λ job. IsRunOf output files job library libraryAfter sink sinkAfter told)
        → IfSome command (λ job. IsRunOf output files job library libraryAfter sink sinkAfter answered)
    same_run is = subst (λ (o : Outcome S). IfSome command (λ job. IsRunOf output files job library libraryAfter sink sinkAfter o)) same is

    -- the record that is kept
    pub same_kept : IfSome told.kept (λ kept. IfSome command (λ job. IsKept output files job library libraryAfter sink sinkAfter told kept))
        → IfSome answered.kept (λ kept. IfSome command (λ job. IsKept output files job library libraryAfter sink sinkAfter answered kept))
    same_kept is = subst (λ (o : Outcome S). IfSome o.kept (λ kept. IfSome command (λ job. IsKept output files job library libraryAfter sink sinkAfter o kept))) same is

    -- why a script gives no edition
    pub same_unready : (told.status ≡ 2 → IfNone told.kept (IfSome command (λ job. IsUnreadyJob output files job library libraryAfter sink sinkAfter told)))
        → answered.status ≡ 2 → IfNone answered.kept (IfSome command (λ job. IsUnreadyJob output files job library libraryAfter sink sinkAfter answered))
    same_unready is = subst (λ (o : Outcome S). o.status ≡ 2 → IfNone o.kept (IfSome command (λ job. IsUnreadyJob output files job library libraryAfter sink sinkAfter o))) same is

    -- which name could not be opened or read
    pub same_unread : (told.status ≡ 4 → IfNone told.kept (IfSome command (λ job. IsUnreadJob output files job library libraryAfter sink sinkAfter told)))
        → answered.status ≡ 4 → IfNone answered.kept (IfSome command (λ job. IsUnreadJob output files job library libraryAfter sink sinkAfter answered))
    same_unread is = subst (λ (o : Outcome S). o.status ≡ 4 → IfNone o.kept (IfSome command (λ job. IsUnreadJob output files job library libraryAfter sink sinkAfter o))) same is

    -- where all is as it should be
    pub same_complete : IfSome command (λ job. IsCompleteJob output files job library libraryAfter sink sinkAfter told → (told.status ≡ 0) ⊎ (told.status ≡ 6))
        → IfSome command (λ job. IsCompleteJob output files job library libraryAfter sink sinkAfter answered → (answered.status ≡ 0) ⊎ (answered.status ≡ 6))
    same_complete is = subst (λ (o : Outcome S). IfSome command (λ job. IsCompleteJob output files job library libraryAfter sink sinkAfter o → (o.status ≡ 0) ⊎ (o.status ≡ 6))) same is

module _ {K S L : Type 0} (output : Output K) (files : Files L S) (libraryAfter : L) (sinkAfter : K) (command : Option Job) (told : Outcome S) where
  -- what is run of the words beside a library and a sink
  abbrev IsRunBeside : L → K → Type 0
  IsRunBeside library sink = IfSome command (λ job. IsRunOf output files job library libraryAfter sink sinkAfter told)
      × (command ≡ None → IsNoCommand output library libraryAfter sink sinkAfter told)

  -- a run of the words beside a library and a sink is one beside the same library and sink
  pub run_beside : (libraryTold library : L) (sinkTold sink : K) → libraryTold ≡ library → sinkTold ≡ sink
      → IfSome command (λ job. IsRunOf output files job libraryTold libraryAfter sinkTold sinkAfter told)
      → (command ≡ None → IsNoCommand output libraryTold libraryAfter sinkTold sinkAfter told)
      → IfSome command (λ job. IsRunOf output files job library libraryAfter sink sinkAfter told)
      × (command ≡ None → IsNoCommand output library libraryAfter sink sinkAfter told)
  run_beside libraryTold library sinkTold sink same_library same_sink found usage =
      subst (IsRunBeside library) same_sink (subst (λ (l : L). IsRunBeside l sinkTold) same_library (found, usage))
