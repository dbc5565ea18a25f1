-- What an audit leaves: what was found, written with its status.
use Rattle.std.specs.Prelude.{◌≡◌, [], None, ◌⊎◌}
use Rattle.replay_setup.specs.Outside.{Files, Output}
use Rattle.replay_setup.specs.Outcomes.{IsWithoutMemory, Writes}
use Rattle.replay_setup.specs.declared.outcome.Outcome.{Outcome}
use Rattle.audit_driver.specs.AuditNames.{AuditNames}
use Rattle.audit_driver.specs.AuditTexts.{result_status, result_text}
use Rattle.audit_driver.specs.Found.{FindsAudit}
use Rattle.audit_driver.specs.declared.audit_command.Found.{Found}
use Rattle.audit_driver.specs.declared.audit_result.AuditResult.{AuditResult}

module _ {K S : Type 0} (output : Output K) where
  -- what was found is written with its status, and nothing is kept
  pub record WritesAudit (sink sinkAfter : K) (result : AuditResult) (outcome : Outcome S) : Type 0 where
    pub writes : Writes output sink sinkAfter (result_status result) outcome.status (result_text result)
    pub nothing_kept : outcome.kept ≡ None
    pub no_end : outcome.ends.captures ≡ []
    pub no_answer : outcome.ends.answers ≡ []

  -- what was found is written, and its sources are handed back
  abbrev pub IsFoundAudit : Found S → K → K → Outcome S → Type 0
  IsFoundAudit found sink sinkAfter outcome = WritesAudit sink sinkAfter found.result outcome × (outcome.sources ≡ found.sources)

  module _ {L : Type 0} (files : Files L S) where
    -- what is found of the words is written with its status
    pub record IsAnswered (names : AuditNames) (library libraryAfter : L) (sink sinkAfter : K) (outcome : Outcome S) : Type 0 where
      pub result : AuditResult
      pub finds : FindsAudit files names library libraryAfter result outcome.sources.items
      pub written_result : WritesAudit sink sinkAfter result outcome

    -- an audit of these names, or memory ran out
    abbrev pub IsAuditRun : AuditNames → L → L → K → K → Outcome S → Type 0
    IsAuditRun names library libraryAfter sink sinkAfter outcome =
        IsWithoutMemory sink sinkAfter outcome ⊎ IsAnswered names library libraryAfter sink sinkAfter outcome
