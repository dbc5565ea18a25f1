-- What is found of the words of an audit.
use Rattle.std.proofs.Common.{◌≡◌, ℕ, List, ◌∷◌, inl, inr}
use Rattle.command_words.specs.declared.invocation.Mode.TheVariants.{Serial}
use Rattle.replay_setup.specs.NamesRead.{IsUnreadable, HasNoEdition}
use Rattle.replay_setup.specs.Ready.{IsReady}
use Rattle.replay_setup.specs.Outside.{Files}
use Rattle.replay_setup.specs.declared.ready.Ready.{Ready}
use Rattle.replay_setup.specs.declared.script_error.ScriptError.{ScriptError}
use Rattle.audit_driver.specs.AuditNames.{AuditNames}
use Rattle.audit_driver.specs.Found.{ConcludesAudit, IsAudited, FindsAudit, FindsBehindReport}
use Rattle.audit_driver.specs.declared.audit_result.AuditResult.{AuditResult}
use Rattle.audit_driver.specs.declared.audit_result.AuditResult.TheVariants.{Unread, Unready, TooLong, No, Yes}

module _ {L S : Type 0} (files : Files L S) where
  -- a name behind the report could not be opened or read
  pub unread_behind : (names : AuditNames) (between new : L) (report : S) (bytes : List ℕ) (name : List ℕ) (behind sources : List S) → IsUnreadable files names.script names.captures between new name behind → sources ≡ report ∷ behind
      → FindsBehindReport files names between new report bytes (Unread name) sources
  unread_behind names between new report bytes name behind sources found back old reads =
      inr (inr (inl (record { report = report; bytes = bytes; between = between; reads = reads; behind = behind; found = found; given_back = back })))

  -- the script gives no edition
  pub unready_behind : (names : AuditNames) (between new : L) (report : S) (bytes : List ℕ) (error : ScriptError) (behind sources : List S) → HasNoEdition files Serial names.script names.captures between new error behind → sources ≡ report ∷ behind
      → FindsBehindReport files names between new report bytes (Unready error) sources
  unready_behind names between new report bytes error behind sources found back old reads =
      record { report = report; bytes = bytes; between = between; reads = reads; behind = behind; found = found; given_back = back }

  -- all was ready, and the audit came to this
  pub audited_behind : (names : AuditNames) (between new : L) (report : S) (bytes : List ℕ) (ready : Ready S) (result : AuditResult) (captures sources : List S) → IsReady files Serial names.script names.captures between new ready
      → ConcludesAudit files.left files.failures ready.first bytes names.captures ready.captures.items result captures → sources ≡ report ∷ ready.script ∷ captures
      → FindsBehindReport files names between new report bytes result sources
  audited_behind names between new report bytes ready result captures sources is concludes back old reads = by_result result concludes
    where
      is_audited : (result : AuditResult) → ConcludesAudit files.left files.failures ready.first bytes names.captures ready.captures.items result captures → IsAudited files names old new result sources
      is_audited result concludes = record {
        report = report;
        bytes = bytes;
        between = between;
        reads_report = reads;
        script = ready.script;
        script_bytes = is.bytes;
        opened = ready.captures.items;
        reads = is.reads;
        edition = ready.first;
        first = is.first;
        captures = captures;
        concludes = concludes;
        given_back = back;
      }

      by_result : (result : AuditResult) → ConcludesAudit files.left files.failures ready.first bytes names.captures ready.captures.items result captures → FindsAudit files names old new result sources
      by_result (Unread name) concludes = inr (inr (inr (is_audited (Unread name) concludes)))
      by_result (Unready error) concludes = absurd concludes
      by_result TooLong concludes = is_audited TooLong concludes
      by_result (No line) concludes = is_audited (No line) concludes
      by_result Yes concludes = is_audited Yes concludes
