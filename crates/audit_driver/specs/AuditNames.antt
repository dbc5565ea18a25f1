-- Which words ask for an audit, and what they name.
use Rattle.std.specs.Prelude.{ℕ, List, Option, None, Some, map, option_and_then}
use Rattle.command_words.specs.Invocation.{capture_names}
use Rattle.command_words.specs.Words.{CommandWords, CaptureNames, Replay, Load, Audit, command_of}
use Rattle.audit_driver.specs.declared.audit_command.AuditWords.{AuditWords}

-- the names of a report, of the script and the captures that it is to be of
pub record AuditNames : Type 0 where
  pub report : List ℕ
  pub script : List ℕ
  pub captures : List CaptureNames

-- what a command names, where it is an audit
abbrev pub names_of_command : CommandWords → Option AuditNames
names_of_command (Replay mode journal cache script captures) = None
names_of_command (Load records) = None
names_of_command (Audit report script captures) = Some (record { report = report; script = script; captures = captures })

-- what these words name, where they ask for an audit
abbrev pub names_of : List (List ℕ) → Option AuditNames
names_of words = option_and_then names_of_command (command_of words)

-- what they name, as values
abbrev pub words_named : AuditWords → AuditNames
words_named words = record { report = words.report.now; script = words.script.now; captures = map capture_names words.captures.now }
