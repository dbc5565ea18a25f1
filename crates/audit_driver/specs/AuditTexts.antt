-- The line that an audit prints, and its status.
use Rattle.std.specs.Prelude.{ℕ, List, ◌++◌, codes, decimal}
use Rattle.replay_setup.specs.UnreadName.{unread_text}
use Rattle.replay_setup.specs.ScriptTexts.{error_text}
use Rattle.audit_driver.specs.declared.audit_result.AuditResult.{AuditResult}
use Rattle.audit_driver.specs.declared.audit_result.AuditResult.TheVariants.{Unread, Unready, TooLong, No, Yes}

-- the text that is written
unfoldable pub result_text : AuditResult → List ℕ
result_text (Unread name) = unread_text name
result_text (Unready error) = error_text error
result_text TooLong = codes "audit no TooLong\n"
result_text (No line) = codes "audit no line " ++ (decimal line ++ codes "\n")
result_text Yes = codes "audit yes\n"

-- the status that it is written with
abbrev pub result_status : AuditResult → ℕ
result_status (Unread name) = 4
result_status (Unready error) = 2
result_status TooLong = 7
result_status (No line) = 7
result_status Yes = 0
