-- What a run comes to: its status and its text.
use Rattle.std.specs.Prelude.{ℕ, ◌<◌, ⊤, Bool, true, false, if◌then◌else◌, List, [], ◌++◌, length, codes, Option, None, Some}
use Rattle.std.specs.List.{list_any}
use Rattle.capture_tracks.specs.Reported.{report_record}
use Rattle.report_texts.specs.CaptureEnds.{is_unread}
use Rattle.report_texts.specs.Report.{report_text}
use Rattle.report_texts.specs.Summary.{summary_text}
use Rattle.report_texts.specs.declared.ends.Answer.{Answer}
use Rattle.report_texts.specs.declared.ends.Answer.TheVariants as answer
use Rattle.report_texts.specs.declared.capture_end.CaptureEnd.{CaptureEnd}
use Rattle.report_texts.specs.declared.capture_end.CaptureEnd.TheVariants.{Read, Stopped}
use Rattle.report_texts.specs.declared.ends.LineAnswer.{LineAnswer}
use Rattle.fw_world.specs.RecordValue.{RecordValue}
use Rattle.replay_setup.specs.ScriptTexts.{error_text}
use Rattle.replay_setup.specs.UnreadName.{unread_text}
use Rattle.replay_driver.specs.declared.run_result.RunResult.{RunResult}
use Rattle.replay_driver.specs.declared.run_result.RunResult.TheVariants.{Usage, Unread, Unready, Reported, Summed}

-- the usage line
unfoldable pub usage_text : List ℕ
usage_text = codes "usage: ipfw_replay serial|live [--journal] SCRIPT in|out:IF:CAPTURE .. | load N\n"

-- the summary of a record: its dockets, and how many editions, entries of the journal and live states there are
abbrev pub summary_of : RecordValue → List ℕ
summary_of r = summary_text r.dockets (length r.editions) (length r.journal.entries) (length r.journal.object.states)

-- the capture ended with a fault
abbrev pub is_stopped : CaptureEnd → Bool
is_stopped (Read records) = false
is_stopped (Stopped at fault count) = true

-- the answer says that a command was refused
abbrev pub is_refusal : Answer → Bool
is_refusal (answer.Refused fault) = true
is_refusal (answer.Listed edition table) = false

-- the command on the line was refused
abbrev pub is_refused : LineAnswer → Bool
is_refused line = is_refusal line.answer

-- 4 where a capture's source failed, else 3 where a capture has another fault, else 2 where a command behind
-- `live` was refused
unfoldable pub report_status : List CaptureEnd → List LineAnswer → ℕ
report_status captures answers =
    if list_any is_unread captures then 4
    else if list_any is_stopped captures then 3
    else if list_any is_refused answers then 2
    else 0

-- the status that the text is written with
abbrev pub result_status : RunResult → ℕ
result_status Usage = 1
result_status (Unread name) = 4
result_status (Unready error) = 2
result_status (Reported kept ends journal) = report_status ends.captures ends.answers
result_status (Summed kept ends) = report_status ends.captures ends.answers

-- the text that is written
unfoldable pub result_text : RunResult → List ℕ
result_text Usage = usage_text
result_text (Unread name) = unread_text name
result_text (Unready error) = error_text error
result_text (Reported kept ends journal) = report_text (report_record kept) ends.captures ends.answers journal
result_text (Summed kept ends) = summary_of kept

-- the record that is kept, how the captures ended, and the answers to lines of the script
abbrev pub result_kept : RunResult → Option RecordValue
result_kept Usage = None
result_kept (Unread name) = None
result_kept (Unready error) = None
result_kept (Reported kept ends journal) = Some kept
result_kept (Summed kept ends) = Some kept

-- how the captures ended, where some were replayed
abbrev pub result_ends : RunResult → List CaptureEnd
result_ends Usage = []
result_ends (Unread name) = []
result_ends (Unready error) = []
result_ends (Reported kept ends journal) = ends.captures
result_ends (Summed kept ends) = ends.captures

-- the answers to lines of the script, where captures were replayed
abbrev pub result_answers : RunResult → List LineAnswer
result_answers Usage = []
result_answers (Unread name) = []
result_answers (Unready error) = []
result_answers (Reported kept ends journal) = ends.answers
result_answers (Summed kept ends) = ends.answers

-- what can be written: a report wants an edition
abbrev pub IsWritable : RunResult → Type 0
IsWritable Usage = ⊤
IsWritable (Unread name) = ⊤
IsWritable (Unready error) = ⊤
IsWritable (Reported kept ends journal) = 0 < length kept.editions
IsWritable (Summed kept ends) = ⊤
