-- Which commands a replay's run carries out: all but an audit.
use Rattle.std.specs.Prelude.{◌≡◌, ℕ, ⊤, Bool, List, Option, None, Some, option_and_then}
use Rattle.command_words.specs.Words.{CommandWords, CaptureNames, Replay, Load, Audit, command_of}
use Rattle.command_words.specs.declared.invocation.Mode.{Mode}
use Rattle.command_words.specs.declared.invocation.Mode.TheVariants.{Serial}

-- What the words of a replay name: its mode, whether the report has the journal, how many verdicts each lane's
-- cache may hold, where one is asked for, and the files.
pub record ReplayNames : Type 0 where
  pub mode : Mode
  pub journal : Bool
  pub cache : Option ℕ
  pub script : List ℕ
  pub captures : List CaptureNames

-- captures that are replayed beside a script, or a load of so many records
pub data Job : Type 0 where
  Replays : ReplayNames → Job
  Loads : (records : ℕ) → Job

-- what the words ask for
abbrev pub job_of_command : CommandWords → Option Job
job_of_command (Replay mode journal cache script captures) =
    Some (Replays (record { mode = mode; journal = journal; cache = cache; script = script; captures = captures }))
job_of_command (Load records) = Some (Loads records)
job_of_command (Audit report script captures) = None

-- what these words ask for
abbrev pub job_of : List (List ℕ) → Option Job
job_of words = option_and_then job_of_command (command_of words)

-- a replay of this job goes through records and commands in the order of the schedule, as a load's does
abbrev pub IsSerialJob : Job → Type 0
IsSerialJob (Replays names) = names.mode ≡ Serial
IsSerialJob (Loads records) = ⊤
