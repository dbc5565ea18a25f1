-- What is printed of why there is nothing to show, and the status that it is printed with.
use Rattle.std.specs.Prelude.{ℕ, List, [], ◌++◌, codes, decimal}
use Rattle.pcap_read.specs.Words.{word_of}
use Rattle.replay_setup.specs.ScriptTexts.{error_text}
use Rattle.replay_setup.specs.UnreadName.{unread_text}
use Rattle.view_driver.specs.declared.trouble.Trouble.{Trouble}
use Rattle.view_driver.specs.declared.trouble.Trouble.TheVariants.{Usage, Unread, NoReport, Script, NoJournal, OtherScript, Captures, Records, Named, OtherRecords, Capture, OutOfMemory}

-- how the program is called
unfoldable pub usage_text : List ℕ
usage_text = codes "usage: report_view moves OLD NEW [in|out:IF:CAPTURE ..] | page [--script SCRIPT] REPORT [NEW] | script SCRIPT [in|out:IF:CAPTURE ..]\n"

-- two counts, each behind its word
unfoldable pub counts_text : List ℕ → ℕ → List ℕ → ℕ → List ℕ
counts_text word old middle new = word ++ (decimal old ++ (middle ++ (decimal new ++ codes "\n")))

-- what stands between the counts of two reports
unfoldable pub in_both : List ℕ
in_both = codes " in the first report, in the second "

-- at which line the text of a name is no report
unfoldable pub no_report_text : List ℕ → ℕ → List ℕ
no_report_text name line = name ++ (codes ": line " ++ (decimal line ++ codes " is none that a report has there\n"))

-- that the report of a name has no journal
unfoldable pub no_journal_text : List ℕ → List ℕ
no_journal_text name = name ++ codes ": has no journal, which ipfw_replay prints with --journal\n"

-- at which line a report is not of its script
unfoldable pub other_script_text : List ℕ → ℕ → List ℕ → List ℕ
other_script_text report line script =
    report ++ (codes ": line " ++ (decimal line ++ (codes " is not what " ++ (script ++ codes " gives\n"))))

-- that two reports don't have as many captures
unfoldable pub captures_text : ℕ → ℕ → List ℕ
captures_text old new = counts_text (codes "captures: ") old in_both new

-- which capture doesn't have as many records in both reports
unfoldable pub records_text : ℕ → ℕ → ℕ → List ℕ
records_text capture old new =
    codes "capture " ++ (decimal capture ++ (codes ": records: " ++ (decimal old ++ (in_both ++ (decimal new ++ codes "\n")))))

-- that other captures were named than the reports have
unfoldable pub named_text : ℕ → ℕ → List ℕ
named_text told named = counts_text (codes "captures: ") told (codes " in the reports, named ") named

-- that a capture hasn't the records that its reports tell
unfoldable pub other_records_text : List ℕ → ℕ → ℕ → List ℕ
other_records_text name told read =
    name ++ (codes ": records: " ++ (decimal told ++ (codes " in the reports, in the capture " ++ (decimal read ++ codes "\n"))))

-- at which record a capture has a fault of this name; 0 stands for its header
unfoldable pub fault_word_text : List ℕ → ℕ → List ℕ → List ℕ
fault_word_text name at word = name ++ (codes ": record " ++ (decimal at ++ (codes " " ++ (word ++ codes "\n"))))

-- why there is nothing to show; nothing is printed where memory ran out
unfoldable pub trouble_text : Trouble → List ℕ
trouble_text Usage = usage_text
trouble_text (Unread name) = unread_text name.now
trouble_text (NoReport name line) = no_report_text name.now line
trouble_text (Script error) = error_text error
trouble_text (NoJournal name) = no_journal_text name.now
trouble_text (OtherScript report line script) = other_script_text report.now line script.now
trouble_text (Captures old new) = captures_text old new
trouble_text (Records capture old new) = records_text capture old new
trouble_text (Named told named) = named_text told named
trouble_text (OtherRecords name told read) = other_records_text name.now told read
trouble_text (Capture name at fault) = fault_word_text name.now at (word_of fault)
trouble_text OutOfMemory = []

-- the status that it is printed with: 1 where the words are no command, 2 where a text isn't read, 3 where texts and
-- captures don't fit together, 4 where a name isn't read, 6 where memory ran out
abbrev pub trouble_status : Trouble → ℕ
trouble_status Usage = 1
trouble_status (Unread name) = 4
trouble_status (NoReport name line) = 2
trouble_status (Script error) = 2
trouble_status (NoJournal name) = 3
trouble_status (OtherScript report line script) = 3
trouble_status (Captures old new) = 3
trouble_status (Records capture old new) = 3
trouble_status (Named told named) = 3
trouble_status (OtherRecords name told read) = 3
trouble_status (Capture name at fault) = 3
trouble_status OutOfMemory = 6
