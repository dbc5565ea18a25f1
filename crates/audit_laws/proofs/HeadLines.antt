-- Lines that begin with a known word tell nothing.
use Rattle.std.proofs.Common.{◌≡◌, ℕ, true, List, ◌++◌, codes, refl}
use Rattle.std.specs.Fmt.{decimal}
use Rattle.report_texts.proofs.SilentWords.{number_is_silent}
use Rattle.report_texts.specs.AnswerText.{count_line, origin, refused_line}
use Rattle.report_texts.specs.DocketText.{end_line}
use Rattle.report_texts.specs.Lines.{lines_in}
use Rattle.report_texts.specs.declared.capture_end.CaptureEnd.{CaptureEnd}
use Rattle.report_texts.specs.declared.capture_end.CaptureEnd.TheVariants.{Read, Stopped}
use Rattle.pcap_read.specs.Words.{word_of}
use Rattle.pcap_read.specs.declared.capture_fault.CaptureFault.{CaptureFault}
use Rattle.pcap_read.specs.declared.capture_fault.CaptureFault.TheVariants.{ShortHeader, BadMagic, BadVersion, UnknownLink, ShortRecordHeader, RecordTooLong, ShortRecord, TooManyPackets, ReadFault, OutOfMemory}
use Rattle.report_reading.specs.AskLines.{ask_in}
use Rattle.report_reading.specs.LaneLines.{lane_in, publication_in}
use Rattle.report_reading.specs.LightLines.{has_head, head_words}
use Rattle.report_reading.specs.Parts.{behind, positive_at}
use Rattle.report_reading.specs.RecordLines.{named_code_at, record_in}
use Rattle.rule_edits.specs.Words as refusals
use Rattle.rule_edits.specs.declared.apply_fault.ApplyFault.{ApplyFault}
use Rattle.rule_edits.specs.declared.apply_fault.ApplyFault.TheVariants as refusal
use Rattle.run_audit.proofs.LightTexts.{Ends, IsNoOther, ends_behind, newline_ends}
use Rattle.run_audit.proofs.ToldTexts.{IsLine, newline, silent_before}
use Rattle.audit_laws.proofs.RuleLines.{gap_is_silent}
use Rattle.audit_laws.proofs.ToldNothing.{TellsNothing, nothing_of_head}

-- ---- the words

-- a word by which a line of which only the whole text counts is known
pub record IsHead (word : List ℕ) : Type 0 where
  pub silent : lines_in word ≡ 0
  pub known : (rest : List ℕ) → has_head (word ++ rest) ≡ true
  pub apart : (rest : List ℕ) → IsNoOther (word ++ rest)

-- the first line of a listing of rules
pub list_head : IsHead (codes "list line ")
unfolding lines_in has_head head_words named_code_at behind record_in publication_in ask_in lane_in positive_at
list_head = record { silent = refl; known = λ rest. refl; apart = λ rest. record { record_of = refl; publication_of = refl; ask_of = refl; lane_of = refl } }

-- a refused command
pub refused_head : IsHead (codes "refused line ")
unfolding lines_in has_head head_words named_code_at behind record_in publication_in ask_in lane_in positive_at
refused_head = record { silent = refl; known = λ rest. refl; apart = λ rest. record { record_of = refl; publication_of = refl; ask_of = refl; lane_of = refl } }

-- a count of rules
pub rules_head : IsHead (codes "rules ")
unfolding lines_in has_head head_words named_code_at behind record_in publication_in ask_in lane_in positive_at
rules_head = record { silent = refl; known = λ rest. refl; apart = λ rest. record { record_of = refl; publication_of = refl; ask_of = refl; lane_of = refl } }

-- the first line of a listing of a table
pub table_head : IsHead (codes "table ")
unfolding lines_in has_head head_words named_code_at behind record_in publication_in ask_in lane_in positive_at
table_head = record { silent = refl; known = λ rest. refl; apart = λ rest. record { record_of = refl; publication_of = refl; ask_of = refl; lane_of = refl } }

-- the disabled sets
pub disabled_head : IsHead (codes "disabled ")
unfolding lines_in has_head head_words named_code_at behind record_in publication_in ask_in lane_in positive_at
disabled_head = record { silent = refl; known = λ rest. refl; apart = λ rest. record { record_of = refl; publication_of = refl; ask_of = refl; lane_of = refl } }

-- the clock
pub clock_head : IsHead (codes "clock ")
unfolding lines_in has_head head_words named_code_at behind record_in publication_in ask_in lane_in positive_at
clock_head = record { silent = refl; known = λ rest. refl; apart = λ rest. record { record_of = refl; publication_of = refl; ask_of = refl; lane_of = refl } }

-- a count of states
pub states_head : IsHead (codes "states ")
unfolding lines_in has_head head_words named_code_at behind record_in publication_in ask_in lane_in positive_at
states_head = record { silent = refl; known = λ rest. refl; apart = λ rest. record { record_of = refl; publication_of = refl; ask_of = refl; lane_of = refl } }

-- the end of a capture
pub end_head : IsHead (codes "end ")
unfolding lines_in has_head head_words named_code_at behind record_in publication_in ask_in lane_in positive_at
end_head = record { silent = refl; known = λ rest. refl; apart = λ rest. record { record_of = refl; publication_of = refl; ask_of = refl; lane_of = refl } }

-- a capture that was not read to its end
pub fault_head : IsHead (codes "fault ")
unfolding lines_in has_head head_words named_code_at behind record_in publication_in ask_in lane_in positive_at
fault_head = record { silent = refl; known = λ rest. refl; apart = λ rest. record { record_of = refl; publication_of = refl; ask_of = refl; lane_of = refl } }

-- a line that begins with such a word
pub nothing_of_word : (word rest : List ℕ) → IsHead word → IsLine rest → Ends rest → TellsNothing (word ++ rest)
nothing_of_word word rest head line ends =
    nothing_of_head (word ++ rest) (silent_before word rest head.silent line) (ends_behind word rest ends) (head.known rest) (head.apart rest)

-- ---- what stands behind them

-- a text that is the end of a line
pub record IsTail (text : List ℕ) : Type 0 where
  pub line : IsLine text
  pub ends : Ends text

-- the end itself
pub tail_of_end : IsTail (codes "\n")
tail_of_end = record { line = newline; ends = newline_ends }

-- more in front that ends no line
pub tail_behind : (front back : List ℕ) → lines_in front ≡ 0 → IsTail back → IsTail (front ++ back)
tail_behind front back silent tail = record { line = silent_before front back silent tail.line; ends = ends_behind front back tail.ends }

-- a number in front
pub tail_behind_number : (n : ℕ) (back : List ℕ) → IsTail back → IsTail (decimal n ++ back)
tail_behind_number n back tail = tail_behind (decimal n) back (number_is_silent n) tail

-- a line of a known word and the end of a line
pub nothing_of_tail : (word rest : List ℕ) → IsHead word → IsTail rest → TellsNothing (word ++ rest)
nothing_of_tail word rest head tail = nothing_of_word word rest head tail.line tail.ends

-- ---- the lines

-- a count of rules
pub nothing_of_count : (count : ℕ) → TellsNothing (count_line count)
unfolding count_line
nothing_of_count count = nothing_of_tail (codes "rules ") (decimal count ++ codes "\n") rules_head (tail_behind_number count (codes "\n") tail_of_end)

edition_tail : (line edition : ℕ) → IsTail (decimal line ++ (codes " edition " ++ (decimal edition ++ codes "\n")))
unfolding lines_in
edition_tail line edition =
    tail_behind_number line _ (tail_behind (codes " edition ") _ refl (tail_behind_number edition (codes "\n") tail_of_end))

-- the answered line and the edition, at the end of a listing's first line
pub origin_tail : (line edition : ℕ) → IsTail (origin line edition)
unfolding origin lines_in
origin_tail line edition = tail_behind (codes " line ") _ refl (edition_tail line edition)

-- the first line of a listing of rules
pub nothing_of_list : (line edition : ℕ) → TellsNothing (codes "list" ++ origin line edition)
unfolding origin
nothing_of_list line edition = nothing_of_tail (codes "list line ") (decimal line ++ (codes " edition " ++ (decimal edition ++ codes "\n"))) list_head (edition_tail line edition)

refusal_is_silent : (fault : ApplyFault) → lines_in (refusals.word_of fault) ≡ 0
unfolding lines_in
refusal_is_silent refusal.NoSuchRule = refl
refusal_is_silent refusal.ReservedRule = refl
refusal_is_silent refusal.ReservedSet = refl
refusal_is_silent refusal.NoSuchTable = refl
refusal_is_silent refusal.EntryExists = refl
refusal_is_silent refusal.NoSuchEntry = refl
refusal_is_silent refusal.TableInUse = refl
refusal_is_silent refusal.WrongType = refl
refusal_is_silent refusal.TooManyRules = refl
refusal_is_silent refusal.TooManyCounters = refl
refusal_is_silent refusal.TooManyNames = refl
refusal_is_silent refusal.OutOfMemory = refl

-- a refused command
pub nothing_of_refusal : (line : ℕ) (fault : ApplyFault) → TellsNothing (refused_line line fault)
unfolding refused_line
nothing_of_refusal line fault =
    nothing_of_tail (codes "refused line ") (decimal line ++ (codes " " ++ (refusals.word_of fault ++ codes "\n"))) refused_head
    (tail_behind_number line _ (tail_behind (codes " ") _ gap_is_silent (tail_behind (refusals.word_of fault) _ (refusal_is_silent fault) tail_of_end)))

fault_is_silent : (fault : CaptureFault) → lines_in (word_of fault) ≡ 0
unfolding lines_in
fault_is_silent ShortHeader = refl
fault_is_silent BadMagic = refl
fault_is_silent BadVersion = refl
fault_is_silent UnknownLink = refl
fault_is_silent ShortRecordHeader = refl
fault_is_silent RecordTooLong = refl
fault_is_silent ShortRecord = refl
fault_is_silent TooManyPackets = refl
fault_is_silent ReadFault = refl
fault_is_silent OutOfMemory = refl

end_words : (lines_in (codes " records ") ≡ 0) × (lines_in (codes " record ") ≡ 0)
unfolding lines_in
end_words = (refl, refl)

-- the end of a capture
pub nothing_of_end : (capture : ℕ) (end : CaptureEnd) → TellsNothing (end_line capture end)
unfolding end_line
nothing_of_end capture (Read records) =
    nothing_of_tail (codes "end ") (decimal capture ++ (codes " records " ++ (decimal records ++ codes "\n"))) end_head
    (tail_behind_number capture _ (tail_behind (codes " records ") _ end_words.0 (tail_behind_number records (codes "\n") tail_of_end)))
nothing_of_end capture (Stopped at fault count) =
    nothing_of_tail (codes "fault ") (decimal capture ++ (codes " record " ++ (decimal at ++ (codes " " ++ (word_of fault ++ codes "\n"))))) fault_head
    (tail_behind_number capture _ (tail_behind (codes " record ") _ end_words.1 (tail_behind_number at _
    (tail_behind (codes " ") _ gap_is_silent (tail_behind (word_of fault) _ (fault_is_silent fault) tail_of_end)))))
