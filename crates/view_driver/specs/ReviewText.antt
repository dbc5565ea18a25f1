-- The review of a script as text: what is wrong with its lines, and what is odd in one without a fault.
use Rattle.std.specs.Prelude.{ℕ, ◌-◌, ◌==◌, ◌&&◌, ◌||◌, Bool, true, false, not, nat_le, if◌then◌else◌, List, ◌++◌, length, map, take, codes}
use Rattle.std.specs.List.{flat_map, list_any}
use Rattle.std.specs.Fmt.{decimal}
use Rattle.ipfw_parser.specs.declared.kind.Kind.{Kind}
use Rattle.ipfw_parser.specs.declared.kind.Kind.TheVariants.{UnknownWord, MissingWord, ExtraWord, BadNumber, NumberRange, BadAddress, BadPrefix, BadPort, BadRange, BadFlag, BadName, SecondState, Misplaced, BadByte}
use Rattle.rule_edits.specs.Words.{word_of}
use Rattle.report_page.specs.PlainWords.{refusal_words}
use Rattle.script_review.specs.declared.faulty_lines.LineFault.{LineFault}
use Rattle.script_review.specs.declared.findings.Finding.{Finding}
use Rattle.script_review.specs.declared.findings.Finding.TheVariants.{TooLarge, Refused, MeWithoutLocal, Beaten, NoSuchInterface, UnusedTable, DisabledSet}
use Rattle.script_review.specs.declared.findings.Size.{Size}
use Rattle.script_review.specs.declared.findings.Size.TheVariants.{Bytes, Lines, LiveCommands}
use Rattle.view_driver.specs.ColumnsText.{spaces}

-- a byte stands on a page as it is: a tab, and the printed bytes of ASCII from the blank to the tilde
abbrev pub is_printed : ℕ → Bool
is_printed byte = byte == 9 || (nat_le 32 byte && nat_le byte 126)

-- a byte as it is printed: any other is a question mark
abbrev pub printed_byte : ℕ → ℕ
printed_byte byte = if is_printed byte then byte else 63

-- a line of a script as it is printed
unfoldable pub line_text : List ℕ → List ℕ
line_text line = map printed_byte line

-- what stands under a byte, so that it takes as much room: a tab under a tab, else a blank
abbrev pub under_byte : ℕ → ℕ
under_byte byte = if byte == 9 then 9 else 32

-- a mark under the column, from 1: what stands under the bytes before it, blanks beyond the line's end, the mark
unfoldable pub mark_text : List ℕ → ℕ → List ℕ
mark_text line column = map under_byte (take (column - 1) line) ++ (spaces (column - 1 - length line) ++ codes "^\n")

-- what kind of a fault it is, in plain words
abbrev pub kind_words : Kind → List ℕ
kind_words UnknownWord = codes "this word isn't known here"
kind_words MissingWord = codes "the line ends where a word is wanted"
kind_words ExtraWord = codes "the command ends before this word"
kind_words BadNumber = codes "a number is wanted here, in one to ten digits"
kind_words NumberRange = codes "this number is out of its range"
kind_words BadAddress = codes "an address is wanted here"
kind_words BadPrefix = codes "a prefix has 0 to 32 bits, of IPv6 0 to 128"
kind_words BadPort = codes "a port from 0 to 65535, or a service, is wanted here"
kind_words BadRange = codes "this range ends before it begins"
kind_words BadFlag = codes "this flag isn't known, or stands there with and without `!`"
kind_words BadName = codes "this can't be a name: it has a wrong byte, or is too long"
kind_words SecondState = codes "a rule makes one state, and this is its second `keep-state` or `limit`"
kind_words Misplaced = codes "this can't stand here"
kind_words BadByte = codes "this byte can't stand in a script"

-- of what a script has too many
abbrev pub size_words : Size → List ℕ
size_words Bytes = codes "the script has more than 1,048,576 bytes"
size_words Lines = codes "the script has more than 65,536 lines"
size_words LiveCommands = codes "the script has more than 4,096 commands behind `live`"

-- where a fault stands, and what kind it is
unfoldable pub place_text : LineFault → List ℕ
place_text fault =
    codes "line " ++ (decimal fault.line ++ (codes ", column " ++ (decimal fault.column ++ (codes ": " ++ (kind_words fault.kind ++ codes "\n    ")))))

-- a fault: where it stands and what kind it is, the line, and a mark under the column
unfoldable pub fault_text : LineFault → List ℕ
fault_text fault = place_text fault ++ (line_text fault.text.now ++ (codes "\n    " ++ mark_text fault.text.now fault.column))

-- the number of a line of a script, before what is told of it
unfoldable pub line_number : ℕ → List ℕ
line_number line = codes "line " ++ (decimal line ++ codes ": ")

-- what is told of a line of a script
unfoldable pub told_text : ℕ → List ℕ → List ℕ
told_text line told = line_number line ++ (told ++ codes "\n")

-- a rule that no packet meets, by its number, and the line of the rule that takes its packets
unfoldable pub beaten_words : ℕ → ℕ → List ℕ
beaten_words number taker =
    codes "rule " ++ (decimal number ++ (codes " meets no packet while that of line " ++ (decimal taker ++ codes " stands, which takes each before it")))

-- a set that is disabled from the start, and how many rules are in it
unfoldable pub disabled_text : ℕ → ℕ → List ℕ
disabled_text set rules = codes "set " ++ (decimal set ++ (codes " is disabled from the start, rules in it: " ++ (decimal rules ++ codes "\n")))

-- a finding, on a line
abbrev pub finding_text : Finding → List ℕ
finding_text (TooLarge size) = size_words size ++ codes "\n"
finding_text (Refused line fault) = told_text line (codes "refused: " ++ refusal_words (word_of fault))
finding_text (MeWithoutLocal line) = told_text line (codes "`me` is nobody: no `local` gives the host an address")
finding_text (Beaten line number taker) = told_text line (beaten_words number taker)
finding_text (NoSuchInterface line name) = told_text line (codes "no capture is of the interface " ++ name)
finding_text (UnusedTable line name) = told_text line (codes "no rule names the table " ++ name)
finding_text (DisabledSet set rules) = disabled_text set rules

-- nothing was found
abbrev pub is_clean : List LineFault → List Finding → Bool
is_clean faults findings = length faults == 0 && length findings == 0

-- all faults, and behind them all findings
unfoldable pub found_text : List LineFault → List Finding → List ℕ
found_text faults findings = flat_map fault_text faults ++ flat_map finding_text findings

-- all that was found, or the one line where that is nothing
unfoldable pub reviewed_text : List LineFault → List Finding → List ℕ
reviewed_text faults findings = if is_clean faults findings then codes "no fault, and nothing odd\n" else found_text faults findings

-- a finding is a fault: the script can't be run as it is
abbrev pub is_refused : Finding → Bool
is_refused (TooLarge size) = true
is_refused (Refused line fault) = true
is_refused (MeWithoutLocal line) = false
is_refused (Beaten line number taker) = false
is_refused (NoSuchInterface line name) = false
is_refused (UnusedTable line name) = false
is_refused (DisabledSet set rules) = false

-- the status of a review: 2 where a line has a fault or a finding is one, else 0
unfoldable pub review_status : List LineFault → List Finding → ℕ
review_status faults findings = if not (length faults == 0) || list_any is_refused findings then 2 else 0
