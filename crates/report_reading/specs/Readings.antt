-- Each line of a report, read as what it tells.
use Rattle.std.specs.Prelude.{ℕ, ◌≡◌, true, if◌then◌else◌, Option, Some, None, List, [], ◌∷◌}
use Rattle.report_texts.specs.DocketText.{record_line}
use Rattle.report_texts.specs.JournalText.{ask_line, publish_line, lane_line}
use Rattle.fw_base.specs.Chain.{◌>>=◌, or_else}
use Rattle.report_reading.specs.RecordLines.{IsRecord, record_in}
use Rattle.report_reading.specs.LaneLines.{IsLane, IsPublication, lane_in, publication_in}
use Rattle.report_reading.specs.AskLines.{IsAsk, AskValue, value_of_ask, ask_in}
use Rattle.report_reading.specs.LightLines.{is_light}
use Rattle.report_reading.specs.declared.lane_lines.LaneLine.{LaneLine}
use Rattle.report_reading.specs.declared.readings.Reading.{Reading}
use Rattle.report_reading.specs.declared.readings.Reading.TheVariants.{Record, Published, Ask, Lane, Other}
use Rattle.report_reading.specs.declared.record_lines.RecordLine.{RecordLine}

-- what a line tells
pub data LineValue : Type 0 where
  OfRecord : RecordLine → LineValue
  OfPublication : ℕ → LineValue
  OfAsk : AskValue → LineValue
  OfLane : LaneLine → LineValue
  OfOther : LineValue

-- a reading as its value
abbrev pub line_value : Reading → LineValue
line_value (Record told) = OfRecord told
line_value (Published number) = OfPublication number
line_value (Ask told) = OfAsk (value_of_ask told)
line_value (Lane told) = OfLane told
line_value Other = OfOther

-- a line is the text of this value, in its ranges; of others only the form is told
abbrev pub IsLineOf : List ℕ → LineValue → Type 0
IsLineOf line (OfRecord told) = (line ≡ record_line told.capture told.at told.entry) × IsRecord told.capture told.at told.entry
IsLineOf line (OfPublication number) = (line ≡ publish_line number) × IsPublication number
IsLineOf line (OfAsk told) =
    (line ≡ ask_line (told.name ∷ []) told.lane told.at told.op told.reply) × IsAsk (told.name ∷ []) told.lane told.at told.op told.reply
IsLineOf line (OfLane told) = (line ≡ lane_line told.lane told.refused told.tracker) × IsLane told.lane told.refused told.tracker
IsLineOf line OfOther = is_light line ≡ true

-- a line of which only the whole text counts
abbrev pub light_value : List ℕ → Option LineValue
light_value line = if is_light line then Some OfOther else None

-- what a line tells, where it has the form of one of the kinds
unfoldable pub reading_of : List ℕ → Option LineValue
reading_of line =
    or_else (record_in line >>= λ told. Some (OfRecord told))
    (or_else (publication_in line >>= λ number. Some (OfPublication number))
    (or_else (ask_in line >>= λ told. Some (OfAsk told)) (or_else (lane_in line >>= λ told. Some (OfLane told)) (light_value line))))
