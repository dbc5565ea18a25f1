-- What a report is written of.
use Rattle.report_texts.specs.Recorded.{Recorded}
use Rattle.fw_world.specs.RecordValue.{RecordValue}

-- a record as what is reported of it
abbrev pub report_record : RecordValue → Recorded
report_record r = record { editions = r.editions; journal = r.journal; dockets = r.dockets; tallies = r.tallies; trackers = r.trackers; hits = r.hits }
