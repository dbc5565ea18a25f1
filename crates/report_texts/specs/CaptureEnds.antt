-- Which captures ended because a read failed.
use Rattle.std.specs.Prelude.{Bool, true, false}
use Rattle.report_texts.specs.declared.capture_end.CaptureEnd.{CaptureEnd}
use Rattle.report_texts.specs.declared.capture_end.CaptureEnd.TheVariants.{Read, Stopped}
use Rattle.pcap_read.specs.declared.capture_fault.CaptureFault.{CaptureFault}
use Rattle.pcap_read.specs.declared.capture_fault.CaptureFault.TheVariants.{ShortHeader, BadMagic, BadVersion, UnknownLink, ShortRecordHeader, RecordTooLong, ShortRecord, TooManyPackets, ReadFault, OutOfMemory}

-- a source failed; every other fault stands in the capture's bytes, but for want of memory
abbrev pub is_failed_read : CaptureFault → Bool
is_failed_read ShortHeader = false
is_failed_read BadMagic = false
is_failed_read BadVersion = false
is_failed_read UnknownLink = false
is_failed_read ShortRecordHeader = false
is_failed_read RecordTooLong = false
is_failed_read ShortRecord = false
is_failed_read TooManyPackets = false
is_failed_read ReadFault = true
is_failed_read OutOfMemory = false

-- the capture ended because its source failed
abbrev pub is_unread : CaptureEnd → Bool
is_unread (Read records) = false
is_unread (Stopped at fault count) = is_failed_read fault
