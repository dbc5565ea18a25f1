-- The faults in words.
use Rattle.std.specs.Prelude.{ℕ, List, codes}
use Rattle.pcap_read.specs.declared.capture_fault.CaptureFault.{CaptureFault}
use Rattle.pcap_read.specs.declared.capture_fault.CaptureFault.TheVariants.{ShortHeader, BadMagic, BadVersion, UnknownLink, ShortRecordHeader, RecordTooLong, ShortRecord, TooManyPackets, ReadFault, OutOfMemory}

-- its own name, as a report prints it
abbrev pub word_of : CaptureFault → List ℕ
word_of ShortHeader = codes "ShortHeader"
word_of BadMagic = codes "BadMagic"
word_of BadVersion = codes "BadVersion"
word_of UnknownLink = codes "UnknownLink"
word_of ShortRecordHeader = codes "ShortRecordHeader"
word_of RecordTooLong = codes "RecordTooLong"
word_of ShortRecord = codes "ShortRecord"
word_of TooManyPackets = codes "TooManyPackets"
word_of ReadFault = codes "ReadFault"
word_of OutOfMemory = codes "OutOfMemory"

-- what went wrong
abbrev pub sentence_of : CaptureFault → List ℕ
sentence_of ShortHeader = codes "the capture ends in its header"
sentence_of BadMagic = codes "the magic number is unknown"
sentence_of BadVersion = codes "the version is not 2.4"
sentence_of UnknownLink = codes "the link type is unknown"
sentence_of ShortRecordHeader = codes "the capture ends in a record's header"
sentence_of RecordTooLong = codes "a record is longer than 262,144 bytes"
sentence_of ShortRecord = codes "the capture ends in a record"
sentence_of TooManyPackets = codes "the capture has more records than are read"
sentence_of ReadFault = codes "the capture could not be read"
sentence_of OutOfMemory = codes "out of memory"
