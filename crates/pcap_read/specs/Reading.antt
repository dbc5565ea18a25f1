-- The classic pcap format, version 2.4: what a whole string of bytes says.
use Rattle.std.specs.Prelude.{◌≡◌, ℕ, ◌+◌, ◌*◌, ◌≤◌, Bool, ◌&&◌, List, [], ◌∷◌, length, take, drop, Option, None, Some, Result, Ok, Err, ◌==◌, nat_lt, nat_le, if◌then◌else◌, MatchBool, MatchResult, ◌⊎◌}
use Rattle.std.specs.Int.{Width, w16, w32, byte_len, from_le_bytes, from_be_bytes}
use Rattle.fw_base.specs.declared.link.Link.{Link}
use Rattle.fw_base.specs.declared.link.Link.TheVariants.{Null, Ethernet, Raw, Cooked}
use Rattle.pcap_read.specs.declared.format.ByteOrder.{ByteOrder}
use Rattle.pcap_read.specs.declared.format.ByteOrder.TheVariants.{Little, Big}
use Rattle.pcap_read.specs.declared.format.Fraction.{Fraction}
use Rattle.pcap_read.specs.declared.format.Fraction.TheVariants.{Micros, Nanos}
use Rattle.pcap_read.specs.declared.format.Format.{Format}
use Rattle.pcap_read.specs.declared.capture_fault.CaptureFault.{CaptureFault}
use Rattle.pcap_read.specs.declared.capture_fault.CaptureFault.TheVariants.{ShortHeader, BadMagic, BadVersion, UnknownLink, ShortRecordHeader, RecordTooLong, ShortRecord, TooManyPackets, ReadFault}

-- a number of that width, of all of the bytes
abbrev pub number_of : ByteOrder → Width → List ℕ → ℕ
number_of Little w bytes = from_le_bytes w bytes
number_of Big w bytes = from_be_bytes w bytes

-- the number that begins at a place
unfoldable pub number_at : ByteOrder → Width → ℕ → List ℕ → ℕ
number_at order w at bytes = number_of order w (take (byte_len w) (drop at bytes))

-- what the fraction of a time counts, by the magic number
unfoldable pub fraction_of : ℕ → Option Fraction
fraction_of magic = if magic == 0xa1b2c3d4 then Some Micros else if magic == 0xa1b23c4d then Some Nanos else None

-- the four link types that are read
unfoldable pub link_of : ℕ → Option Link
link_of number =
    if number == 0 then Some Null
    else if number == 1 then Some Ethernet
    else if number == 101 then Some Raw
    else if number == 113 then Some Cooked
    else None

-- the version is 2.4
abbrev pub is_version_2_4 : ByteOrder → List ℕ → Bool
is_version_2_4 order bytes = (number_at order w16 4 bytes == 2) && (number_at order w16 6 bytes == 4)

-- a header behind its magic number, which told the byte order and the fraction
unfoldable pub header_in : ByteOrder → Fraction → List ℕ → Result Format CaptureFault
header_in order fraction bytes = if is_version_2_4 order bytes then known (link_of (number_at order w32 20 bytes)) else Err BadVersion
  where
    known : Option Link → Result Format CaptureFault
    known None = Err UnknownLink
    known (Some link) = Ok (record { order = order; fraction = fraction; link = link })

-- A header of 24 bytes: magic number, version, and behind three fields that are not used the link type.
unfoldable pub header_of : List ℕ → Result Format CaptureFault
header_of bytes = little (fraction_of (number_at Little w32 0 bytes))
  where
    big : Option Fraction → Result Format CaptureFault
    big None = Err BadMagic
    big (Some fraction) = header_in Big fraction bytes

    little : Option Fraction → Result Format CaptureFault
    little None = big (fraction_of (number_at Big w32 0 bytes))
    little (Some fraction) = header_in Little fraction bytes

-- a record as its bytes tell it
pub record Captured : Type 0 where
  pub second : ℕ
  pub nanos : ℕ
  pub bytes : List ℕ

-- a fraction of a second in nanoseconds
abbrev pub nanos_of : Fraction → ℕ → ℕ
nanos_of Micros number = number * 1000
nanos_of Nanos number = number

-- The bytes of one record: its second, its fraction, its captured length, its original length, which
-- is not used, and the captured bytes.
unfoldable pub record_of : Format → List ℕ → Captured
record_of format bytes = record {
  second = number_at format.order w32 0 bytes;
  nanos = nanos_of format.fraction (number_at format.order w32 4 bytes);
  bytes = drop 16 bytes;
}

-- a record's captured length
abbrev pub captured_length : Format → List ℕ → ℕ
captured_length format bytes = number_at format.order w32 8 bytes

-- the bytes of one whole record, its header and what was captured
abbrev pub IsRecord : Format → List ℕ → Type 0
IsRecord format bytes = (length bytes ≡ 16 + captured_length format bytes) × (captured_length format bytes ≤ 262144)

-- where a string of bytes ends that could go on
pub data OpenPlace : Type 0 where
  InHeader : OpenPlace
  AtBoundary : OpenPlace
  InRecordHeader : OpenPlace
  InRecord : OpenPlace

-- where the records end: the bytes could go on, or a fault stands there however they go on
pub data Place : Type 0 where
  Open : OpenPlace → Place
  Closed : CaptureFault → Place

-- what the bytes at a record's place are: one more record and the bytes behind it, or none
pub data Next : Type 0 where
  Took : Captured → List ℕ → Next
  Stands : Place → Next

-- Behind the header or a record, of which there were `given` so far. No more than `limit` records are read.
unfoldable pub next_of : ℕ → Format → ℕ → List ℕ → Next
next_of limit format given bytes =
    if length bytes == 0 then Stands (Open AtBoundary)
    else if nat_le limit given then Stands (Closed TooManyPackets)
    else if nat_lt (length bytes) 16 then Stands (Open InRecordHeader)
    else if nat_lt 262144 (captured_length format bytes) then Stands (Closed RecordTooLong)
    else if nat_lt (length bytes) (16 + captured_length format bytes) then Stands (Open InRecord)
    else Took (record_of format (take (16 + captured_length format bytes) bytes)) (drop (16 + captured_length format bytes) bytes)

-- these are the next records, and `rest` are the bytes behind them
abbrev pub HasRecords : ℕ → Format → ℕ → List ℕ → List Captured → List ℕ → Type 0
HasRecords limit format given bytes [] rest = bytes ≡ rest
HasRecords limit format given bytes (r ∷ rs) rest = (more : List ℕ) × (next_of limit format given bytes ≡ Took r more) × HasRecords limit format (given + 1) more rs rest

-- the records behind a header, and the place where they end
abbrev pub EndsAt : ℕ → Format → List ℕ → List Captured → Place → Type 0
EndsAt limit format bytes records place = (rest : List ℕ) × HasRecords limit format 0 bytes records rest × (next_of limit format (length records) rest ≡ Stands place)

-- The front of a string of bytes, of which no more than `limit` records are read: its records, and the
-- place where they end.
abbrev pub HasFront : ℕ → List ℕ → List Captured → Place → Type 0
HasFront limit bytes records place = MatchBool (nat_lt (length bytes) 24)
    ((records ≡ []) × (place ≡ Open InHeader))
    (MatchResult (header_of (take 24 bytes))
    (λ format. EndsAt limit format (drop 24 bytes) records place)
    (λ fault. (records ≡ []) × (place ≡ Closed fault)))

-- what an open place is at the end of the input; None is the end of a whole capture
abbrev pub at_end : OpenPlace → Option CaptureFault
at_end InHeader = Some ShortHeader
at_end AtBoundary = None
at_end InRecordHeader = Some ShortRecordHeader
at_end InRecord = Some ShortRecord

-- A reader that came to this place stops with the fault that stands there. At an open place it stops at
-- the end of the input, or with a failing read, if these facts hold.
abbrev pub Stops : (atEnd failed : Type 0) → Place → Option CaptureFault → Type 0
Stops atEnd failed (Closed fault) stop = stop ≡ Some fault
Stops atEnd failed (Open place) stop = (atEnd × (stop ≡ at_end place)) ⊎ (failed × (stop ≡ Some ReadFault))

-- a reader whose next bytes are these, behind so many records, stops so
abbrev pub StopsBefore : (atEnd failed : Type 0) → ℕ → Format → ℕ → List ℕ → Option CaptureFault → Type 0
StopsBefore atEnd failed limit format given bytes stop = (place : Place) × (next_of limit format given bytes ≡ Stands place) × Stops atEnd failed place stop

-- the number of the record at whose place they end: 0 in the header, else one more than there are records
unfoldable pub place_number : List ℕ → List Captured → ℕ
place_number bytes records = if nat_lt (length bytes) 24 then 0 else behind (header_of (take 24 bytes))
  where
    behind : Result Format CaptureFault → ℕ
    behind (Err fault) = 0
    behind (Ok format) = length records + 1

-- a reader that took these bytes and gave these records stops so, at the record of that number
abbrev pub StopsBehind : (atEnd failed : Type 0) → ℕ → List ℕ → List Captured → ℕ → Option CaptureFault → Type 0
StopsBehind atEnd failed limit bytes records number stop = (place : Place) × HasFront limit bytes records place × Stops atEnd failed place stop × (place_number bytes records ≡ number)
