-- What stands at a record's place, case by case.
use Rattle.std.proofs.Common.{◌≡◌, ℕ, ◌+◌, ◌<◌, ◌≤◌, List, ◌++◌, length, take, drop, Some, Bool, true, false, MatchBool, inl, inr, refl, ap, ◌∙◌, arith, length-drop}
use Rattle.std.proofs.lemmas.List.{take-append-le}
use lib.Seq.{drop-append-le}
use Rattle.std.proofs.lemmas.Grind.{common_steps}
use Rattle.std.specs.Int.{w32}
use Rattle.pcap_read.specs.declared.format.ByteOrder.{ByteOrder}
use Rattle.pcap_read.specs.declared.format.Format.{Format}
use Rattle.pcap_read.specs.declared.capture_fault.CaptureFault.TheVariants.{RecordTooLong, TooManyPackets, ReadFault}
use Rattle.pcap_read.specs.Reading.{number_of, number_at, captured_length, record_of, next_of, OpenPlace, Open, Closed, at_end, StopsBefore, AtBoundary, InRecordHeader, InRecord, Took, Stands}

-- where no bytes are left the records end at a boundary
pub at_boundary : (limit : ℕ) (format : Format) (given : ℕ) (bytes : List ℕ) → length bytes ≡ 0 → next_of limit format given bytes ≡ Stands (Open AtBoundary)
unfolding next_of
at_boundary limit format given bytes none = grind (arith, common_steps)

-- bytes behind as many records as may be read are a fault
pub too_many : (limit : ℕ) (format : Format) (given : ℕ) (bytes : List ℕ) → 0 < length bytes → limit ≤ given → next_of limit format given bytes ≡ Stands (Closed TooManyPackets)
unfolding next_of
too_many limit format given bytes some many = grind (arith, common_steps)

-- fewer bytes than a record's header end within it
pub in_record_header : (limit : ℕ) (format : Format) (given : ℕ) (bytes : List ℕ) → 0 < length bytes → given < limit → length bytes < 16 → next_of limit format given bytes ≡ Stands (Open InRecordHeader)
unfolding next_of
in_record_header limit format given bytes some few short = grind (arith, common_steps)

-- a captured length above 262,144 is a fault
pub too_long : (limit : ℕ) (format : Format) (given : ℕ) (bytes : List ℕ) → given < limit → 16 ≤ length bytes → 262144 < captured_length format bytes → next_of limit format given bytes ≡ Stands (Closed RecordTooLong)
unfolding next_of
too_long limit format given bytes few whole long = grind (arith, common_steps)

-- fewer bytes than the header's captured length wants end within the record
pub in_record : (limit : ℕ) (format : Format) (given : ℕ) (bytes : List ℕ) → given < limit → 16 ≤ length bytes → captured_length format bytes ≤ 262144 → length bytes < 16 + captured_length format bytes
    → next_of limit format given bytes ≡ Stands (Open InRecord)
unfolding next_of
in_record limit format given bytes few whole fits short = grind (arith, common_steps)

-- a header with all bytes of its captured length is one more record
pub took : (limit : ℕ) (format : Format) (given : ℕ) (bytes : List ℕ) (size : ℕ) → given < limit → captured_length format bytes ≤ 262144 → size ≡ 16 + captured_length format bytes → size ≤ length bytes
    → next_of limit format given bytes ≡ Took (record_of format (take size bytes)) (drop size bytes)
unfolding next_of
took limit format given bytes size few fits is whole = grind (arith, common_steps)

-- a number stays where more bytes come behind it
pub number_at-append : (order : ByteOrder) (at : ℕ) (xs ys : List ℕ) → at + 4 ≤ length xs → number_at order w32 at (xs ++ ys) ≡ number_at order w32 at xs
unfolding number_at
number_at-append order at xs ys h =
    let behind : 4 ≤ length (drop at xs) = omega (arith, length-drop at xs) in
    ap (λ l. number_of order w32 (take 4 l)) (drop-append-le at xs ys (omega arith)) ∙ ap (number_of order w32) (take-append-le 4 (drop at xs) ys behind)

-- a record's captured length stays where more bytes come behind its header
pub captured_length-grown : (format : Format) (held heldAfter got : List ℕ) → 16 ≤ length held → heldAfter ≡ held ++ got → captured_length format heldAfter ≡ captured_length format held
captured_length-grown format held heldAfter got h e = ap (captured_length format) e ∙ number_at-append format.order 8 held got (omega arith)

-- how a reader stops there
pub stops_failed : {atEnd failed : Type 0} (limit : ℕ) (format : Format) (given : ℕ) (bytes : List ℕ) (place : OpenPlace) → next_of limit format given bytes ≡ Stands (Open place) → failed → StopsBefore atEnd failed limit format given bytes (Some ReadFault)
stops_failed limit format given bytes place e h = (Open place, e, inr (h, refl))

-- a reader at a place that is open stops at the source's end, as that place says
pub stops_at_end : {atEnd failed : Type 0} (limit : ℕ) (format : Format) (given : ℕ) (bytes : List ℕ) (place : OpenPlace) → next_of limit format given bytes ≡ Stands (Open place) → atEnd → StopsBefore atEnd failed limit format given bytes (at_end place)
stops_at_end limit format given bytes place e h = (Open place, e, inl (h, refl))
