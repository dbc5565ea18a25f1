-- What contracts see of a capture that is open, and what its calls do.
use Rattle.std.specs.Prelude.{◌≡◌, ℕ, ◌+◌, ◌≤◌, List, [], ◌∷◌, ◌++◌, length, take, drop, Option, None, Some, IfSome, Result, Ok, Err, MatchResult, MatchOption, ◌==◌, if◌then◌else◌, ◌⊎◌}
use Rattle.std.specs.Option.{option_map}
use Rattle.std.specs.Io.KnownBytes.{Consumes, IsAtEnd}
use Rattle.fw_base.specs.Faults.{Rose}
use Rattle.fw_base.specs.declared.link.Link.{Link}
use Rattle.pcap_read.specs.declared.capture_fault.CaptureFault.{CaptureFault}
use Rattle.pcap_read.specs.declared.capture_fault.CaptureFault.TheVariants.{OutOfMemory}
use Rattle.pcap_read.specs.declared.capture.Capture.{Capture}
use Rattle.pcap_read.specs.declared.format.Format.{Format}
use Rattle.pcap_read.specs.declared.capture_fault.OpenFault.{OpenFault}
use Rattle.pcap_read.specs.declared.record.Record.{Record}
use Rattle.pcap_read.specs.declared.capture_fault.Stop.{Stop}
use Rattle.pcap_read.specs.declared.capture_fault.Stop.TheVariants.{End, Fault}
use Rattle.pcap_read.specs.Causes.{HasOwnCause, TellsFailedRead}
use Rattle.pcap_read.specs.Reading.{Captured, header_of, record_of, HasRecords, StopsBehind}

-- a record that was lent, as its bytes told it
abbrev pub captured_of : Record → Captured
captured_of r = record { second = r.second; nanos = r.nanos; bytes = r.bytes.now }

-- what a capture stopped with: a fault, or None at its end
abbrev pub stopped_with : Stop → Option CaptureFault
stopped_with End = None
stopped_with (Fault fault) = Some fault

-- the answer of a capture that stopped so
abbrev pub answer_at : Option CaptureFault → Result (Option Captured) CaptureFault
answer_at None = Ok None
answer_at (Some fault) = Err fault

-- how a capture that answered so stopped, if it did
abbrev pub stop_by : Result (Option Captured) CaptureFault → Option (Option CaptureFault)
stop_by (Ok None) = Some None
stop_by (Ok (Some r)) = None
stop_by (Err fault) = Some (Some fault)

-- the record in an answer
abbrev pub record_in : Result (Option Captured) CaptureFault → Option Captured
record_in (Ok found) = found
record_in (Err fault) = None

-- the answer of `next`, as the bytes told it
abbrev pub answer_of : Result (Option Record) CaptureFault → Result (Option Captured) CaptureFault
answer_of (Ok None) = Ok None
answer_of (Ok (Some r)) = Ok (Some (captured_of r))
answer_of (Err fault) = Err fault

-- the answer of a call that went on to a record or none, or failed
abbrev pub answer_with : {U : Type 0} → Result U CaptureFault → Option Captured → Result (Option Captured) CaptureFault
answer_with (Ok u) found = Ok found
answer_with (Err fault) found = Err fault

module _ {S : Type 0} where
  -- the source that it is read from
  abbrev pub source_of : Capture S → S
  source_of c = c.source

  -- what its header says: byte order, unit of its times, link type (pcap 2.4)
  abbrev pub format_of : Capture S → Format
  format_of c = c.format

  -- the link type of its packets
  abbrev pub link_of : Capture S → Link
  link_of c = c.format.link

  -- how many records it gives at most
  abbrev pub limit_of : Capture S → ℕ
  limit_of c = c.limit

  -- how many records it gave
  abbrev pub given_of : Capture S → ℕ
  given_of c = c.given

  -- the bytes that it took from its source and that belong to none of the records it gave
  abbrev pub held_of : Capture S → List ℕ
  held_of c = drop c.size c.window

  -- the record that it gave last, if its last call gave one
  abbrev pub current_of : Capture S → Option Captured
  current_of c = if c.size == 0 then None else Some (record_of c.format (take c.size c.window))

  -- how it stopped, if it did: with a fault, or with None at its end
  abbrev pub stop_of : Capture S → Option (Option CaptureFault)
  stop_of c = option_map stopped_with c.stop

  module _ (left : S → Option (List ℕ)) (faults : S → ℕ) where
    -- It was opened on that source and goes on. These are all the bytes that it took, and these all the
    -- records it gave. No read failed.
    pub record IsReading (source : S) (c : Capture S) (bytes : List ℕ) (records : List Captured) : Type 0 where
      pub running : stop_of c ≡ None
      pub taken : Consumes (left source) (left (source_of c)) bytes
      pub steady : faults (source_of c) ≡ faults source
      pub whole : 24 ≤ length bytes
      pub header : header_of (take 24 bytes) ≡ Ok (format_of c)
      pub gives : HasRecords (limit_of c) (format_of c) 0 (drop 24 bytes) records (held_of c)
      pub count : given_of c ≡ length records

    -- A reader of at most `limit` records that was opened on the source as it was `before` took these bytes,
    -- gave these records and stopped so, at the record of that number. It leaves the source as it is `now`.
    pub record StopsWith (limit : ℕ) (before now : S) (bytes : List ℕ) (records : List Captured) (number : ℕ) (stop : Option CaptureFault) : Type 0 where
      pub taken : Consumes (left before) (left now) bytes
      pub behind : StopsBehind (IsAtEnd (left now)) (Rose (faults before) (faults now)) limit bytes records number stop
      pub cause : TellsFailedRead (faults before) (faults now) stop

    -- a capture was opened: it took a header from the source and gave no record
    pub record IsOpened (most : ℕ) (source : S) (c : Capture S) : Type 0 where
      pub reading : (bytes : List ℕ) × IsReading source c bytes []
      pub limit : limit_of c ≡ most
      pub current : current_of c ≡ None

    -- a source is no capture, for the fault that stands in its header; or there was no memory, and then nothing was read
    pub record IsRefused (limit : ℕ) (source : S) (refused : OpenFault S) : Type 0 where
      pub cause : ((refused.fault ≡ OutOfMemory) × (refused.source ≡ source))
          ⊎ ((bytes : List ℕ) × StopsWith limit source refused.source bytes [] 0 (Some refused.fault))
      pub no_memory : refused.fault ≡ OutOfMemory → refused.source ≡ source
      pub failed_read : TellsFailedRead (faults source) (faults refused.source) (Some refused.fault)
      pub later : faults source ≤ faults refused.source

    -- one more record of the bytes so far and those that came, or the place where they end
    abbrev pub Continues : Capture S → Capture S → Result (Option Captured) CaptureFault → Type 0
    Continues old new answer = (source : S) (bytes : List ℕ) (records : List Captured) → IsReading source old bytes records
        → (got : List ℕ) × MatchResult answer
        (λ found. MatchOption found
        (StopsWith (limit_of old) source (source_of new) (bytes ++ got) records (length records + 1) None)
        (λ r. IsReading source new (bytes ++ got) (records ++ r ∷ [])))
        (λ fault. StopsWith (limit_of old) source (source_of new) (bytes ++ got) records (length records + 1) (Some fault))

    -- what `next` does
    pub record Advances (old new : Capture S) (answer : Result (Option Captured) CaptureFault) : Type 0 where
      pub continues : Continues old new answer
      -- a capture that stopped answers the same again, and leaves its source
      pub again : IfSome (stop_of old) (λ stop. (answer ≡ answer_at stop) × (source_of new ≡ source_of old))
      -- One that goes on tells a failing read exactly where a read failed: a record, an end or another fault
      -- comes only where the source's count of faults stood still. It never tells want of memory.
      pub cause : stop_of old ≡ None → HasOwnCause (faults (source_of old)) (faults (source_of new)) answer
      pub stop : stop_of new ≡ stop_by answer
      pub current : current_of new ≡ record_in answer
      pub link : link_of new ≡ link_of old
      pub limit : limit_of new ≡ limit_of old
      pub counts : MatchOption (record_in answer) (given_of new ≡ given_of old) (λ _. (given_of new ≡ given_of old + 1) × (given_of new ≤ limit_of old))
      pub later : faults (source_of old) ≤ faults (source_of new)

    -- The bytes behind those of a capture that goes on were read to the place where they end, and gave so many more records.
    abbrev pub Finishes : Capture S → Capture S → ℕ → Option CaptureFault → Type 0
    Finishes old new count stop = (source : S) (bytes : List ℕ) (records : List Captured) → IsReading source old bytes records
        → (got : List ℕ) × (more : List Captured) × (length more ≡ count)
        × StopsWith (limit_of old) source (source_of new) (bytes ++ got) (records ++ more) (length (records ++ more) + 1) stop
