-- How many records a capture has, and how it ends.
use Rattle.std.specs.Prelude.{◌≡◌, ◌≢◌, ℕ, ◌+◌, List, [], length, Option, Some}
use Rattle.pcap_read.specs.declared.capture_fault.CaptureFault.{CaptureFault}
use Rattle.pcap_read.specs.declared.capture_fault.CaptureFault.TheVariants.{ReadFault, OutOfMemory}
use Rattle.pcap_read.specs.declared.counting.Counted.{Counted}
use Rattle.pcap_read.specs.declared.capture_fault.OpenFault.{OpenFault}
use Rattle.pcap_read.specs.Reading.{Captured, Place, Open, Closed, HasFront, at_end}
use Rattle.pcap_read.specs.Capture.{StopsWith}

-- what stands behind the records of bytes that are all there are: a fault, or None at the end
abbrev pub stop_at : Place → Option CaptureFault
stop_at (Open place) = at_end place
stop_at (Closed fault) = Some fault

module _ {S : Type 0} where
  -- the bytes that were taken from the source have so many records, and a reader stops so behind them
  abbrev pub IsCounted : (S → Option (List ℕ)) → (S → ℕ) → ℕ → S → Counted S → Type 0
  IsCounted left faults limit source counted = (bytes : List ℕ) × (records : List Captured) × (length records ≡ counted.records)
      × StopsWith left faults limit source counted.source bytes records (counted.records + 1) counted.fault

  -- unless a read failed, these are the count and the fault of all the bytes
  abbrev pub IsExact : ℕ → List ℕ → Counted S → Type 0
  IsExact limit whole counted = counted.fault ≢ Some ReadFault → (records : List Captured) (place : Place) → HasFront limit whole records place → (counted.records ≡ length records) × (counted.fault ≡ stop_at place)

  -- unless a read failed or memory ran out, the fault is that of all the bytes, and stands before any record
  abbrev pub IsExactFault : ℕ → List ℕ → OpenFault S → Type 0
  IsExactFault limit whole refused = refused.fault ≢ ReadFault → refused.fault ≢ OutOfMemory
      → (records : List Captured) (place : Place) → HasFront limit whole records place → (records ≡ []) × (Some refused.fault ≡ stop_at place)
