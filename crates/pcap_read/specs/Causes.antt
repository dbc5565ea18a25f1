-- The faults that the bytes of a capture don't show.
use Rattle.std.specs.Prelude.{◌≡◌, ◌≢◌, ℕ, Option, Some, Result, Err}
use Rattle.fw_base.specs.Faults.{Rose}
use Rattle.pcap_read.specs.declared.capture_fault.CaptureFault.{CaptureFault}
use Rattle.pcap_read.specs.declared.capture_fault.CaptureFault.TheVariants.{ReadFault, OutOfMemory}

-- The source's count of faults was `before` and is `now`: a failing read is told only where it rose, and
-- anything else only where it stood still. Want of memory is never told.
pub record HasOwnCause {T : Type 0} (before now : ℕ) (result : Result T CaptureFault) : Type 0 where
  pub failed_read : result ≡ Err ReadFault → Rose before now
  pub steady : result ≢ Err ReadFault → now ≡ before
  pub has_memory : result ≢ Err OutOfMemory

-- The same of a stop: with a failing read only where the count rose, with anything else only where it
-- stood still.
pub record TellsFailedRead (before now : ℕ) (stop : Option CaptureFault) : Type 0 where
  pub failed_read : stop ≡ Some ReadFault → Rose before now
  pub steady : stop ≢ Some ReadFault → now ≡ before

-- the bytes of a header show the fault that was answered, if one was
pub record IsFaultOfBytes {T : Type 0} (result : Result T CaptureFault) : Type 0 where
  pub no_read : result ≢ Err ReadFault
  pub has_memory : result ≢ Err OutOfMemory
