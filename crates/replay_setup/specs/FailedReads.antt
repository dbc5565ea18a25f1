-- Captures that ended because a read failed.
use Rattle.std.specs.Prelude.{◌≡◌, ℕ, ◌<◌, List, [], ◌∷◌, ◌⊎◌}
use Rattle.pcap_read.specs.declared.capture_fault.CaptureFault.TheVariants.{ReadFault}
use Rattle.report_texts.specs.declared.capture_end.CaptureEnd.{CaptureEnd}
use Rattle.report_texts.specs.declared.capture_end.CaptureEnd.TheVariants.{Stopped}

-- the capture's source failed in this run, in which it was opened with a count of 0
abbrev pub FailedRead : CaptureEnd → Type 0
FailedRead end = (at : ℕ) × (count : ℕ) × (end ≡ Stopped at ReadFault count) × (0 < count)

-- some capture's source failed
abbrev pub HasFailedRead : List CaptureEnd → Type 0
HasFailedRead [] = ⊥
HasFailedRead (end ∷ ends) = FailedRead end ⊎ HasFailedRead ends
