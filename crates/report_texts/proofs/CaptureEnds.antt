-- Which fault tells of a failed read.
use Rattle.std.proofs.Common.{◌≡◌, true, refl}
use Rattle.report_texts.specs.CaptureEnds.{is_failed_read}
use Rattle.pcap_read.specs.declared.capture_fault.CaptureFault.{CaptureFault}
use Rattle.pcap_read.specs.declared.capture_fault.CaptureFault.TheVariants as fault

-- a fault by which a read is known to have failed
pub failed_fault : (f : CaptureFault) → is_failed_read f ≡ true → f ≡ fault.ReadFault
failed_fault fault.ReadFault e = refl
failed_fault fault.ShortHeader e = absurd (cc)
failed_fault fault.BadMagic e = absurd (cc)
failed_fault fault.BadVersion e = absurd (cc)
failed_fault fault.UnknownLink e = absurd (cc)
failed_fault fault.ShortRecordHeader e = absurd (cc)
failed_fault fault.RecordTooLong e = absurd (cc)
failed_fault fault.ShortRecord e = absurd (cc)
failed_fault fault.TooManyPackets e = absurd (cc)
failed_fault fault.OutOfMemory e = absurd (cc)
