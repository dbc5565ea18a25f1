-- A capture that ended unread is one whose source failed.
use Rattle.std.proofs.Common.{◌≡◌, ℕ, ◌<◌, Bool, true, false, List, [], ◌∷◌, Option, Some, refl, sym, ap, ◌∙◌, arith, inl, inr, ◌⊎◌}
use Rattle.std.specs.Prelude.{◌||◌}
use Rattle.std.specs.List.{list_any, AllByRecursion}
use Rattle.fw_base.specs.Faults.{Rose}
use Rattle.report_texts.proofs.CaptureEnds.{failed_fault}
use Rattle.report_texts.specs.CaptureEnds.{is_unread}
use Rattle.report_texts.specs.declared.capture_end.CaptureEnd.{CaptureEnd}
use Rattle.report_texts.specs.declared.capture_end.CaptureEnd.TheVariants.{Read, Stopped}
use Rattle.pcap_read.specs.declared.capture_fault.CaptureFault.{CaptureFault}
use Rattle.pcap_read.specs.declared.capture_fault.CaptureFault.TheVariants as fault
use Rattle.capture_tracks.specs.Reading.{Track, IsRead, AllRead}
use Rattle.capture_tracks.specs.declared.opened.OpenedCapture.{OpenedCapture}
use Rattle.replay_setup.specs.FailedReads.{FailedRead, HasFailedRead}

module _ {S : Type 0} (left : S → Option (List ℕ)) (failures : S → ℕ) where
  -- so many captures that were opened with a count of 0
  abbrev pub AreFresh : List (OpenedCapture S) → Type 0
  AreFresh opened = AllByRecursion (λ capture. failures capture.source ≡ 0) opened

  failed_end : (limit : ℕ) (source after : S) (track : Track) (end : CaptureEnd) → IsRead left failures limit source after track end → failures source ≡ 0 → is_unread end ≡ true → FailedRead end
  failed_end limit source after track (Read records) read zero e = absurd (cc)
  failed_end limit source after track (Stopped at f count) read zero e =
      let (stopped, numbered, counted) = read.told in
      let is : f ≡ fault.ReadFault = failed_fault f e in
      let rose : Rose (failures source) (failures after) = read.stopped.cause.failed_read (stopped ∙ ap (λ (g : CaptureFault). Some g) is) in
      let some : 0 < count = omega arith in
      (at, count, ap (λ (g : CaptureFault). Stopped at g count) is, some)

  -- a capture that ended unread is one whose source failed in this run
  pub failed_read : (limit : ℕ) (opened : List (OpenedCapture S)) (sources : List S) (tracks : List Track) (ends : List CaptureEnd) → AllRead left failures limit opened sources tracks ends → AreFresh opened
      → list_any is_unread ends ≡ true → HasFailedRead ends
  failed_read limit [] [] [] [] read fresh e = absurd (cc)
  failed_read limit [] [] [] (end ∷ ends) read fresh e = absurd read
  failed_read limit [] [] (track ∷ tracks) ends read fresh e = absurd read
  failed_read limit [] (source ∷ sources) tracks ends read fresh e = absurd read
  failed_read limit (o ∷ os) [] tracks ends read fresh e = absurd read
  failed_read limit (o ∷ os) (source ∷ sources) [] ends read fresh e = absurd read
  failed_read limit (o ∷ os) (source ∷ sources) (track ∷ tracks) [] read fresh e = absurd read
  failed_read limit (o ∷ os) (source ∷ sources) (track ∷ tracks) (end ∷ ends) read fresh e =
      let (port, here, behind) = read in
      by_test (is_unread end) refl here (λ more. failed_read limit os sources tracks ends behind fresh.1 more) e
    where
      by_test : (b : Bool) → is_unread end ≡ b → IsRead left failures limit o.source source track end → (list_any is_unread ends ≡ true → HasFailedRead ends) → list_any is_unread (end ∷ ends) ≡ true
          → FailedRead end ⊎ HasFailedRead ends
      by_test true is here behind e = inl (failed_end limit o.source source track end here fresh.0 is)
      by_test false is here behind e = inr (behind (sym (ap (λ (b : Bool). b || list_any is_unread ends) is) ∙ e))
