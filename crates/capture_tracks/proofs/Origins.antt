-- Where a track's capture was taken.
use Rattle.std.proofs.Common.{◌≡◌, ℕ, Option, Some, None, List, refl, sym, ap, subst, ◌∙◌}
use Rattle.std.specs.Prelude.{MatchOption}
use Rattle.fw_base.specs.declared.port.Port.{Port}
use Rattle.report_texts.specs.declared.capture_end.CaptureEnd.{CaptureEnd}
use Rattle.pcap_read.specs.Capture.{link_of, source_of}
use Rattle.pcap_read.specs.Reading.{Captured}
use Rattle.capture_tracks.specs.Reading.{Origin}
use Rattle.capture_tracks.specs.Tracks.{IsTrack, GoesOn, IsReadToEnd, held_in}
use Rattle.capture_tracks.specs.declared.open_track.OpenTrack.{OpenTrack}
use Rattle.capture_tracks.specs.declared.opened.OpenedCapture.{OpenedCapture}
use Rattle.capture_tracks.specs.declared.track.Track.TheVariants.{Open}

module _ {S : Type 0} (left : S → Option (List ℕ)) (faults : S → ℕ) where
  -- an open track that holds a record has the link type and the port of its capture
  pub origin-open : (limit : ℕ) (opened : OpenedCapture S) (track : OpenTrack S) (done : List Captured) (origin : Origin) (r : Captured) → held_in track ≡ Some r → IsTrack left faults limit opened (Open track) done origin → origin ≡ record { link = link_of track.capture; port = track.port }
  origin-open limit opened track done origin r held is = cases track.end refl
    where
      cases : (end : Option CaptureEnd) → track.end ≡ end → origin ≡ record { link = link_of track.capture; port = track.port }
      cases None running =
          let on = subst (λ e. MatchOption e (GoesOn left faults limit opened track done origin) (λ end. IsReadToEnd left faults limit opened (source_of track.capture) end done origin × (held_in track ≡ None))) running is.1 in
          on.origin_is ∙ ap (λ (p : Port). record { link = link_of track.capture; port = p }) (sym is.0)
      cases (Some end) ended =
          let none = subst (λ e. MatchOption e (GoesOn left faults limit opened track done origin) (λ end. IsReadToEnd left faults limit opened (source_of track.capture) end done origin × (held_in track ≡ None))) ended is.1 in
          let never : Some r ≡ None = sym held ∙ none.1 in
          absurd (cc)
