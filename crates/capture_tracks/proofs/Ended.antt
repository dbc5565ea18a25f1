-- A capture has ended: what was read of it.
use Rattle.std.proofs.Common.{◌≡◌, ℕ, Option, Some, None, List, refl, sym, ap, subst}
use Rattle.std.specs.Prelude.{MatchOption, unwrap_or, is_some}
use Rattle.report_texts.specs.declared.capture_end.CaptureEnd.{CaptureEnd}
use Rattle.report_texts.specs.declared.capture_end.CaptureEnd.TheVariants.{Read}
use Rattle.pcap_read.specs.Capture.{source_of}
use Rattle.pcap_read.specs.Reading.{Captured}
use Rattle.capture_tracks.specs.Reading as reading
use Rattle.capture_tracks.specs.Reading.{Origin, origin_of, IsRead}
use Rattle.capture_tracks.specs.Tracks.{IsTrack, IsSettled, GoesOn, IsReadToEnd, end_of, held_in, held_record_of, source_at}
use Rattle.capture_tracks.specs.declared.opened.OpenedCapture.{OpenedCapture}
use Rattle.capture_tracks.specs.declared.track.Track.{Track}
use Rattle.capture_tracks.specs.declared.track.Track.TheVariants.{Open, Refused}

module _ {S : Type 0} (left : S → Option (List ℕ)) (faults : S → ℕ) where
  -- what one capture came to
  pub record Told (limit : ℕ) (opened : OpenedCapture S) (track : Track S) (done : List Captured) (origin : Origin) : Type 0 where
    pub told : reading.Track
    pub port : told.port ≡ opened.port
    pub read : IsRead left faults limit opened.source (source_at track) told (end_of track)
    pub origin_is : origin_of told ≡ origin
    pub records : told.records ≡ done

  told-ended : (limit : ℕ) (opened : OpenedCapture S) (track : Track S) (source : S) (end : CaptureEnd) (done : List Captured) (origin : Origin) → source_at track ≡ source → end_of track ≡ end → IsReadToEnd left faults limit opened source end done origin → Told limit opened track done origin
  told-ended limit opened track source end done origin source-is end-is h =
      let told : reading.Track = record { port = opened.port; bytes = h.bytes; records = done } in
      record {
        told = told;
        port = refl;
        read = subst (λ s. IsRead left faults limit opened.source s told (end_of track)) (sym source-is) (subst (λ e. IsRead left faults limit opened.source source told e) (sym end-is) h.read);
        origin_is = sym h.origin_is;
        records = refl;
      }

  -- a track that holds no record has told all
  pub told-track : (limit : ℕ) (opened : OpenedCapture S) (track : Track S) (done : List Captured) (origin : Origin) → held_record_of track ≡ None → IsSettled left faults track → IsTrack left faults limit opened track done origin → Told limit opened track done origin
  told-track limit opened (Refused source end) done origin none settled is = told-ended limit opened (Refused source end) source end done origin refl refl is
  told-track limit opened (Open track) done origin none settled is = cases track.end refl
    where
      cases : (end : Option CaptureEnd) → track.end ≡ end → Told limit opened (Open track) done origin
      cases None running =
          let some = settled running in
          let empty = ap is_some none in
          cc
      cases (Some end) ended =
          let h = subst (λ e. MatchOption e (GoesOn left faults limit opened track done origin) (λ end. IsReadToEnd left faults limit opened (source_of track.capture) end done origin × (held_in track ≡ None))) ended is.1 in
          told-ended limit opened (Open track) (source_of track.capture) end done origin refl (ap (λ e. unwrap_or e (Read track.records)) ended) h.0
