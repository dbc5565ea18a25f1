-- How a track begins.
use Rattle.std.proofs.Common.{◌≡◌, ◌≢◌, ℕ, ◌≤◌, Option, Some, None, List, [], refl, sym, ap, subst, arith, inl, inr}
use Rattle.std.specs.Option.{option_to_list}
use Rattle.report_texts.specs.declared.capture_end.CaptureEnd.TheVariants.{Stopped}
use Rattle.pcap_read.specs.Capture.{IsOpened, IsReading, link_of}
use Rattle.pcap_read.specs.declared.capture.Capture.{Capture}
use Rattle.pcap_read.specs.declared.capture_fault.CaptureFault.TheVariants.{OutOfMemory}
use Rattle.pcap_read.specs.declared.capture_fault.OpenFault.{OpenFault}
use Rattle.capture_tracks.specs.Reading.{Origin, origin_of}
use Rattle.capture_tracks.specs.Tracks.{IsOpenTrack, StepsOn, Begins, BeginsRefused, held_in}
use Rattle.capture_tracks.specs.declared.open_track.OpenTrack.{OpenTrack}
use Rattle.capture_tracks.specs.declared.opened.OpenedCapture.{OpenedCapture}
use Rattle.capture_tracks.specs.declared.track.Track.TheVariants.{Open, Refused}

module _ {S : Type 0} (left : S → Option (List ℕ)) (faults : S → ℕ) where
  -- the track of a capture that was opened, once it went on to its first record
  pub begins-open : (limit : ℕ) (opened : OpenedCapture S) (capture : Capture S) (new : OpenTrack S) → limit ≤ 4194304 → IsOpened left faults limit opened.source capture
      → StepsOn left faults (record { port = opened.port; capture = capture; records = 0; end = None }) new → Begins left faults limit opened (Open new)
  begins-open limit opened capture new most h steps =
      let (bytes, reading) = h.reading in
      let old : OpenTrack S = record { port = opened.port; capture = capture; records = 0; end = None } in
      let origin : Origin = record { link = link_of capture; port = opened.port } in
      let none : option_to_list (held_in old) ≡ [] = ap option_to_list h.current in
      let at_first : IsOpenTrack left faults limit opened old [] origin = (
        refl,
        record {
          bytes = bytes;
          reading = subst (λ records. IsReading left faults opened.source capture bytes records) (sym none) reading;
          limited = h.limit;
          few = (omega (arith, reading.count), most);
          counted = sym reading.count;
          origin_is = refl;
        },
      ) in
      record {
        origin = origin;
        begun = subst (λ done. IsOpenTrack left faults limit opened new done origin) none (steps.goes limit opened [] origin at_first);
        settled = steps.settled;
        room = omega (arith, steps.fewer, h.limit);
      }

  -- the track of a source that is no capture
  pub begins-refused : (refused : OpenFault S) (count : ℕ) → refused.fault ≢ OutOfMemory → count ≡ faults refused.source → BeginsRefused left faults refused (Refused refused.source (Stopped 0 refused.fault count))
  begins-refused refused count other count-is = λ limit opened h. elim h.cause [
    | inl none ↦ absurd (other none.0)
    | inr (bytes, stopped) ↦ record {
      origin = origin_of (record { port = opened.port; bytes = bytes; records = [] });
      begun = record { bytes = bytes; read = record { number = 0; stop = Some refused.fault; stopped = stopped; told = (refl, refl, count-is) }; origin_is = refl };
      settled = tt;
      room = omega arith;
    }
  ]
