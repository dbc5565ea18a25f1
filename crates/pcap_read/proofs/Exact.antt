-- What was read of a source that tells its bytes is what all of them are.
use Rattle.std.proofs.Common.{◌≡◌, ◌≢◌, ℕ, ◌+◌, List, [], ◌++◌, length, Option, None, Some, inl, inr, sym, ap, ◌∙◌, subst, append-nil}
use Rattle.std.specs.Io.KnownBytes.{Consumes, IsAtEnd}
use Rattle.pcap_read.specs.declared.capture.Capture.{Capture}
use Rattle.pcap_read.specs.declared.capture_fault.OpenFault.{OpenFault}
use Rattle.pcap_read.specs.declared.capture_fault.CaptureFault.{CaptureFault}
use Rattle.pcap_read.specs.declared.capture_fault.CaptureFault.TheVariants.{ReadFault}
use Rattle.pcap_read.specs.Reading.{Captured, Place, Open, Closed, HasFront, Stops}
use Rattle.pcap_read.specs.Capture.{source_of, StopsWith, IsOpened, IsRefused, Finishes}
use Rattle.pcap_read.specs.Counting.{stop_at, IsExactFault}
use Rattle.pcap_read.proofs.OneFront.{front_unique, front_stays}

-- a reader that stopped behind some bytes, and not with a failing read, stopped at the end of all of them
pub stops_as_whole : (limit : ℕ) (F : Type 0) (whole bytes : List ℕ) (left : Option (List ℕ)) (read records : List Captured) (at place : Place) (stop : Option CaptureFault) → Consumes (Some whole) left bytes
    → HasFront limit bytes read at → Stops (IsAtEnd left) F at stop → stop ≢ Some ReadFault → HasFront limit whole records place → (read ≡ records) × (stop ≡ stop_at place)
stops_as_whole limit F whole bytes None read records at place stop came front stops ok all = absurd came
stops_as_whole limit F whole bytes (Some left) read records (Closed fault) place stop came front stops ok all =
    let same = front_unique limit whole read records (Closed fault) place (subst (λ l. HasFront limit l read (Closed fault)) (sym came) (front_stays limit bytes left read fault front)) all in
    (same.0, stops ∙ ap stop_at same.1)
stops_as_whole limit F whole bytes (Some left) read records (Open at) place stop came front (inl end) ok all =
    let none : whole ≡ bytes = came ∙ ap (λ l. bytes ++ l) end.0 ∙ append-nil bytes in
    let same = front_unique limit whole read records (Open at) place (subst (λ l. HasFront limit l read (Open at)) (sym none) front) all in
    (same.0, end.1 ∙ ap stop_at same.1)
stops_as_whole limit F whole bytes (Some left) read records (Open at) place stop came front (inr fails) ok all = absurd (ok fails.1)

module _ {S : Type 0} (left : S → Option (List ℕ)) (faults : S → ℕ) where
  -- so many records of a source, and how a reader stops behind them
  abbrev pub Counts : ℕ → S → S → ℕ → Option CaptureFault → Type 0
  Counts limit source final count stop = (bytes : List ℕ) × (records : List Captured) × (length records ≡ count) × StopsWith left faults limit source final bytes records (count + 1) stop

  -- from the opening to the place where the records end
  pub whole_run : (limit : ℕ) (source : S) (c new : Capture S) (final : S) (count : ℕ) (stop : Option CaptureFault) → IsOpened left faults limit source c → Finishes left faults c new count stop → final ≡ source_of new
      → Counts limit source final count stop
  whole_run limit source c new final count stop opened run is =
      let p = opened.reading in
      let q = run source p.0 [] p.1 in
      let stops = subst (λ n. StopsWith left faults n source (source_of new) (p.0 ++ q.0) q.1 (length q.1 + 1) stop) opened.limit q.3 in
      let all : Counts limit source (source_of new) count stop = (
        p.0 ++ q.0,
        q.1,
        q.2,
        subst (λ n. StopsWith left faults limit source (source_of new) (p.0 ++ q.0) q.1 (n + 1) stop) q.2 stops,
      ) in
      subst (λ s. Counts limit source s count stop) (sym is) all

  -- unless a read failed, the count and the stop are those of all bytes of the source
  pub exact_run : (limit : ℕ) (source final : S) (count : ℕ) (stop : Option CaptureFault) (whole : List ℕ) → Counts limit source final count stop → left source ≡ Some whole → stop ≢ Some ReadFault
      → (records : List Captured) (place : Place) → HasFront limit whole records place → (count ≡ length records) × (stop ≡ stop_at place)
  exact_run limit source final count stop whole k told ok records place front =
      let s = k.3.behind in
      let came = subst (λ l. Consumes l (left final) k.0) told k.3.taken in
      let same = stops_as_whole limit _ whole k.0 (left final) k.1 records s.0 place stop came s.1 s.2 ok front in
      (sym k.2 ∙ ap length same.0, same.1)

  -- unless a read failed or memory ran out, a refused header has the fault of all bytes of the source
  pub exact_refusal : (limit : ℕ) (source : S) (refused : OpenFault S) (whole : List ℕ) → IsRefused left faults limit source refused → left source ≡ Some whole → IsExactFault limit whole refused
  exact_refusal limit source refused whole is told ok memory records place front = elim is.cause [
    | inl m ↦ absurd (memory m.0)
    | inr k ↦
        let s = k.1.behind in
        let came = subst (λ l. Consumes l (left refused.source) k.0) told k.1.taken in
        let other : Some refused.fault ≢ Some ReadFault = λ e. ok (cc) in
        let same = stops_as_whole limit _ whole k.0 (left refused.source) [] records s.0 place (Some refused.fault) came s.1 s.2 other front in
        (sym same.0, same.1)
  ]
