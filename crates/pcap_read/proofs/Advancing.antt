-- What going on to the next record does to a capture.
use Rattle.std.proofs.Common.{◌≡◌, ℕ, ◌+◌, ◌≤◌, List, [], ◌∷◌, ◌++◌, length, take, drop, Option, None, Some, Ok, Err, ◌==◌, cond, IfSome, MatchOption, MatchResult, refl, sym, ap, ◌∙◌, subst, arith, length-append}
use Rattle.std.specs.Option.{option_map}
use Rattle.std.specs.Io.KnownBytes.{IsAtEnd}
use Rattle.std.proofs.KnownBytes.{Consumes-trans}
use lib.Seq.{drop-append-le}
use Rattle.fw_base.specs.Faults.{Rose}
use Rattle.pcap_read.specs.declared.capture.Capture.{Capture}
use Rattle.pcap_read.specs.declared.capture_fault.CaptureFault.{CaptureFault}
use Rattle.pcap_read.specs.declared.format.Format.{Format}
use Rattle.pcap_read.specs.declared.capture_fault.Stop.{Stop}
use Rattle.pcap_read.specs.Window.{Grows}
use Rattle.pcap_read.specs.Causes.{HasOwnCause, TellsFailedRead}
use Rattle.pcap_read.specs.Finding.{IsNextRecord}
use Rattle.pcap_read.specs.Reading.{Captured, header_of, next_of, record_of, Took, HasRecords, StopsBefore, StopsBehind}
use Rattle.pcap_read.specs.Capture.{record_in, source_of, limit_of, held_of, current_of, stop_of, stopped_with, answer_at, stop_by, IsReading, StopsWith, Advances}
use Rattle.pcap_read.proofs.Fronts.{gives_grown, gives_more, header_grown, front_behind, number_behind}

-- the records so far, as more bytes come
given_grown : (limit : ℕ) (format : Format) (bytes got : List ℕ) (records : List Captured) (held : List ℕ) → 24 ≤ length bytes → HasRecords limit format 0 (drop 24 bytes) records held → HasRecords limit format 0 (drop 24 (bytes ++ got)) records (held ++ got)
given_grown limit format bytes got records held h p =
    subst (λ l. HasRecords limit format 0 l records (held ++ got)) (sym (drop-append-le 24 bytes got h)) (gives_grown limit format 0 (drop 24 bytes) got records held p)

-- one more record
given_more : (limit : ℕ) (format : Format) (bytes got : List ℕ) (records : List Captured) (held after : List ℕ) (given : ℕ) (r : Captured) (more : List ℕ) → 24 ≤ length bytes → HasRecords limit format 0 (drop 24 bytes) records held
    → given ≡ length records → after ≡ held ++ got → next_of limit format given after ≡ Took r more → HasRecords limit format 0 (drop 24 (bytes ++ got)) (records ++ r ∷ []) more
given_more limit format bytes got records held after given r more h p count e t =
    let zero : 0 + length records ≡ given = omega (arith, count) in
    gives_more limit format 0 (drop 24 (bytes ++ got)) records (held ++ got) r more (given_grown limit format bytes got records held h p)
    (ap (λ n. next_of limit format n (held ++ got)) zero ∙ ap (next_of limit format given) (sym e) ∙ t)

-- no more records
stops_behind : {A F : Type 0} (limit : ℕ) (format : Format) (bytes got : List ℕ) (records : List Captured) (held after : List ℕ) (given : ℕ) (stop : Option CaptureFault) → 24 ≤ length bytes → header_of (take 24 bytes) ≡ Ok format
    → HasRecords limit format 0 (drop 24 bytes) records held → given ≡ length records → after ≡ held ++ got → StopsBefore A F limit format given after stop → StopsBehind A F limit (bytes ++ got) records (length records + 1) stop
stops_behind limit format bytes got records held after given stop h header p count e s =
    let longer : 24 ≤ length (bytes ++ got) = omega (arith, length-append bytes got, h) in (
      s.0,
      front_behind limit (bytes ++ got) records s.0 format longer (header_grown bytes got h ∙ header)
          (held ++ got, given_grown limit format bytes got records held h p, ap (λ n. next_of limit format n (held ++ got)) (sym count) ∙ ap (next_of limit format given) (sym e) ∙ s.1),
      s.2,
      number_behind (bytes ++ got) records format longer (header_grown bytes got h ∙ header),
    )

-- a size that isn't 0
sized : {X : Type 0} (size : ℕ) (x y : X) → 16 ≤ size → cond (size == 0) x y ≡ y
sized size x y h = grind arith

-- nothing is said of a capture that goes on
if_running : (s : Option Stop) (P : Option CaptureFault → Type 0) → s ≡ None → IfSome (option_map stopped_with s) P
if_running s P e = subst (λ x. IfSome (option_map stopped_with x) P) (sym e) tt

-- the answer to a stop says how it was
stop_by-answer_at : (stop : Option CaptureFault) → Some stop ≡ stop_by (answer_at stop)
stop_by-answer_at None = refl
stop_by-answer_at (Some fault) = refl

record_in-answer_at : (stop : Option CaptureFault) → None ≡ record_in (answer_at stop)
record_in-answer_at None = refl
record_in-answer_at (Some fault) = refl

-- nothing is said of a record
if_no_record : (stop : Option CaptureFault) (P : Type 0) (Q : Captured → Type 0) → P → MatchOption (record_in (answer_at stop)) P Q
if_no_record None P Q p = p
if_no_record (Some fault) P Q p = p

-- what is said of no more records
if_stopped : (stop : Option CaptureFault) (P : Option CaptureFault → Type 0) (Q : Captured → Type 0) → P stop → MatchResult (answer_at stop) (λ found. MatchOption found (P None) Q) (λ fault. P (Some fault))
if_stopped None P Q p = p
if_stopped (Some fault) P Q p = p

-- what a call that failed tells of a failing read, its fault tells
pub told_by_fault : {T : Type 0} (before now : ℕ) (fault : CaptureFault) → HasOwnCause {T = T} before now (Err fault) → TellsFailedRead before now (Some fault)
told_by_fault before now fault cause = record { failed_read = λ e. cause.failed_read (cc); steady = λ other. cause.steady (λ e. other (cc)) }

-- what an answer tells of a failing read, its stop tells
told_by : (before now : ℕ) (stop : Option CaptureFault) → HasOwnCause before now (answer_at stop) → TellsFailedRead before now stop
told_by before now None cause = record { failed_read = λ e. absurd (cc); steady = λ _. cause.steady (λ e. absurd (cc)) }
told_by before now (Some fault) cause = told_by_fault before now fault cause

module _ {S : Type 0} (left : S → Option (List ℕ)) (faults : S → ℕ) where
  -- a capture that found its next record goes on to it
  pub advances_to_record : (old new : Capture S) → old.stop ≡ None → new.stop ≡ old.stop → new.format ≡ old.format → new.limit ≡ old.limit → new.given ≡ old.given + 1
      → Grows (left old.source) (left new.source) (held_of old) new.window → IsNextRecord old.limit old.format old.given new.window new.size → faults new.source ≡ faults old.source
      → Advances left faults old new (Ok (current_of new))
  advances_to_record old new running stop format limit given grows next steady =
      let r = record_of old.format (take new.size new.window) in
      let is : current_of new ≡ Some r = sized new.size None (Some (record_of new.format (take new.size new.window))) next.header ∙ ap (λ f. Some (record_of f (take new.size new.window))) format in
      let goes : stop_of new ≡ None = ap (option_map stopped_with) (stop ∙ running) in
      let whole : Advances left faults old new (Ok (Some r)) = record {
        continues = λ source bytes records reading. (
          grows.0,
          record {
            running = goes;
            taken = Consumes-trans _ _ _ bytes grows.0 reading.taken grows.2;
            steady = steady ∙ reading.steady;
            whole = omega (arith, length-append bytes grows.0, reading.whole);
            header = header_grown bytes grows.0 reading.whole ∙ reading.header ∙ ap Ok (sym format);
            gives = subst (λ n. HasRecords n new.format 0 (drop 24 (bytes ++ grows.0)) (records ++ r ∷ []) (held_of new)) (sym limit)
                (subst (λ f. HasRecords old.limit f 0 (drop 24 (bytes ++ grows.0)) (records ++ r ∷ []) (held_of new)) (sym format)
                (given_more old.limit old.format bytes grows.0 records (held_of old) new.window old.given r (drop new.size new.window) reading.whole reading.gives reading.count grows.1 next.took));
            count = given ∙ ap (λ n. n + 1) reading.count ∙ sym (length-append records (r ∷ []));
          },
        );
        again = if_running old.stop _ running;
        cause = λ _. record { failed_read = λ e. absurd (cc); steady = λ _. steady; has_memory = λ e. absurd (cc) };
        stop = goes;
        current = is;
        link = ap (λ f. f.link) format;
        limit = limit;
        counts = (given, omega (arith, given, next.few));
        later = omega (arith, steady);
      } in
      subst (λ found. Advances left faults old new (Ok found)) (sym is) whole

  -- a capture that found no record stops, at its end or with the fault
  pub advances_to_stop : (old new : Capture S) (how : Stop) → old.stop ≡ None → new.stop ≡ Some how → new.size ≡ 0 → new.format ≡ old.format → new.limit ≡ old.limit → new.given ≡ old.given
      → Grows (left old.source) (left new.source) (held_of old) new.window
      → StopsBefore (IsAtEnd (left new.source)) (Rose (faults old.source) (faults new.source)) old.limit old.format old.given new.window (stopped_with how)
      → HasOwnCause (faults old.source) (faults new.source) (answer_at (stopped_with how)) → faults old.source ≤ faults new.source → Advances left faults old new (answer_at (stopped_with how))
  advances_to_stop old new how running stop size format limit given grows stops cause later = record {
    continues = λ source bytes records reading. (
      grows.0,
      if_stopped (stopped_with how) (StopsWith left faults (limit_of old) source (source_of new) (bytes ++ grows.0) records (length records + 1)) (λ r. IsReading left faults source new (bytes ++ grows.0) (records ++ r ∷ [])) (record {
        taken = Consumes-trans _ _ _ bytes grows.0 reading.taken grows.2;
        behind = subst (λ n. StopsBehind (IsAtEnd (left new.source)) (Rose n (faults new.source)) old.limit (bytes ++ grows.0) records (length records + 1) (stopped_with how)) reading.steady
            (stops_behind old.limit old.format bytes grows.0 records (held_of old) new.window old.given (stopped_with how) reading.whole reading.header reading.gives reading.count grows.1 stops);
        cause = subst (λ n. TellsFailedRead n (faults new.source) (stopped_with how)) reading.steady (told_by (faults old.source) (faults new.source) (stopped_with how) cause);
      }),
    );
    again = if_running old.stop _ running;
    cause = λ _. cause;
    stop = ap (option_map stopped_with) stop ∙ stop_by-answer_at (stopped_with how);
    current = ap (λ n. cond (n == 0) None (Some (record_of new.format (take n new.window)))) size ∙ record_in-answer_at (stopped_with how);
    link = ap (λ f. f.link) format;
    limit = limit;
    counts = if_no_record (stopped_with how) _ _ given;
    later = later;
  }
