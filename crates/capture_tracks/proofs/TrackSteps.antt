-- A track that goes on: what it holds was replayed, and it holds the next record or has ended.
use Rattle.std.proofs.Common.{◌≡◌, ℕ, suc, ◌+◌, ◌-◌, ◌^◌, ◌<◌, true, false, Option, Some, None, Ok, Err, List, [], ◌∷◌, ◌++◌, take, refl, sym, ap, subst, ◌∙◌, arith}
use Rattle.std.specs.Prelude.{MatchOption, min, is_some, length}
use Rattle.std.specs.Option.{option_to_list}
use Rattle.std.proofs.lemmas.List.{take-append-le}
use Rattle.fw_base.specs.declared.link.Link.{Link}
use Rattle.fw_base.specs.declared.port.Port.{Port}
use Rattle.report_texts.specs.declared.capture_end.CaptureEnd.{CaptureEnd}
use Rattle.report_texts.specs.declared.capture_end.CaptureEnd.TheVariants.{Read, Stopped}
use Rattle.pcap_read.specs.Capture.{Advances, IsReading, StopsWith, current_of, format_of, given_of, limit_of, link_of, source_of}
use Rattle.pcap_read.specs.Reading.{Captured, header_of}
use Rattle.pcap_read.specs.declared.capture.Capture.{Capture}
use Rattle.pcap_read.specs.declared.capture_fault.CaptureFault.{CaptureFault}
use Rattle.capture_tracks.specs.Reading.{Origin, origin_of, link_in, IsEnd}
use Rattle.capture_tracks.specs.Tracks.{GoesOn, IsReadToEnd, IsOpenTrack, IsSettled, StepsOn, StepsOnOrEnded, GoesFurther, held_in, steps_left, while_open}
use Rattle.capture_tracks.specs.declared.open_track.OpenTrack.{OpenTrack}
use Rattle.capture_tracks.specs.declared.track.Track.TheVariants.{Open, Refused}
use Rattle.capture_tracks.specs.declared.opened.OpenedCapture.{OpenedCapture}

at_none : {T : Type 0} (o : Option T) (P : Type 0) (Q : T → Type 0) → o ≡ None → MatchOption o P Q → P
at_none o P Q is h = subst (λ o. MatchOption o P Q) is h

none_at : {T : Type 0} (o : Option T) (P : Type 0) (Q : T → Type 0) → o ≡ None → P → MatchOption o P Q
none_at o P Q is h = subst (λ o. MatchOption o P Q) (sym is) h

some_at : {T : Type 0} (o : Option T) (P : Type 0) (Q : T → Type 0) (x : T) → o ≡ Some x → Q x → MatchOption o P Q
some_at o P Q x is h = subst (λ o. MatchOption o P Q) (sym is) h

module _ {S : Type 0} (left : S → Option (List ℕ)) (faults : S → ℕ) where
  -- the link type is that of the header, however many bytes came behind it
  origin-same : (port : Port) (source : S) (capture : Capture S) (bytes got : List ℕ) (held records : List Captured) → IsReading left faults source capture bytes held
      → record { link = link_of capture; port = port } ≡ origin_of (record { port = port; bytes = bytes ++ got; records = records })
  origin-same port source capture bytes got held records h =
      let header : header_of (take 24 (bytes ++ got)) ≡ Ok (format_of capture) = ap header_of (take-append-le 24 bytes got h.whole) ∙ h.header in
      let link : link_in (header_of (take 24 (bytes ++ got))) ≡ link_of capture = ap link_in header in
      ap (λ (l : Link). record { link = l; port = port }) (sym link)

  -- the next record is held
  steps-record : (old new : OpenTrack S) (r : Captured) → old.end ≡ None → new.end ≡ None → new.port ≡ old.port → new.records ≡ min (old.records + 1) (2 ^ 64 - 1) → Advances left faults old.capture new.capture (Ok (Some r)) → StepsOn left faults old new
  steps-record old new r running on port counted h = record {
    goes = λ limit opened done origin is.
        let before = at_none old.end _ _ running is.1 in
        let (got, reading) = h.continues opened.source before.bytes (done ++ option_to_list (held_in old)) before.reading in (
          port ∙ is.0,
          none_at new.end _ _ on (record {
            bytes = before.bytes ++ got;
            reading = subst (λ found. IsReading left faults opened.source new.capture (before.bytes ++ got) ((done ++ option_to_list (held_in old)) ++ option_to_list found)) (sym h.current) reading;
            limited = h.limit ∙ before.limited;
            few = (omega (arith, h.counts.1, before.limited), before.few.1);
            counted = counted ∙ omega (arith, h.counts.0, h.counts.1, before.counted, before.limited, before.few.1);
            origin_is = before.origin_is ∙ ap (λ (l : Link). record { link = l; port = opened.port }) (sym h.link);
          }),
        );
    settled = λ _. ap is_some h.current;
    port = port;
    fewer =
        let old_is : steps_left old ≡ suc (limit_of old.capture - given_of old.capture) = ap (λ end. while_open end (suc (limit_of old.capture - given_of old.capture))) running in
        let new_is : steps_left new ≡ suc (limit_of new.capture - given_of new.capture) = ap (λ end. while_open end (suc (limit_of new.capture - given_of new.capture))) on in
        omega (arith, old_is, new_is, h.counts.0, h.counts.1, h.limit);
  }

  -- a track that goes on no more
  ends-so : (limit : ℕ) (opened : OpenedCapture S) (old new : OpenTrack S) (done : List Captured) (origin : Origin) (end : CaptureEnd) (got : List ℕ) (number : ℕ) (stop : Option CaptureFault)
      → new.port ≡ opened.port → new.end ≡ Some end → current_of new.capture ≡ None
      → (h : GoesOn left faults limit opened old done origin) → StopsWith left faults limit opened.source (source_of new.capture) (h.bytes ++ got) (done ++ option_to_list (held_in old)) number stop
      → IsEnd end (done ++ option_to_list (held_in old)) number stop (faults (source_of new.capture)) → IsOpenTrack left faults limit opened new (done ++ option_to_list (held_in old)) origin
  ends-so limit opened old new done origin end got number stop port ended current before stopped told = (
    port,
    some_at new.end _ _ end ended (
      record {
        bytes = before.bytes ++ got;
        read = record { number = number; stop = stop; stopped = stopped; told = told };
        origin_is = before.origin_is ∙ origin-same opened.port opened.source old.capture before.bytes got (done ++ option_to_list (held_in old)) (done ++ option_to_list (held_in old)) before.reading;
      },
      current,
    ),
  )

  fewer-ended : (old new : OpenTrack S) (end : CaptureEnd) → old.end ≡ None → new.end ≡ Some end → steps_left new < steps_left old
  fewer-ended old new end running ended =
      let old_is : steps_left old ≡ suc (limit_of old.capture - given_of old.capture) = ap (λ e. while_open e (suc (limit_of old.capture - given_of old.capture))) running in
      let new_is : steps_left new ≡ 0 = ap (λ e. while_open e (suc (limit_of new.capture - given_of new.capture))) ended in
      omega (arith, old_is, new_is)

  -- the end of the capture was come to
  steps-end : (old new : OpenTrack S) → old.end ≡ None → new.end ≡ Some (Read old.records) → new.port ≡ old.port → Advances left faults old.capture new.capture (Ok None) → StepsOn left faults old new
  steps-end old new running ended port h = record {
    goes = λ limit opened done origin is.
        let before = at_none old.end _ _ running is.1 in
        let records = done ++ option_to_list (held_in old) in
        let (got, stopped) = h.continues opened.source before.bytes records before.reading in
        let within = subst (λ most. StopsWith left faults most opened.source (source_of new.capture) (before.bytes ++ got) records (length records + 1) None) before.limited stopped in
        ends-so limit opened old new done origin (Read old.records) got (length records + 1) None (port ∙ is.0) ended h.current before within (refl, before.counted ∙ before.reading.count);
    settled = λ e. cc;
    port = port;
    fewer = fewer-ended old new (Read old.records) running ended;
  }

  -- a fault stands where the next record would be
  pub steps-fault : (old new : OpenTrack S) (at count : ℕ) (fault : CaptureFault) → old.end ≡ None → new.end ≡ Some (Stopped at fault count) → new.port ≡ old.port → at ≡ min (old.records + 1) (2 ^ 64 - 1) → count ≡ faults (source_of new.capture)
      → Advances left faults old.capture new.capture (Err fault) → StepsOn left faults old new
  steps-fault old new at count fault running ended port at-is count-is h = record {
    goes = λ limit opened done origin is.
        let before = at_none old.end _ _ running is.1 in
        let records = done ++ option_to_list (held_in old) in
        let (got, stopped) = h.continues opened.source before.bytes records before.reading in
        let within = subst (λ most. StopsWith left faults most opened.source (source_of new.capture) (before.bytes ++ got) records (length records + 1) (Some fault)) before.limited stopped in
        ends-so limit opened old new done origin (Stopped at fault count) got (length records + 1) (Some fault) (port ∙ is.0) ended h.current before within
        (refl, at-is ∙ omega (arith, before.counted, before.reading.count, before.few.0, before.few.1), count-is);
    settled = λ e. cc;
    port = port;
    fewer = fewer-ended old new (Stopped at fault count) running ended;
  }

  -- a track whose capture gave one more record goes on, and holds that one
  pub steps-found : (old new : OpenTrack S) (found : Option Captured) → is_some found ≡ true → old.end ≡ None → new.end ≡ None → new.port ≡ old.port → new.records ≡ min (old.records + 1) (2 ^ 64 - 1) → Advances left faults old.capture new.capture (Ok found) → StepsOn left faults old new
  steps-found old new None some running on port counted h = cc
  steps-found old new (Some r) some running on port counted h = steps-record old new r running on port counted h

  -- a track whose capture has no record left ends with the records that it gave
  pub steps-not_found : (old new : OpenTrack S) (found : Option Captured) → is_some found ≡ false → old.end ≡ None → new.end ≡ Some (Read old.records) → new.port ≡ old.port → Advances left faults old.capture new.capture (Ok found) → StepsOn left faults old new
  steps-not_found old new None none running ended port h = steps-end old new running ended port h
  steps-not_found old new (Some r) none running ended port h = cc

  -- a track that holds a record goes on, and that record was replayed
  pub further-open : (old new : OpenTrack S) → StepsOnOrEnded left faults old new → GoesFurther left faults (Open old) (Open new)
  further-open old new steps = record {
    goes = λ limit opened done origin r held is. cases limit opened done origin r held is old.end refl;
    stays = λ none. ap (λ (track : OpenTrack S). Open track) (ended none old.end refl);
  }
    where
      ended : steps_left old ≡ 0 → (end : Option CaptureEnd) → old.end ≡ end → new ≡ old
      ended none None running =
          let never : suc (limit_of old.capture - given_of old.capture) ≡ 0 = subst (λ (e : Option CaptureEnd). while_open e (suc (limit_of old.capture - given_of old.capture)) ≡ 0) running none in
          absurd (omega (arith, never))
      ended none (Some end) over = subst (λ (e : Option CaptureEnd). MatchOption e (StepsOn left faults old new) (λ end. new ≡ old)) over steps

      cases : (limit : ℕ) (opened : OpenedCapture S) (done : List Captured) (origin : Origin) (r : Captured) → held_in old ≡ Some r → IsOpenTrack left faults limit opened old done origin → (end : Option CaptureEnd) → old.end ≡ end
          → IsOpenTrack left faults limit opened new (done ++ r ∷ []) origin × IsSettled left faults (Open new) × (steps_left new < steps_left old)
      cases limit opened done origin r held is None running =
          let on : StepsOn left faults old new = at_none old.end _ _ running steps in
          (subst (λ records. IsOpenTrack left faults limit opened new (done ++ records) origin) (ap option_to_list held) (on.goes limit opened done origin is), on.settled, on.fewer)
      cases limit opened done origin r held is (Some end) ended =
          let none = subst (λ e. MatchOption e (GoesOn left faults limit opened old done origin) (λ end. IsReadToEnd left faults limit opened (source_of old.capture) end done origin × (held_in old ≡ None))) ended is.1 in
          let never : Some r ≡ None = sym held ∙ none.1 in
          absurd (cc)

  pub further-refused : (source : S) (end : CaptureEnd) → GoesFurther left faults (Refused source end) (Refused source end)
  further-refused source end = record { goes = λ limit opened done origin r held is. absurd (cc); stays = λ none. refl }
