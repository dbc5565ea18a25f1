-- What is read of a capture is what its bytes say, whatever it was read from.
use Rattle.std.specs.Bool.{⊤}
use Rattle.std.proofs.Common.{◌≡◌, ℕ, suc, ◌+◌, ◌≤◌, false, ◌||◌, Option, None, Some, List, [], ◌∷◌, ◌++◌, length, map, take, drop, replicate, Ok, nat_lt, MatchOption, refl, sym, ap, ◌∙◌, subst, arith}
use Rattle.std.specs.Io.KnownBytes.{Consumes}
use Rattle.std.specs.List.{list_any}
use Rattle.std.specs.Option.{option_to_list}
use Rattle.std.proofs.lemmas.Bool.{or_parts}
use Rattle.std.proofs.lemmas.List.{append-nil, length-append, map-append}
use Rattle.std.proofs.lemmas.Result.{MatchResult-at_ok}
use lib.Seq.{drop-append-le}
use Rattle.audit_laws.specs.Completeness.{AreSoFar}
use Rattle.capture_tracks.specs.Reading as reading
use Rattle.capture_tracks.specs.Reading.{AllRead, IsRead, Origin, input_of, link_in, origin_of, track_inputs}
use Rattle.capture_tracks.specs.Tracks.{GoesOn, IsReadToEnd, IsTrack, held_in, held_record_of}
use Rattle.capture_tracks.specs.declared.open_track.OpenTrack.{OpenTrack}
use Rattle.capture_tracks.specs.declared.opened.OpenedCapture.{OpenedCapture}
use Rattle.capture_tracks.specs.declared.track.Track.{Track}
use Rattle.capture_tracks.specs.declared.track.Track.TheVariants.{Open, Refused}
use Rattle.fw_base.specs.declared.port.Port.{Port}
use Rattle.fw_base.proofs.Logic.{was_false}
use Rattle.report_texts.specs.CaptureEnds.{is_unread}
use Rattle.report_texts.specs.declared.capture_end.CaptureEnd.{CaptureEnd}
use Rattle.fw_world.specs.Inputs.{Input}
use Rattle.pcap_read.specs.Capture.{held_of}
use Rattle.pcap_read.specs.Reading.{Captured, Closed, EndsAt, HasFront, HasRecords, Next, Place, Stands, Took, header_of, next_of}
use Rattle.pcap_read.specs.declared.capture_fault.CaptureFault.{CaptureFault}
use Rattle.pcap_read.specs.declared.format.Format.{Format}
use Rattle.pcap_read.proofs.Fronts.{header_grown, took_grown}
use Rattle.record_laws.specs.SameCaptures.{printed_end}
use Rattle.record_laws.proofs.ReadCaptures.{AreTold, are_told, same_records, with_contents}
use Rattle.record_laws.proofs.SameEnds.{same_ends}
use Rattle.replay_setup.specs.InMemory.{known_left, no_failures}
use Rattle.capture_audits.specs.CaptureAudit.{inputs_at}
use Rattle.capture_audits.specs.Examined.{HasGiven}

-- ---- captures whose bytes are told

-- the captures were taken at the same ports, and the sources tell the same bytes
abbrev pub AreSameFiles : {S : Type 0} → (S → Option (List ℕ)) → List (OpenedCapture S) → List (OpenedCapture (List ℕ)) → Type 0
AreSameFiles left [] [] = ⊤
AreSameFiles left [] (capture ∷ captures) = ⊥
AreSameFiles left (opened ∷ others) [] = ⊥
AreSameFiles left (opened ∷ others) (capture ∷ captures) = (opened.port ≡ capture.port) × (left opened.source ≡ Some capture.source) × AreSameFiles left others captures

-- so they are as many
pub same_count : {S : Type 0} (left : S → Option (List ℕ)) (opened : List (OpenedCapture S)) (captures : List (OpenedCapture (List ℕ))) → AreSameFiles left opened captures → length opened ≡ length captures
same_count left [] [] same = refl
same_count left [] (c ∷ captures) same = absurd same
same_count left (o ∷ opened) [] same = absurd same
same_count left (o ∷ opened) (c ∷ captures) same = ap (λ (n : ℕ). suc n) (same_count left opened captures same.2)

-- the one of a list of one
pub first_of : {X : Type 0} (x y : X) → x ∷ [] ≡ y ∷ [] → x ≡ y
first_of x y is = cc

-- a capture alone, told
pub told_alone : {S : Type 0} (left : S → Option (List ℕ)) (faults : S → ℕ) (limit : ℕ) (opened : OpenedCapture S) (after : S) (track : reading.Track) (end : CaptureEnd) (bytes : List ℕ)
    → track.port ≡ opened.port → IsRead left faults limit opened.source after track end → is_unread end ≡ false → left opened.source ≡ Some bytes
    → AreTold limit (opened ∷ []) (track ∷ []) (with_contents (track ∷ []) (bytes ∷ [])) (end ∷ []) (bytes ∷ [])
told_alone left faults limit opened after track end bytes port read whole told =
    are_told left faults limit (opened ∷ []) (after ∷ []) (track ∷ []) (end ∷ []) (bytes ∷ []) (port, read, tt) (ap (λ (o : Option (List ℕ)). o ∷ []) told) (ap (λ b. b || false) whole)

-- what was read of a source is what is read of its told bytes
record IsSameReading (track other : reading.Track) (end otherEnd : CaptureEnd) : Type 0 where
  inputs : track_inputs track ≡ track_inputs other
  ends : printed_end end ≡ printed_end otherEnd

-- so it is with all captures
pub record AreSameReadings (tracks others : List reading.Track) (ends otherEnds : List CaptureEnd) : Type 0 where
  pub inputs : map track_inputs tracks ≡ map track_inputs others
  pub ends_printed : map printed_end ends ≡ map printed_end otherEnds

module _ {S : Type 0} (left : S → Option (List ℕ)) (faults : S → ℕ) where
  same_reading : (limit : ℕ) (opened : OpenedCapture S) (capture : OpenedCapture (List ℕ)) (after : S) (rest : List ℕ) (track other : reading.Track) (end otherEnd : CaptureEnd)
      → opened.port ≡ capture.port → left opened.source ≡ Some capture.source
      → track.port ≡ opened.port → IsRead left faults limit opened.source after track end → is_unread end ≡ false
      → other.port ≡ capture.port → IsRead known_left no_failures limit capture.source rest other otherEnd → is_unread otherEnd ≡ false
      → IsSameReading track other end otherEnd
  same_reading limit opened capture after rest track other end otherEnd port told own read whole made_own made fine =
      let first = told_alone left faults limit opened after track end capture.source own read whole told in
      let second = told_alone known_left no_failures limit capture rest other otherEnd capture.source made_own made fine refl in
      let ports = first.ports ∙ ap (λ (p : Port). p ∷ []) port ∙ sym second.ports in
      let between = same_records limit (with_contents (track ∷ []) (capture.source ∷ [])) (with_contents (other ∷ []) (capture.source ∷ [])) (end ∷ []) (otherEnd ∷ []) first.ended second.ended (record { ports = ports; bytes = refl }) in
      let origin : origin_of track ≡ origin_of other = first_of _ _ (first.same.origins ∙ between.origins ∙ sym second.same.origins) in
      let records : track.records ≡ other.records = first_of _ _ (first.same.records ∙ between.records ∙ sym second.same.records) in
      let ends = same_ends limit (with_contents (track ∷ []) (capture.source ∷ [])) (with_contents (other ∷ []) (capture.source ∷ [])) (end ∷ []) (otherEnd ∷ []) first.ended second.ended (record { ports = ports; bytes = refl })
      (ap (λ b. b ∷ []) (whole ∙ sym fine)) in
      record {
        inputs = λ i. map (input_of (origin i).link (origin i).port) (records i);
        ends = first_of _ _ ends;
      }

  none_read : (limit : ℕ) (sources : List S) (tracks : List reading.Track) (ends : List CaptureEnd) → AllRead left faults limit [] sources tracks ends → (tracks ≡ []) × (ends ≡ [])
  none_read limit [] [] [] read = (refl, refl)
  none_read limit sources tracks ends read = absurd read

none_made : (limit : ℕ) (rests : List (List ℕ)) (tracks : List reading.Track) (ends : List CaptureEnd) → AllRead known_left no_failures limit [] rests tracks ends → (tracks ≡ []) × (ends ≡ [])
none_made limit [] [] [] read = (refl, refl)
none_made limit rests tracks ends read = absurd read

module _ {S : Type 0} (left : S → Option (List ℕ)) (faults : S → ℕ) where
  -- what was read of all captures is what their told bytes say
  pub same_readings : (limit : ℕ) (opened : List (OpenedCapture S)) (captures : List (OpenedCapture (List ℕ))) (sources : List S) (rests : List (List ℕ)) (tracks others : List reading.Track) (ends otherEnds : List CaptureEnd)
      → AreSameFiles left opened captures → AllRead left faults limit opened sources tracks ends → list_any is_unread ends ≡ false → AllRead known_left no_failures limit captures rests others otherEnds → list_any is_unread otherEnds ≡ false
      → AreSameReadings tracks others ends otherEnds
  same_readings limit [] [] sources rests tracks others ends otherEnds same read whole made fine =
      let first = none_read left faults limit sources tracks ends read in
      let second = none_made limit rests others otherEnds made in
      record {
        inputs = ap (map track_inputs) first.0 ∙ sym (ap (map track_inputs) second.0);
        ends_printed = ap (map printed_end) first.1 ∙ sym (ap (map printed_end) second.1);
      }
  same_readings limit [] (c ∷ captures) sources rests tracks others ends otherEnds same read whole made fine = absurd same
  same_readings limit (o ∷ opened) [] sources rests tracks others ends otherEnds same read whole made fine = absurd same
  same_readings limit (o ∷ opened) (c ∷ captures) [] rests tracks others ends otherEnds same read whole made fine = absurd read
  same_readings limit (o ∷ opened) (c ∷ captures) (source ∷ sources) rests [] others ends otherEnds same read whole made fine = absurd read
  same_readings limit (o ∷ opened) (c ∷ captures) (source ∷ sources) rests (track ∷ tracks) others [] otherEnds same read whole made fine = absurd read
  same_readings limit (o ∷ opened) (c ∷ captures) (source ∷ sources) [] (track ∷ tracks) others (end ∷ ends) otherEnds same read whole made fine = absurd made
  same_readings limit (o ∷ opened) (c ∷ captures) (source ∷ sources) (rest ∷ rests) (track ∷ tracks) [] (end ∷ ends) otherEnds same read whole made fine = absurd made
  same_readings limit (o ∷ opened) (c ∷ captures) (source ∷ sources) (rest ∷ rests) (track ∷ tracks) (other ∷ others) (end ∷ ends) [] same read whole made fine = absurd made
  same_readings limit (o ∷ opened) (c ∷ captures) (source ∷ sources) (rest ∷ rests) (track ∷ tracks) (other ∷ others) (end ∷ ends) (otherEnd ∷ otherEnds) same read whole made fine =
      let (here, behind) = or_parts (is_unread end) (list_any is_unread ends) whole in
      let (made_here, made_behind) = or_parts (is_unread otherEnd) (list_any is_unread otherEnds) fine in
      let one = same_reading left faults limit o c source rest track other end otherEnd same.0 same.1 read.0 read.1 here made.0 made.1 made_here in
      let more = same_readings limit opened captures sources rests tracks others ends otherEnds same.2 read.2 behind made.2 made_behind in
      record { inputs = λ i. one.inputs i ∷ more.inputs i; ends_printed = λ i. one.ends i ∷ more.ends_printed i }

-- ---- a capture of which a part was read

-- both are what stands there
took_one : (n : Next) (r s : Captured) (x y : List ℕ) → n ≡ Took r x → n ≡ Took s y → (r ≡ s) × (x ≡ y)
took_one n r s x y p q = (cc, cc)

not_both : {X : Type 0} (n : Next) (r : Captured) (x : List ℕ) (at : Place) → n ≡ Took r x → n ≡ Stands at → X
not_both n r x at p q = absurd (cc)

-- records of bytes are the first ones of more bytes
records_begin : (limit : ℕ) (format : Format) (given : ℕ) (bytes more : List ℕ) (records all : List Captured) (rest others : List ℕ) (at : Place) → HasRecords limit format given bytes records rest → HasRecords limit format given (bytes ++ more) all others
    → next_of limit format (given + length all) others ≡ Stands at → (behind : List Captured) × (all ≡ records ++ behind)
records_begin limit format given bytes more [] all rest others at has has_all stands = (all, refl)
records_begin limit format given bytes more (r ∷ records) [] rest others at has has_all stands =
    let zero : given ≡ given + 0 = omega arith in
    not_both (next_of limit format given (bytes ++ more)) r (has.0 ++ more) at (took_grown limit format given bytes more r has.0 has.1) (ap (next_of limit format given) has_all ∙ ap (λ (n : ℕ). next_of limit format n others) zero ∙ stands)
records_begin limit format given bytes more (r ∷ records) (s ∷ all) rest others at has has_all stands =
    let one = took_one (next_of limit format given (bytes ++ more)) s r has_all.0 (has.0 ++ more) has_all.1 (took_grown limit format given bytes more r has.0 has.1) in
    let next : given + length (s ∷ all) ≡ given + 1 + length all = omega arith in
    let tail = records_begin limit format (given + 1) has.0 more records all rest others at has.2 (subst (λ (l : List ℕ). HasRecords limit format (given + 1) l all others) one.1 has_all.2)
    (ap (λ (n : ℕ). next_of limit format n others) (sym next) ∙ stands) in
    (tail.0, λ i. one.0 i ∷ tail.1 i)

-- behind a header that is read the records end somewhere
front_ends : (limit : ℕ) (bytes : List ℕ) (records : List Captured) (at : Place) (format : Format) → 24 ≤ length bytes → header_of (take 24 bytes) ≡ Ok format → HasFront limit bytes records at → EndsAt limit format (drop 24 bytes) records at
front_ends limit bytes records at format whole header front =
    let long : nat_lt (length bytes) 24 ≡ false = grind arith in
    MatchResult-at_ok (λ (f : Format). EndsAt limit f (drop 24 bytes) records at) (λ (fault : CaptureFault). (records ≡ []) × (at ≡ Closed fault)) format header (was_false _ _ (nat_lt (length bytes) 24) long front)

-- some of the inputs that come of a capture's told bytes, from the first on
record AreFirst (own all : List Input) : Type 0 where
  more : List Input
  split : all ≡ own ++ more

module _ {S : Type 0} (left : S → Option (List ℕ)) (faults : S → ℕ) where
  of_reading : (limit : ℕ) (opened : OpenedCapture S) (capture : OpenedCapture (List ℕ)) (track : OpenTrack S) (done : List Captured) (origin : Origin) (last : Captured) (rest : List ℕ) (other : reading.Track) (otherEnd : CaptureEnd) (now : Option (List ℕ))
      → (goes : GoesOn left faults limit opened track done origin) → opened.port ≡ capture.port → Consumes (Some capture.source) now goes.bytes → held_in track ≡ Some last
      → other.port ≡ capture.port → IsRead known_left no_failures limit capture.source rest other otherEnd → is_unread otherEnd ≡ false
      → AreFirst (map (input_of origin.link origin.port) (done ++ last ∷ [])) (track_inputs other)
  of_reading limit opened capture track done origin last rest other otherEnd None goes port taken held made_own made fine = absurd taken
  of_reading limit opened capture track done origin last rest other otherEnd (Some more) goes port taken held made_own made fine =
      let own : List Captured = done ++ last ∷ [] in
      let bytes = goes.bytes in
      let whole = goes.reading.whole in
      let told = told_alone known_left no_failures limit capture rest other otherEnd capture.source made_own made fine refl in
      let long : 24 ≤ length (bytes ++ more) = omega (arith, whole, length-append bytes more) in
      let header : header_of (take 24 (bytes ++ more)) ≡ Ok track.capture.format = header_grown bytes more whole ∙ goes.reading.header in
      let at = told.ended.0.place in
      let front : HasFront limit (bytes ++ more) other.records at = subst (λ (l : List ℕ). HasFront limit l other.records at) taken told.ended.0.front in
      let ends = front_ends limit (bytes ++ more) other.records at track.capture.format long header front in
      let gives : HasRecords limit track.capture.format 0 (drop 24 bytes) own (held_of track.capture) =
      subst (λ (n : ℕ). HasRecords n track.capture.format 0 (drop 24 bytes) own (held_of track.capture)) goes.limited
      (subst (λ (o : Option Captured). HasRecords track.capture.limit track.capture.format 0 (drop 24 bytes) (done ++ option_to_list o) (held_of track.capture)) held goes.reading.gives) in
      let zero : 0 + length other.records ≡ length other.records = omega arith in
      let begun = records_begin limit track.capture.format 0 (drop 24 bytes) more own other.records (held_of track.capture) ends.0 at gives
      (subst (λ (l : List ℕ). HasRecords limit track.capture.format 0 l other.records ends.0) (drop-append-le 24 bytes more whole) ends.1)
      (ap (λ (n : ℕ). next_of limit track.capture.format n ends.0) zero ∙ ends.2) in
      let link : header_of (take 24 capture.source) ≡ Ok track.capture.format = ap (λ (l : List ℕ). header_of (take 24 l)) taken ∙ header in
      let all : Origin = record { link = link_in (header_of (take 24 capture.source)); port = other.port } in
      let found : Origin = record { link = track.capture.format.link; port = opened.port } in
      let to_all : origin_of other ≡ all = first_of (origin_of other) all told.same.origins in
      let to_port : other.port ≡ opened.port = made_own ∙ sym port in
      let to_found : all ≡ found = λ i. record { link = link_in (link i); port = to_port i } in
      let from_all : all ≡ origin = to_found ∙ sym goes.origin_is in
      let same : origin_of other ≡ origin = to_all ∙ from_all in
      let as_input : Captured → Input = input_of origin.link origin.port in
      let inputs : track_inputs other ≡ map as_input (own ++ begun.0) = λ i. map (input_of (same i).link (same i).port) (begun.1 i) in
      record { more = map as_input begun.0; split = inputs ∙ map-append as_input own begun.0 }

  of_track : (limit : ℕ) (opened : OpenedCapture S) (capture : OpenedCapture (List ℕ)) (track : Track S) (done : List Captured) (origin : Origin) (last : Captured) (rest : List ℕ) (other : reading.Track) (otherEnd : CaptureEnd)
      → opened.port ≡ capture.port → left opened.source ≡ Some capture.source → IsTrack left faults limit opened track done origin → held_record_of track ≡ Some last
      → other.port ≡ capture.port → IsRead known_left no_failures limit capture.source rest other otherEnd → is_unread otherEnd ≡ false
      → AreFirst (map (input_of origin.link origin.port) (done ++ last ∷ [])) (track_inputs other)
  of_track limit opened capture (Refused source end) done origin last rest other otherEnd port told tracked held made_own made fine = absurd (cc)
  of_track limit opened capture (Open track) done origin last rest other otherEnd port told tracked held made_own made fine = by_end track.end tracked.1
    where
      by_end : (end : Option CaptureEnd) → MatchOption end (GoesOn left faults limit opened track done origin) (λ e. IsReadToEnd left faults limit opened track.capture.source e done origin × (held_in track ≡ None))
          → AreFirst (map (input_of origin.link origin.port) (done ++ last ∷ [])) (track_inputs other)
      by_end (Some e) ended = let none = ended.1 in absurd (cc)
      by_end None goes =
          of_reading limit opened capture track done origin last rest other otherEnd (left track.capture.source) goes port
          (subst (λ (o : Option (List ℕ)). Consumes o (left track.capture.source) goes.bytes) told goes.reading.taken) held made_own made fine

  -- of captures that weren't read nothing was met
  nothing_met : (limit : ℕ) (behind : List (OpenedCapture S)) (captures : List (OpenedCapture (List ℕ))) (rests : List (List ℕ)) (others : List reading.Track) (otherEnds : List CaptureEnd)
      → AreSameFiles left behind captures → AllRead known_left no_failures limit captures rests others otherEnds → AreSoFar (replicate (length behind) []) (map track_inputs others)
  nothing_met limit [] [] rests others otherEnds same made =
      let none = none_made limit rests others otherEnds made in
      subst (λ (l : List reading.Track). AreSoFar [] (map track_inputs l)) (sym none.0) tt
  nothing_met limit [] (c ∷ captures) rests others otherEnds same made = absurd same
  nothing_met limit (o ∷ behind) [] rests others otherEnds same made = absurd same
  nothing_met limit (o ∷ behind) (c ∷ captures) [] others otherEnds same made = absurd made
  nothing_met limit (o ∷ behind) (c ∷ captures) (rest ∷ rests) [] otherEnds same made = absurd made
  nothing_met limit (o ∷ behind) (c ∷ captures) (rest ∷ rests) (other ∷ others) [] same made = absurd made
  nothing_met limit (o ∷ behind) (c ∷ captures) (rest ∷ rests) (other ∷ others) (otherEnd ∷ otherEnds) same made =
      ((track_inputs other, refl), nothing_met limit behind captures rests others otherEnds same.2 made.2)

  part_met : (limit : ℕ) (before : List (OpenedCapture S)) (one : OpenedCapture S) (behind : List (OpenedCapture S)) (captures : List (OpenedCapture (List ℕ))) (sources : List S) (rests : List (List ℕ)) (tracks others : List reading.Track)
      (ends otherEnds : List CaptureEnd) (track : Track S) (done : List Captured) (origin : Origin) (last : Captured)
      → AreSameFiles left (before ++ one ∷ behind) captures → AllRead left faults limit before sources tracks ends → list_any is_unread ends ≡ false → AllRead known_left no_failures limit captures rests others otherEnds → list_any is_unread otherEnds ≡ false
      → IsTrack left faults limit one track done origin → held_record_of track ≡ Some last
      → AreSoFar (inputs_at (map track_inputs tracks) (map (input_of origin.link origin.port) (done ++ last ∷ [])) (length behind)) (map track_inputs others)
  part_met limit [] one behind [] sources rests tracks others ends otherEnds track done origin last same read whole made fine tracked held = absurd same
  part_met limit [] one behind (c ∷ captures) sources [] tracks others ends otherEnds track done origin last same read whole made fine tracked held = absurd made
  part_met limit [] one behind (c ∷ captures) sources (rest ∷ rests) tracks [] ends otherEnds track done origin last same read whole made fine tracked held = absurd made
  part_met limit [] one behind (c ∷ captures) sources (rest ∷ rests) tracks (other ∷ others) ends [] track done origin last same read whole made fine tracked held = absurd made
  part_met limit [] one behind (c ∷ captures) sources (rest ∷ rests) tracks (other ∷ others) ends (otherEnd ∷ otherEnds) track done origin last same read whole made fine tracked held =
      let none = none_read left faults limit sources tracks ends read in
      let first = of_track limit one c track done origin last rest other otherEnd same.0 same.1 tracked held made.0 made.1 (or_parts (is_unread otherEnd) (list_any is_unread otherEnds) fine).0 in
      subst (λ (l : List reading.Track). AreSoFar (inputs_at (map track_inputs l) (map (input_of origin.link origin.port) (done ++ last ∷ [])) (length behind)) (map track_inputs (other ∷ others))) (sym none.0)
      ((first.more, first.split), nothing_met limit behind captures rests others otherEnds same.2 made.2)
  part_met limit (b ∷ before) one behind [] sources rests tracks others ends otherEnds track done origin last same read whole made fine tracked held = absurd same
  part_met limit (b ∷ before) one behind (c ∷ captures) [] rests tracks others ends otherEnds track done origin last same read whole made fine tracked held = absurd read
  part_met limit (b ∷ before) one behind (c ∷ captures) (source ∷ sources) rests [] others ends otherEnds track done origin last same read whole made fine tracked held = absurd read
  part_met limit (b ∷ before) one behind (c ∷ captures) (source ∷ sources) rests (t ∷ tracks) others [] otherEnds track done origin last same read whole made fine tracked held = absurd read
  part_met limit (b ∷ before) one behind (c ∷ captures) (source ∷ sources) [] (t ∷ tracks) others (end ∷ ends) otherEnds track done origin last same read whole made fine tracked held = absurd made
  part_met limit (b ∷ before) one behind (c ∷ captures) (source ∷ sources) (rest ∷ rests) (t ∷ tracks) [] (end ∷ ends) otherEnds track done origin last same read whole made fine tracked held = absurd made
  part_met limit (b ∷ before) one behind (c ∷ captures) (source ∷ sources) (rest ∷ rests) (t ∷ tracks) (other ∷ others) (end ∷ ends) [] track done origin last same read whole made fine tracked held = absurd made
  part_met limit (b ∷ before) one behind (c ∷ captures) (source ∷ sources) (rest ∷ rests) (t ∷ tracks) (other ∷ others) (end ∷ ends) (otherEnd ∷ otherEnds) track done origin last same read whole made fine tracked held =
      let (here, beyond) = or_parts (is_unread end) (list_any is_unread ends) whole in
      let (made_here, made_behind) = or_parts (is_unread otherEnd) (list_any is_unread otherEnds) fine in
      let alike = same_reading left faults limit b c source rest t other end otherEnd same.0 same.1 read.0 read.1 here made.0 made.1 made_here in (
        ([], sym alike.inputs ∙ sym (append-nil (track_inputs t))),
        part_met limit before one behind captures sources rests tracks others ends otherEnds track done origin last same.2 read.2 beyond made.2 made_behind tracked held,
      )

  -- the records that captures gave are those of their told bytes, from the first on
  pub given_so_far : (limit : ℕ) (opened : List (OpenedCapture S)) (captures : List (OpenedCapture (List ℕ))) (sources : List S) (rests : List (List ℕ)) (others : List reading.Track) (otherEnds : List CaptureEnd) (inputs : List (List Input))
      → AreSameFiles left opened captures → HasGiven left faults limit 0 opened sources inputs → AllRead known_left no_failures limit captures rests others otherEnds → list_any is_unread otherEnds ≡ false → AreSoFar inputs (map track_inputs others)
  given_so_far limit opened captures sources rests others otherEnds inputs same given made fine =
      let number : length given.behind ≡ length given.behind + 0 = omega arith in
      let own = map (input_of given.origin.link given.origin.port) (given.done ++ given.last ∷ []) in
      let met = part_met limit given.before given.one given.behind captures given.sources_before rests given.tracks others given.ends otherEnds given.track given.done given.origin given.last
      (subst (λ (l : List (OpenedCapture S)). AreSameFiles left l captures) given.split same) given.read given.quiet made fine given.tracked given.held in
      subst (λ (l : List (List Input)). AreSoFar l (map track_inputs others)) (sym given.given)
      (subst (λ (n : ℕ). AreSoFar (inputs_at (map track_inputs given.tracks) own n) (map track_inputs others)) number met)
