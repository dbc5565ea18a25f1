-- What was read of captures, by the bytes that were read and by the bytes that their sources tell.
use Rattle.std.specs.Bool.{⊤}
use Rattle.std.proofs.Common.{◌≡◌, ℕ, ◌≤◌, inl, inr, suc, false, Option, Some, None, List, [], ◌∷◌, ◌++◌, length, map, take, Result, Ok, Err, nat_lt, refl, sym, ap, ◌∙◌, subst, arith, append-nil, length-append}
use Rattle.std.specs.Io.KnownBytes.{Consumes, IsAtEnd}
use Rattle.std.proofs.lemmas.Bool.{cases_lt, or_parts}
use Rattle.std.specs.List.{list_any}
use Rattle.fw_base.specs.Faults.{Rose}
use Rattle.fw_base.specs.declared.port.Port.{Port}
use Rattle.fw_base.proofs.Logic.{clash, was_true}
use Rattle.report_texts.specs.CaptureEnds.{is_unread}
use Rattle.report_texts.specs.declared.capture_end.CaptureEnd.{CaptureEnd}
use Rattle.pcap_read.specs.Reading.{Captured, Place, Open, InHeader, Closed, HasFront, Stops, place_number, header_of}
use Rattle.pcap_read.specs.declared.capture_fault.CaptureFault.{CaptureFault}
use Rattle.pcap_read.specs.declared.capture_fault.CaptureFault.TheVariants.{ReadFault}
use Rattle.pcap_read.specs.declared.format.Format.{Format}
use Rattle.pcap_read.proofs.Fronts.{header_grown, number_fault, number_behind}
use Rattle.pcap_read.proofs.OneFront.{front_unique, front_stays}
use Rattle.capture_tracks.specs.Reading.{Track, Origin, origin_of, link_in, IsEnd, IsRead, AllRead}
use Rattle.capture_tracks.specs.declared.opened.OpenedCapture.{OpenedCapture}
use Rattle.record_laws.specs.SameCaptures.{HaveSameRecords, HaveSameBytes, HaveNoFailedRead}
use Rattle.record_laws.proofs.SameEnds.{HasEnded, AllEnded, ended_of_stop}

-- ---- by the bytes that were read

-- a stop as it stands at a place, whatever the source's end and faults are
stops_there : (atEnd failed : Type 0) (place : Place) (stop : Option CaptureFault) → Stops atEnd failed place stop → Stops ⊤ ⊤ place stop
stops_there atEnd failed (Closed fault) stop is = is
stops_there atEnd failed (Open place) stop (inl is) = inl (tt, is.1)
stops_there atEnd failed (Open place) stop (inr is) = inr (tt, is.1)

module _ {S : Type 0} (left : S → Option (List ℕ)) (faults : S → ℕ) where
  -- there are as many captures as tracks
  pub track_count : (limit : ℕ) (captures : List (OpenedCapture S)) (sources : List S) (tracks : List Track) (ends : List CaptureEnd) → AllRead left faults limit captures sources tracks ends → length captures ≡ length tracks
  track_count limit [] [] [] [] all = refl
  track_count limit (opened ∷ captures) (source ∷ sources) (track ∷ tracks) (end ∷ ends) all = ap (λ n. suc n) (track_count limit captures sources tracks ends all.2)
  track_count limit captures sources tracks ends all = absurd all

  -- and as many ends
  pub end_count : (limit : ℕ) (captures : List (OpenedCapture S)) (sources : List S) (tracks : List Track) (ends : List CaptureEnd) → AllRead left faults limit captures sources tracks ends → length captures ≡ length ends
  end_count limit [] [] [] [] all = refl
  end_count limit (opened ∷ captures) (source ∷ sources) (track ∷ tracks) (end ∷ ends) all = ap (λ n. suc n) (end_count limit captures sources tracks ends all.2)
  end_count limit captures sources tracks ends all = absurd all

  has_ended : (limit : ℕ) (source after : S) (track : Track) (end : CaptureEnd) → IsRead left faults limit source after track end → HasEnded limit track end
  has_ended limit source after track end is =
      let behind = is.stopped.behind in
      record {
        place = behind.0;
        front = behind.1;
        stop = is.stop;
        stops = stops_there (IsAtEnd (left after)) (Rose (faults source) (faults after)) behind.0 is.stop behind.2;
        count = faults after;
        told = subst (λ (n : ℕ). IsEnd end track.records n is.stop (faults after)) (sym behind.3) is.told;
      }

  -- each capture that was read has ended
  pub all_ended : (limit : ℕ) (captures : List (OpenedCapture S)) (sources : List S) (tracks : List Track) (ends : List CaptureEnd) → AllRead left faults limit captures sources tracks ends → AllEnded limit tracks ends
  all_ended limit [] [] [] [] all = tt
  all_ended limit (opened ∷ captures) (source ∷ sources) (track ∷ tracks) (end ∷ ends) all =
      (has_ended limit opened.source source track end all.1, all_ended limit captures sources tracks ends all.2)
  all_ended limit captures sources tracks ends all = absurd all

-- of the same bytes the same records are read
pub same_records : (limit : ℕ) (tracks others : List Track) (ends otherEnds : List CaptureEnd) → AllEnded limit tracks ends → AllEnded limit others otherEnds → HaveSameBytes tracks others → HaveSameRecords tracks others
same_records limit [] [] ends otherEnds all also same = record { origins = refl; records = refl }
same_records limit [] (other ∷ others) ends otherEnds all also same = let bytes = same.bytes in absurd (cc)
same_records limit (track ∷ tracks) [] ends otherEnds all also same = let bytes = same.bytes in absurd (cc)
same_records limit (track ∷ tracks) (other ∷ others) [] otherEnds all also same = absurd all
same_records limit (track ∷ tracks) (other ∷ others) (end ∷ ends) [] all also same = absurd also
same_records limit (track ∷ tracks) (other ∷ others) (end ∷ ends) (otherEnd ∷ otherEnds) all also same =
    let all_ports = same.ports in
    let all_bytes = same.bytes in
    let port : track.port ≡ other.port = cc in
    let bytes : track.bytes ≡ other.bytes = cc in
    let rest = same_records limit tracks others ends otherEnds all.1 also.1 (record { ports = cc; bytes = cc }) in
    let front : HasFront limit track.bytes other.records also.0.place = subst (λ (l : List ℕ). HasFront limit l other.records also.0.place) (sym bytes) also.0.front in
    let records = (front_unique limit track.bytes track.records other.records all.0.place also.0.place all.0.front front).0 in
    let origin : origin_of track ≡ origin_of other = λ i. record { link = link_in (header_of (take 24 (bytes i))); port = port i } in
    record {
      origins = ap (λ (o : Origin). o ∷ map origin_of tracks) origin ∙ ap (λ (l : List Origin). origin_of other ∷ l) rest.origins;
      records = ap (λ (l : List Captured). l ∷ map (λ (t : Track). t.records) tracks) records ∙ ap (λ (ls : List (List Captured)). other.records ∷ ls) rest.records;
    }

-- ---- by the bytes that the sources tell

-- a fault that stands whatever follows stands behind the header
closed_whole : (limit : ℕ) (bytes : List ℕ) (records : List Captured) (fault : CaptureFault) → HasFront limit bytes records (Closed fault) → 24 ≤ length bytes
closed_whole limit bytes records fault front = elim (cases_lt (length bytes) 24) [
  | inl few ↦ let place : Closed fault ≡ Open InHeader = (was_true _ _ (nat_lt (length bytes) 24) (grind arith) front).1 in absurd (cc)
  | inr whole ↦ whole
]

-- bytes behind the header don't change the place's number
number_grown : (bytes more : List ℕ) (records : List Captured) → 24 ≤ length bytes → place_number (bytes ++ more) records ≡ place_number bytes records
number_grown bytes more records whole = headed (header_of (take 24 bytes)) refl
  where
    longer : 24 ≤ length (bytes ++ more)
    longer = omega (arith, whole, length-append bytes more)

    headed : (r : Result Format CaptureFault) → header_of (take 24 bytes) ≡ r → place_number (bytes ++ more) records ≡ place_number bytes records
    headed (Err fault) is = number_fault (bytes ++ more) records fault longer (header_grown bytes more whole ∙ is) ∙ sym (number_fault bytes records fault whole is)
    headed (Ok format) is = number_behind (bytes ++ more) records format longer (header_grown bytes more whole ∙ is) ∙ sym (number_behind bytes records format whole is)

-- What was read of a capture is what its told bytes say.
record SaysSame (limit : ℕ) (bytes contents : List ℕ) (records : List Captured) (place : Place) (stop : Option CaptureFault) : Type 0 where
  front : HasFront limit contents records place
  number : place_number contents records ≡ place_number bytes records
  stops : Stops ⊤ ⊤ place stop
  header : link_in (header_of (take 24 contents)) ≡ link_in (header_of (take 24 bytes))

-- so it is where no read failed
says_same : (limit : ℕ) (bytes contents : List ℕ) (now : Option (List ℕ)) (records : List Captured) (place : Place) (stop : Option CaptureFault) (failed : Type 0) → Consumes (Some contents) now bytes → HasFront limit bytes records place
    → Stops (IsAtEnd now) failed place stop → (stop ≡ Some ReadFault → ⊥) → SaysSame limit bytes contents records place stop
says_same limit bytes contents None records place stop failed taken front stops read = absurd taken
says_same limit bytes contents (Some more) records (Closed fault) stop failed taken front stops read =
    let whole = closed_whole limit bytes records fault front in
    record {
      front = subst (λ (l : List ℕ). HasFront limit l records (Closed fault)) (sym taken) (front_stays limit bytes more records fault front);
      number = ap (λ (l : List ℕ). place_number l records) taken ∙ number_grown bytes more records whole;
      stops = stops;
      header = ap (λ (l : List ℕ). link_in (header_of (take 24 l))) taken ∙ ap link_in (header_grown bytes more whole);
    }
says_same limit bytes contents (Some more) records (Open place) stop failed taken front (inl is) read =
    let same : contents ≡ bytes = taken ∙ ap (λ (l : List ℕ). bytes ++ l) is.0 ∙ append-nil bytes in
    record {
      front = subst (λ (l : List ℕ). HasFront limit l records (Open place)) (sym same) front;
      number = ap (λ (l : List ℕ). place_number l records) same;
      stops = inl (tt, is.1);
      header = ap (λ (l : List ℕ). link_in (header_of (take 24 l))) same;
    }
says_same limit bytes contents (Some more) records (Open place) stop failed taken front (inr is) read = absurd (read is.1)

-- the captures with the bytes that their sources tell
abbrev pub with_contents : List Track → List (List ℕ) → List Track
with_contents [] contents = []
with_contents (track ∷ tracks) [] = []
with_contents (track ∷ tracks) (bytes ∷ contents) = record track { bytes = bytes } ∷ with_contents tracks contents

-- They have the same records and ports, and have ended as they did.
pub record AreTold {S : Type 0} (limit : ℕ) (captures : List (OpenedCapture S)) (tracks told : List Track) (ends : List CaptureEnd) (contents : List (List ℕ)) : Type 0 where
  pub same : HaveSameRecords tracks told
  pub ended : AllEnded limit told ends
  pub ports : map (λ (t : Track). t.port) told ≡ map (λ (c : OpenedCapture S). c.port) captures
  pub bytes : map (λ (t : Track). t.bytes) told ≡ contents

module _ {S : Type 0} (left : S → Option (List ℕ)) (faults : S → ℕ) where
  told_one : (limit : ℕ) (source after : S) (track : Track) (end : CaptureEnd) (contents : List ℕ) → IsRead left faults limit source after track end → left source ≡ Some contents → is_unread end ≡ false
      → HasEnded limit (record track { bytes = contents }) end × (origin_of track ≡ origin_of (record track { bytes = contents }))
  told_one limit source after track end contents is tells read =
      let behind = is.stopped.behind in
      let taken : Consumes (Some contents) (left after) track.bytes = subst (λ (o : Option (List ℕ)). Consumes o (left after) track.bytes) tells is.stopped.taken in
      let says = says_same limit track.bytes contents (left after) track.records behind.0 is.stop (Rose (faults source) (faults after)) taken behind.1 behind.2
      (λ fails. clash (is_unread end) (ended_of_stop end track.records is.number is.stop (faults after) is.told fails) read) in (
        record {
          place = behind.0;
          front = says.front;
          stop = is.stop;
          stops = says.stops;
          count = faults after;
          told = subst (λ (n : ℕ). IsEnd end track.records n is.stop (faults after)) (sym (says.number ∙ behind.3)) is.told;
        },
        λ i. record { link = sym says.header i; port = track.port },
      )

  -- each capture whose source tells its bytes, and of which no read failed, is read as these bytes say
  pub are_told : (limit : ℕ) (captures : List (OpenedCapture S)) (sources : List S) (tracks : List Track) (ends : List CaptureEnd) (contents : List (List ℕ)) → AllRead left faults limit captures sources tracks ends
      → map (λ (c : OpenedCapture S). left c.source) captures ≡ map Some contents → HaveNoFailedRead ends → AreTold limit captures tracks (with_contents tracks contents) ends contents
  are_told limit [] [] [] [] [] all tells none = record { same = record { origins = refl; records = refl }; ended = tt; ports = refl; bytes = refl }
  are_told limit [] [] [] [] (bytes ∷ contents) all tells none = absurd (cc)
  are_told limit (opened ∷ captures) (source ∷ sources) (track ∷ tracks) (end ∷ ends) [] all tells none = absurd (cc)
  are_told limit (opened ∷ captures) (source ∷ sources) (track ∷ tracks) (end ∷ ends) (bytes ∷ contents) all tells none =
      let first : left opened.source ≡ Some bytes = cc in
      let behind : map (λ (c : OpenedCapture S). left c.source) captures ≡ map Some contents = cc in
      let (here, beyond) = or_parts (is_unread end) (list_any is_unread ends) none in
      let one = told_one limit opened.source source track end bytes all.1 first here in
      let rest = are_told limit captures sources tracks ends contents all.2 behind beyond in
      record {
        same = record {
          origins = ap (λ (o : Origin). o ∷ map origin_of tracks) one.1 ∙ ap (λ (l : List Origin). origin_of (record track { bytes = bytes }) ∷ l) rest.same.origins;
          records = ap (λ (ls : List (List Captured)). track.records ∷ ls) rest.same.records;
        };
        ended = (one.0, rest.ended);
        ports = ap (λ (p : Port). p ∷ map (λ (t : Track). t.port) (with_contents tracks contents)) all.0 ∙ ap (λ (l : List Port). opened.port ∷ l) rest.ports;
        bytes = ap (λ (l : List (List ℕ)). bytes ∷ l) rest.bytes;
      }
  are_told limit captures sources tracks ends contents all tells none = absurd all
