-- The records of a capture so far, and one more.
use Rattle.std.proofs.Common.{◌≡◌, ℕ, ◌+◌, ◌<◌, ◌≤◌, true, false, List, [], ◌∷◌, ◌++◌, Option, None, Some, Ok, Err, Result, length, length-append, get_or, take, refl, sym, ap, ◌∙◌, subst, arith}
use Rattle.std.specs.Prelude.{IfOk, IfSome, is_some}
use Rattle.std.proofs.lemmas.List.{length-map, map-append, take-append-le}
use Rattle.fw_base.specs.declared.link.Link.{Link}
use Rattle.pcap_read.specs.declared.capture.Capture.{Capture}
use Rattle.pcap_read.specs.declared.capture_fault.CaptureFault.{CaptureFault}
use Rattle.pcap_read.specs.Reading.{Captured, header_of}
use Rattle.pcap_read.specs.Capture.{IsReading, IsOpened, StopsWith, Advances, limit_of, link_of, source_of, format_of, given_of}
use Rattle.report_moves.specs.Moves.{AreToldOnce}
use Rattle.report_moves.specs.declared.moves.Move.{Move}
use Rattle.report_flows.specs.Captures.{IsCountedCapture, StopsAt, flows_in, held_flow, most_records}
use Rattle.report_flows.specs.Counting.{Row, Entries, AreCounted, CountsAt, IsBelow, IsPlaceOf, entries_at, move_at, rows_of}
use Rattle.report_flows.specs.Flows.{flow_in}
use Rattle.report_flows.specs.declared.flow.AnyFlow.{AnyFlow}
use Rattle.report_flows.proofs.MoveSteps.{below_at, none_counted_yet, record_counted}
use Rattle.report_flows.proofs.RowSteps.{rows_count, rows_more, rows_none, rows_past}

module _ {S : Type 0} (left : S → Option (List ℕ)) (faults : S → ℕ) (source : S) (moves : List Move) (capture : ℕ) (old new : List ℕ) (before : List Entries) where
  -- so many records were read and counted
  pub record ReadSoFar (c : Capture S) (now : List Entries) (at : ℕ) : Type 0 where
    pub bytes : List ℕ
    pub records : List Captured
    pub reading : IsReading left faults source c bytes records
    pub count : length records ≡ at
    pub counted : AreCounted moves capture (rows_of old new (flows_in (link_of c) records)) before now

  flows_count : (link : Link) (records : List Captured) → length (flows_in link records) ≡ length records
  flows_count link records = length-map records (λ (r : Captured). flow_in link r.bytes)

  -- before the first
  pub read_nothing : (c : Capture S) → IsOpened left faults most_records source c → ((place : ℕ) → (move_at moves place).capture ≡ capture → entries_at before place ≡ []) → ReadSoFar c before 0
  read_nothing c opened none = record {
    bytes = opened.reading.0;
    records = [];
    reading = opened.reading.1;
    count = refl;
    counted = subst (λ rows. AreCounted moves capture rows before before) (sym (rows_none old new)) (none_counted_yet moves capture before none);
  }

  module _ (c mid : Capture S) (now : List Entries) (at : ℕ) (so : ReadSoFar c now at) (same : length old ≡ length new) where
    flows_before : List (Option AnyFlow)
    flows_before = flows_in (link_of c) so.records

    flows_at : length flows_before ≡ at
    unfolding flows_before
    flows_at = flows_count (link_of c) so.records ∙ so.count

    -- of the next record's flow fewer records were counted than its number
    pub below_number : (pair : ℕ × ℕ) (found : Option ℕ) (flow : Option AnyFlow) → at < length old → IsPlaceOf moves capture pair found
        → IfSome found (λ place. IsBelow flow (at + 1) (entries_at now place))
    unfolding flows_before
    below_number pair found flow within place =
        subst (λ n. IfSome found (λ place. IsBelow flow (n + 1) (entries_at now place))) (rows_count old new same flows_before at flows_at (omega (arith, within)))
        (below_at moves capture (rows_of old new flows_before) pair found flow before now place so.counted)

    -- one record more is counted
    pub read_counted : AreToldOnce moves → (held : Option Captured) → is_some held ≡ true → Advances left faults c mid (Ok held) → (found : Option ℕ) (next : List Entries)
        → at < length old → IsPlaceOf moves capture (get_or old at 0, get_or new at 0) found
        → CountsAt now next found (held_flow (link_of mid) held) (at + 1) → ReadSoFar mid next (at + 1)
    unfolding flows_before
    read_counted once None is step found next within place counts = let clash : false ≡ true = is in absurd (cc)
    read_counted once (Some r) is step found next within place counts =
        let q = step.continues source so.bytes so.records so.reading in
        let row : Row = ((get_or old at 0, get_or new at 0), flow_in (link_of c) r.bytes) in
        let rows : List Row = rows_of old new flows_before in
        let count : length rows ≡ at = rows_count old new same flows_before at flows_at (omega (arith, within)) in
        let here : CountsAt now next found (flow_in (link_of c) r.bytes) (length rows + 1) =
        subst (λ L. CountsAt now next found (flow_in L r.bytes) (length rows + 1)) step.link
        (subst (λ n. CountsAt now next found (flow_in (link_of mid) r.bytes) (n + 1)) (sym count) counts)
        in
        let more : rows_of old new (flows_in (link_of c) (so.records ++ r ∷ [])) ≡ rows ++ row ∷ [] =
        ap (rows_of old new) (map-append (λ (r : Captured). flow_in (link_of c) r.bytes) so.records (r ∷ []))
        ∙ rows_more old new same flows_before at flows_at within (flow_in (link_of c) r.bytes)
        in
        record {
          bytes = so.bytes ++ q.0;
          records = so.records ++ r ∷ [];
          reading = q.1;
          count = length-append so.records (r ∷ []) ∙ ap (λ n. n + 1) so.count;
          counted =
              subst (λ L. AreCounted moves capture (rows_of old new (flows_in L (so.records ++ r ∷ []))) before next) (sym step.link)
              (subst (λ rows. AreCounted moves capture rows before next) (sym more)
              (record_counted moves capture once rows row found before now next place so.counted here));
        }

    -- one record more than the reports have isn't
    pub read_past : (held : Option Captured) → is_some held ≡ true → Advances left faults c mid (Ok held) → length old ≤ at → ReadSoFar mid now (at + 1)
    unfolding flows_before
    read_past None is step past = let clash : false ≡ true = is in absurd (cc)
    read_past (Some r) is step past =
        let q = step.continues source so.bytes so.records so.reading in
        let more : rows_of old new (flows_in (link_of c) (so.records ++ r ∷ [])) ≡ rows_of old new flows_before =
        ap (rows_of old new) (map-append (λ (r : Captured). flow_in (link_of c) r.bytes) so.records (r ∷ []))
        ∙ rows_past old new same flows_before at flows_at past (flow_in (link_of c) r.bytes)
        in
        record {
          bytes = so.bytes ++ q.0;
          records = so.records ++ r ∷ [];
          reading = q.1;
          count = length-append so.records (r ∷ []) ∙ ap (λ n. n + 1) so.count;
          counted =
              subst (λ L. AreCounted moves capture (rows_of old new (flows_in L (so.records ++ r ∷ []))) before now) (sym step.link)
              (subst (λ rows. AreCounted moves capture rows before now) (sym more) so.counted);
        }

    -- at the end all are read
    pub read_whole : (held : Option Captured) → is_some held ≡ false → Advances left faults c mid (Ok held) → limit_of c ≡ most_records
        → IsCountedCapture left faults source moves capture old new at before now
    unfolding flows_before
    read_whole (Some r) is step limit = let clash : true ≡ false = is in absurd (cc)
    read_whole None is step limit =
        let q = step.continues source so.bytes so.records so.reading in
        let header : header_of (take 24 (so.bytes ++ q.0)) ≡ Ok (format_of c) = ap header_of (take-append-le 24 so.bytes q.0 so.reading.whole) ∙ so.reading.header in
        record {
          flows = flows_before;
          read = record {
            now = source_of mid;
            bytes = so.bytes ++ q.0;
            records = so.records;
            link = link_of c;
            stops = subst (λ n. StopsWith left faults n source (source_of mid) (so.bytes ++ q.0) so.records (length so.records + 1) None) limit q.1;
            header = subst (λ (r : Result _ _). IfOk r (λ format. format.link ≡ link_of c)) (sym header) refl;
            flows_are = refl;
          };
          count_is = flows_at;
          counted = so.counted;
        }

    -- a fault stands at the next record
    pub read_stopped : (fault : CaptureFault) → Advances left faults c mid (Err fault) → limit_of c ≡ most_records
        → StopsAt left faults source (at + 1) fault
    read_stopped fault step limit =
        let q = step.continues source so.bytes so.records so.reading in
        record {
          now = source_of mid;
          bytes = so.bytes ++ q.0;
          records = so.records;
          stops =
              subst (λ n. StopsWith left faults most_records source (source_of mid) (so.bytes ++ q.0) so.records (n + 1) (Some fault)) so.count
              (subst (λ n. StopsWith left faults n source (source_of mid) (so.bytes ++ q.0) so.records (length so.records + 1) (Some fault)) limit q.1);
          has_memory = λ is. (step.cause so.reading.running).has_memory (ap Err is);
        }

  -- a record more was given
  pub given_more : (c mid : Capture S) (held : Option Captured) → is_some held ≡ true → Advances left faults c mid (Ok held) → given_of mid ≡ given_of c + 1
  given_more c mid None is step = let clash : false ≡ true = is in absurd (cc)
  given_more c mid (Some r) is step = step.counts.0
