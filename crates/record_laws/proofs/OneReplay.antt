-- What a run leaves is determined by its first configuration, its script and its captures.
use Rattle.std.proofs.Common.{◌≡◌, ℕ, Option, Some, None, List, length, map, refl, sym, ap, ◌∙◌, subst}
use Rattle.std.proofs.lemmas.List.{length-map}
use Rattle.counter_book.specs.Counts.{counted_under}
use Rattle.counter_book.specs.declared.tally.Count.{Count}
use Rattle.fw_command.specs.declared.script.Step.{Step}
use Rattle.fw_world.specs.Inputs.{Input}
use Rattle.fw_world.specs.Lane.{LaneValue}
use Rattle.fw_world.specs.Publications.{IsLawful}
use Rattle.fw_world.specs.RecordValue.{RecordValue}
use Rattle.fw_world.specs.RecordedHits.{hits_of_each, recorded_hits}
use Rattle.generation_store.specs.Published.{Published}
use Rattle.rule_chain.specs.Configuration.{Configuration}
use Rattle.serial_replay.specs.Events.{ReplaysAll}
use Rattle.capture_tracks.specs.Reading.{Track, Origin, origin_of, track_inputs, AllRead}
use Rattle.capture_tracks.specs.Replay.{limit_for}
use Rattle.serial_replay.specs.Running.{inputs_of}
use Rattle.serial_replay.proofs.Ended.{inputs-same}
use Rattle.serial_replay.specs.Replay.{ComesOf, IsFirstState, IsSerialReplay}
use Rattle.capture_tracks.specs.declared.opened.OpenedCapture.{OpenedCapture}
use Rattle.capture_tracks.specs.declared.replayed.Replayed.{Replayed}
use Rattle.serial_schedule.specs.Schedule.{Event, schedule}
use Rattle.state_journal.specs.declared.entry.Entry.{Entry}
use Rattle.record_laws.specs.OneReplay.{IsSameRecord, RecordsAreDetermined, IsSameReplay, IsSameReport, ReplaysAreDetermined, ContentsDetermineReports}
use Rattle.record_laws.specs.SameCaptures.{HaveSameRecords, HaveSameBytes, HaveSameContents, HaveNoFailedRead, HaveSameFailedReads, printed_end}
use Rattle.record_laws.proofs.LawfulRun.{LeadsTo, grows_all, leads_first}
use Rattle.record_laws.proofs.OneReport.{same_record}
use Rattle.record_laws.proofs.SameEnds.{same_report, same_ends, none_alike}
use Rattle.record_laws.proofs.ReadCaptures.{track_count, end_count, all_ended, same_records, with_contents, are_told}
use Rattle.record_laws.proofs.OneRun.{IsSameState, alike_all, first_alike, same_parts, same_counts}

-- a lawful run is so from its first state on
lawful_run : (config : Configuration) (steps : List Step) (cache : Option ℕ) (tracks : List Track) (r : RecordValue) (c : ComesOf config steps cache tracks r) → IsLawful r.editions r.journal.entries → LeadsTo c.first.world c.last.world
lawful_run config steps cache tracks r c lawful =
    let last : IsLawful c.last.world.editions c.last.world.journal.entries =
    subst (λ (l : List Entry). IsLawful c.last.world.editions l) (ap (λ j. j.entries) c.ends.journal)
    (subst (λ (l : List Published). IsLawful l r.journal.entries) c.ends.editions lawful) in
    leads_first config cache (length tracks) c.first c.last.world c.begins last
    (grows_all (map origin_of tracks) c.first c.last (schedule steps (map (λ track. track.records) tracks)) c.replays)

-- the same records are the same inputs
same_inputs : (tracks others : List Track) → HaveSameRecords tracks others → map track_inputs tracks ≡ map track_inputs others
same_inputs tracks others same = inputs-same tracks ∙ (λ i. inputs_of (same.origins i) (same.records i)) ∙ sym (inputs-same others)

-- of the same inputs, editions and dockets there are the same hits
same_hits : (cache : Option ℕ) (r s : RecordValue) (inputs others : List (List Input)) → r.editions ≡ s.editions → inputs ≡ others → r.dockets ≡ s.dockets → recorded_hits cache inputs r ≡ recorded_hits cache others s
same_hits None r s inputs others editions same dockets = refl
same_hits (Some capacity) r s inputs others editions same dockets = λ i. hits_of_each capacity (editions i) (same i) (dockets i)

-- there is one record of the captures' records
pub records_are_determined : RecordsAreDetermined
records_are_determined config steps cache tracks others r s same c lawful told d legal tells =
    let count : length tracks ≡ length others = sym (length-map tracks origin_of) ∙ ap length same.origins ∙ length-map others origin_of in
    let begins : IsFirstState config cache (length tracks) d.first = subst (λ (n : ℕ). IsFirstState config cache n d.first) (sym count) d.begins in
    let events : schedule steps (map (λ track. track.records) tracks) ≡ schedule steps (map (λ track. track.records) others) = ap (schedule steps) same.records in
    let replays : ReplaysAll (map origin_of tracks) d.first d.last (schedule steps (map (λ track. track.records) tracks)) =
    subst (λ (origins : List Origin). ReplaysAll origins d.first d.last (schedule steps (map (λ track. track.records) tracks))) (sym same.origins)
    (subst (λ (l : List Event). ReplaysAll (map origin_of others) d.first d.last l) (sym events) d.replays) in
    let state : IsSameState c.last d.last =
    alike_all (map origin_of tracks) c.first d.first c.last d.last (schedule steps (map (λ track. track.records) tracks)) (first_alike config cache (length tracks) c.first d.first c.begins begins)
    (lawful_run config steps cache tracks r c lawful) (lawful_run config steps cache others s d legal) c.replays replays in
    let editions : r.editions ≡ s.editions = c.ends.editions ∙ ap (λ w. w.editions) state.world ∙ sym d.ends.editions in
    let dockets : r.dockets ≡ s.dockets = c.ends.dockets ∙ same_parts (λ (lane : LaneValue). lane.docket) c.last.lanes d.last.lanes state.lanes ∙ sym d.ends.dockets in
    same_record r s
    editions
    (c.ends.journal ∙ ap (λ w. w.journal) state.world ∙ sym d.ends.journal)
    dockets
    (c.ends.trackers ∙ same_parts (λ (lane : LaneValue). lane.tracker) c.last.lanes d.last.lanes state.lanes ∙ sym d.ends.trackers)
    (told ∙ same_hits cache r s (map track_inputs tracks) (map track_inputs others) editions (same_inputs tracks others same) dockets ∙ sym tells)
    (λ counter.
    ap (map (λ (tally : List Count). counted_under tally counter)) c.ends.tallies ∙ same_counts counter c.last.lanes d.last.lanes state.lanes
    ∙ ap (map (λ (tally : List Count). counted_under tally counter)) (sym d.ends.tallies))

-- ---- from bytes to records

-- records that say the same, of captures whose ends are printed alike, have one report
one_report : {S T : Type 0} (r : Replayed S) (s : Replayed T) → IsSameRecord r.record s.record → map printed_end r.ends.captures ≡ map printed_end s.ends.captures → IsSameReport r s
one_report r s same ends = record {
  ends = ends;
  text = λ hits answers journal. same_report r.record hits r.ends.captures s.ends.captures answers journal ends ∙ same.report hits s.ends.captures answers journal;
}

module _ {S T : Type 0} (left : S → Option (List ℕ)) (faults : S → ℕ) (otherLeft : T → Option (List ℕ)) (otherFaults : T → ℕ) where
  module _ (config : Configuration) (steps : List Step) (cache : Option ℕ) (captures : List (OpenedCapture S)) (others : List (OpenedCapture T)) (r : Replayed S) (s : Replayed T)
      (replay : IsSerialReplay left faults config steps cache captures r) (other : IsSerialReplay otherLeft otherFaults config steps cache others s) where
    -- of the same records the same replay
    same_replay : HaveSameRecords replay.replay.tracks other.replay.tracks → IsSameReplay r s
    same_replay same = record {
      recorded = records_are_determined config steps cache replay.replay.tracks other.replay.tracks r.record s.record same replay.ordered replay.replay.legal.lawful replay.replay.hits other.ordered other.replay.legal.lawful other.replay.hits;
      answers = replay.replay.answered ∙ sym other.replay.answered;
    }

    -- the limit of a replay's captures
    abbrev limit : ℕ
    limit = limit_for (length captures)

    -- the other replay's captures were read to the same limit, where they are as many
    other_read : length captures ≡ length others → AllRead otherLeft otherFaults limit others s.sources.items other.replay.tracks s.ends.captures
    other_read count = subst (λ (n : ℕ). AllRead otherLeft otherFaults (limit_for n) others s.sources.items other.replay.tracks s.ends.captures) (sym count) other.replay.read

    by_bytes : HaveSameBytes replay.replay.tracks other.replay.tracks → IsSameReplay r s × (HaveSameFailedReads r.ends.captures s.ends.captures → IsSameReport r s)
    by_bytes same =
        let tracks : length replay.replay.tracks ≡ length other.replay.tracks =
        sym (length-map replay.replay.tracks (λ (t : Track). t.bytes)) ∙ ap length same.bytes ∙ length-map other.replay.tracks (λ (t : Track). t.bytes) in
        let count : length captures ≡ length others =
        track_count left faults limit captures r.sources.items replay.replay.tracks r.ends.captures replay.replay.read
        ∙ tracks ∙ sym (track_count otherLeft otherFaults (limit_for (length others)) others s.sources.items other.replay.tracks s.ends.captures other.replay.read) in
        let all = all_ended left faults limit captures r.sources.items replay.replay.tracks r.ends.captures replay.replay.read in
        let also = all_ended otherLeft otherFaults limit others s.sources.items other.replay.tracks s.ends.captures (other_read count) in
        let replayed = same_replay (same_records limit replay.replay.tracks other.replay.tracks r.ends.captures s.ends.captures all also same) in
        (replayed, λ alike. one_report r s replayed.recorded (same_ends limit replay.replay.tracks other.replay.tracks r.ends.captures s.ends.captures all also same alike))

    by_contents : HaveSameContents left otherLeft captures others → HaveNoFailedRead r.ends.captures → HaveNoFailedRead s.ends.captures → IsSameReplay r s × IsSameReport r s
    by_contents same none also =
        let count : length captures ≡ length others =
        sym (length-map captures (λ (c : OpenedCapture S). c.port)) ∙ ap length same.ports ∙ length-map others (λ (c : OpenedCapture T). c.port) in
        let told = are_told left faults limit captures r.sources.items replay.replay.tracks r.ends.captures same.contents replay.replay.read same.told none in
        let other_told = are_told otherLeft otherFaults limit others s.sources.items other.replay.tracks s.ends.captures same.contents (other_read count) same.other_told also in
        let first = with_contents replay.replay.tracks same.contents in
        let second = with_contents other.replay.tracks same.contents in
        let bytes : HaveSameBytes first second = record {
          ports = told.ports ∙ same.ports ∙ sym other_told.ports;
          bytes = told.bytes ∙ sym other_told.bytes;
        } in
        let between = same_records limit first second r.ends.captures s.ends.captures told.ended other_told.ended bytes in
        let records : HaveSameRecords replay.replay.tracks other.replay.tracks = record {
          origins = told.same.origins ∙ between.origins ∙ sym other_told.same.origins;
          records = told.same.records ∙ between.records ∙ sym other_told.same.records;
        } in
        let ends : length r.ends.captures ≡ length s.ends.captures =
        sym (end_count left faults limit captures r.sources.items replay.replay.tracks r.ends.captures replay.replay.read)
        ∙ count ∙ end_count otherLeft otherFaults limit others s.sources.items other.replay.tracks s.ends.captures (other_read count) in
        let replayed = same_replay records in
        (replayed, one_report r s replayed.recorded (same_ends limit first second r.ends.captures s.ends.captures told.ended other_told.ended bytes (none_alike r.ends.captures s.ends.captures ends none also)))

  -- there is one replay of the captures' bytes
  pub replays_are_determined : ReplaysAreDetermined left faults otherLeft otherFaults
  replays_are_determined config steps cache captures others r s replay other same = by_bytes config steps cache captures others r s replay other same

  -- and one report of what their sources tell
  pub contents_determine_reports : ContentsDetermineReports left faults otherLeft otherFaults
  contents_determine_reports config steps cache captures others r s replay other same none also = by_contents config steps cache captures others r s replay other same none also
