-- A worker: a record more, and all of them.
use Rattle.std.proofs.Common.{◌≡◌, ℕ, ◌<◌, Option, Some, None, List, [], ◌∷◌, ◌++◌, map, refl, sym, ap, subst, ◌∙◌, append_assoc}
use Rattle.std.specs.Option.{option_map}
use Rattle.std.proofs.lemmas.List.{map-append, append-nil}
use Rattle.atomic_table.specs.Seated.{TableId}
use Rattle.capture_tracks.specs.Reading.{Origin, IsRead, input_of, track_inputs, input_for}
use Rattle.capture_tracks.specs.Tracks.{Begins, GoesFurther, IsTrack, end_of, held_in, held_record_of, room_of, source_at}
use Rattle.capture_tracks.specs.declared.opened.OpenedCapture.{OpenedCapture}
use Rattle.capture_tracks.specs.declared.track.Track.{Track}
use Rattle.capture_tracks.specs.declared.track.Track.TheVariants.{Open, Refused}
use Rattle.capture_tracks.proofs.Ended.{told-track}
use Rattle.capture_tracks.proofs.Origins.{origin-open}
use Rattle.report_texts.specs.declared.capture_end.CaptureEnd.{CaptureEnd}
use Rattle.fw_base.specs.declared.port.Port.{Port}
use Rattle.fw_world.specs.Caches.{capacity_of, IsPortFor}
use Rattle.fw_world.specs.Inputs.{Input}
use Rattle.ip6_headers.specs.Reading.{read_any}
use Rattle.ip6_headers.specs.declared.any_packet.AnyPacket.{AnyPacket}
use Rattle.ip6_headers.specs.declared.any_packet.AnyPacket.TheVariants as any
use Rattle.pcap_read.specs.Reading.{Captured}
use Rattle.shared_world.specs.SharedLane.{SharedLane}
use Rattle.shared_world.specs.Standing.{LaneStandsFor}
use Rattle.live_replay.specs.Posted.{IsPosted, TakesInput, IsCapturedAt}
use Rattle.capture_tracks.specs.Taken.{IsTakenAt, held_input}
use Rattle.live_replay.specs.Work.{IsReady, Assigned, IsAtWork, HasWork, MeetsMore, TakesMore, TakesAll, Finishes}
use Rattle.live_replay.specs.declared.task.Finished.{Finished}
use Rattle.live_replay.specs.declared.task.Post.{Post}
use Rattle.live_replay.specs.declared.task.Task.{Task}

-- a capture's track and its lane
post : {S : Type 0} → Track S → SharedLane → Post S
post track lane = record { track = track; lane = lane }

-- an input was captured where its record was
captured_at : (port : Port) (second : ℕ) (packet : AnyPacket) → IsCapturedAt port (input_for port second packet)
captured_at port second any.Other = tt
captured_at port second (any.Malformed kind) = tt
captured_at port second (any.Ip ip) = refl

module _ {S : Type 0} (left : S → Option (List ℕ)) (faults : S → ℕ) where
  -- a record that a track holds is an input of its capture
  record Holds (limit : ℕ) (opened : OpenedCapture S) (track : Track S) (done : List Captured) (origin : Origin) (input : Input) : Type 0 where
    taken : Captured
    held : held_record_of track ≡ Some taken
    input_is : input ≡ input_of origin.link origin.port taken
    captured : IsCapturedAt opened.port input

  holds : (limit : ℕ) (opened : OpenedCapture S) (track : Track S) (done : List Captured) (origin : Origin) (input : Input) → held_input track ≡ Some input → IsTrack left faults limit opened track done origin → Holds limit opened track done origin input
  holds limit opened (Refused source end) done origin input is tracked = cc
  holds limit opened (Open track) done origin input is tracked = found (held_in track) refl
    where
      found : (o : Option Captured) → held_in track ≡ o → Holds limit opened (Open track) done origin input
      found None none =
          let never : None ≡ Some input = sym (ap (option_map (input_of track.capture.format.link track.port)) none) ∙ is in
          cc
      found (Some r) some =
          let here : Some (input_of track.capture.format.link track.port r) ≡ Some input = sym (ap (option_map (input_of track.capture.format.link track.port)) some) ∙ is in
          let same : input ≡ input_of track.capture.format.link track.port r = cc in
          record {
            taken = r;
            held = some;
            input_is = same ∙ sym (ap (λ (o : Origin). input_of o.link o.port r) (origin-open left faults limit opened track done origin r some tracked));
            captured = subst (λ (i : Input). IsCapturedAt opened.port i) (sym same) (subst (λ (p : Port). IsCapturedAt p (input_of track.capture.format.link track.port r)) tracked.0 (captured_at track.port r.second (read_any track.capture.format.link r.bytes)));
          }

  -- nothing more was met
  meets_none : (world : TableId) (at : Assigned S) (done : List Captured) (p : Post S) → IsAtWork left faults world at done p → MeetsMore left faults world at done p
  meets_none world at done p work = record { more = []; at_work = subst (λ records. IsAtWork left faults world at records p) (sym (append-nil done)) work }

  -- nothing was met
  pub takes_none : (world : TableId) (p : Post S) → TakesMore left faults world p p
  takes_none world p at done work = meets_none world at done p work

  -- a record was met by its lane, and the track went on
  meets_one : (world : TableId) (at : Assigned S) (done : List Captured) (old new : Track S) (lane after : SharedLane) (input : Input) → held_input old ≡ Some input → GoesFurther left faults old new → TakesInput world input lane after
      → IsAtWork left faults world at done (record { track = old; lane = lane }) → MeetsMore left faults world at done (record { track = new; lane = after }) × (room_of new < room_of old)
  meets_one world at done old new lane after input is goes takes work =
      let h = holds at.limit at.opened old done at.origin input is work.tracked in
      let on = goes.goes at.limit at.opened done at.origin h.taken h.held work.tracked in
      let link = at.origin.link in
      let inputs = map (input_of link at.origin.port) done in (
        record {
          more = h.taken ∷ [];
          at_work = record {
            posted = takes.posted;
            place = takes.place ∙ work.place;
            room = takes.room ∙ work.room;
            at_port = takes.at_port at.opened.port h.captured work.at_port;
            tracked = on.0;
            settled = on.1;
            stands = subst (λ own. LaneStandsFor after own) (ap (λ (i : Input). inputs ++ i ∷ []) h.input_is ∙ sym (map-append (input_of link at.origin.port) done (h.taken ∷ []))) (takes.stands inputs work.stands);
          };
        },
        on.2,
      )

  -- what is met behind what was met
  then_more : (world : TableId) (at : Assigned S) (done : List Captured) (p q : Post S) → MeetsMore left faults world at done p → TakesMore left faults world p q → MeetsMore left faults world at done q
  then_more world at done p q first takes =
      let next = takes at (done ++ first.more) first.at_work in
      record { more = first.more ++ next.more; at_work = subst (λ records. IsAtWork left faults world at records q) (append_assoc done first.more next.more) next.at_work }

  -- a record more
  pub takes_one : (world : TableId) (first : Post S) (old new : Track S) (lane after : SharedLane) (input : Input) → held_input old ≡ Some input → GoesFurther left faults old new → TakesInput world input lane after
      → TakesMore left faults world first (record { track = old; lane = lane }) → TakesMore left faults world first (record { track = new; lane = after })
  takes_one world first old new lane after input is goes takes before at done work =
      then_more world at done (record { track = old; lane = lane }) (record { track = new; lane = after }) (before at done work) (λ here records there. (meets_one world here records old new lane after input is goes takes there).0)

  -- some work is left behind it
  pub work_after : (world : TableId) (old new : Track S) (lane after : SharedLane) (input : Input) → held_input old ≡ Some input → GoesFurther left faults old new → TakesInput world input lane after
      → HasWork left faults world (record { track = old; lane = lane }) → HasWork left faults world (record { track = new; lane = after })
  work_after world old new lane after input is goes takes work =
      let met = (meets_one world work.at work.done old new lane after input is goes takes work.at_work).0 in
      record { at = work.at; done = work.done ++ met.more; at_work = met.at_work }

  -- and the track has less room
  pub room_falls : (world : TableId) (old new : Track S) (lane after : SharedLane) (input : Input) → held_input old ≡ Some input → GoesFurther left faults old new → TakesInput world input lane after
      → HasWork left faults world (record { track = old; lane = lane }) → room_of new < room_of old
  room_falls world old new lane after input is goes takes work = (meets_one world work.at work.done old new lane after input is goes takes work.at_work).1

  -- a track whose lane meets nothing holds no record
  pub holds_none : (track : Track S) → held_input track ≡ None → held_record_of track ≡ None
  holds_none (Refused source end) is = refl
  holds_none (Open track) is = found (held_in track) refl
    where
      found : (o : Option Captured) → held_in track ≡ o → held_in track ≡ None
      found None none = none
      found (Some r) some =
          let never : Some (input_of track.capture.format.link track.port r) ≡ None = sym (ap (option_map (input_of track.capture.format.link track.port)) some) ∙ is in
          cc

  -- a task that begins
  assigned : (task : Task S) (track : Track S) → Begins left faults task.limit task.opened track → Assigned S
  assigned task track begins = record { limit = task.limit; opened = task.opened; origin = begins.origin; place = task.lane.place; cache = capacity_of task.lane.cache }

  begins_at_work : (world : TableId) (task : Task S) (track : Track S) → IsReady world task → (begins : Begins left faults task.limit task.opened track) → IsAtWork left faults world (assigned task track begins) [] (record { track = track; lane = task.lane })
  unfolding assigned
  begins_at_work world task track ready begins = record { posted = ready.posted; place = refl; room = refl; at_port = ready.at_port; tracked = begins.begun; settled = begins.settled; stands = ready.stands }

  pub begins_work : (world : TableId) (task : Task S) (track : Track S) → IsReady world task → Begins left faults task.limit task.opened track → HasWork left faults world (record { track = track; lane = task.lane })
  begins_work world task track ready begins = record { at = assigned task track begins; done = []; at_work = begins_at_work world task track ready begins }

  -- a task that was carried out
  pub finishes_task : (world : TableId) (task : Task S) (track last : Track S) (lane : SharedLane) (finished : Finished S) → IsReady world task → Begins left faults task.limit task.opened track
      → TakesAll left faults world (record { track = track; lane = task.lane }) (record { track = last; lane = lane })
      → finished.lane ≡ lane → finished.source ≡ source_at last → finished.end ≡ end_of last → Finishes left faults world task finished
  unfolding assigned
  finishes_task world task track last lane finished ready begins takes lane-is source-is end-is =
      let met = takes.takes (assigned task track begins) [] (begins_at_work world task track ready begins) in
      let here = met.at_work in
      let all = told-track left faults task.limit task.opened last met.more begins.origin takes.none here.settled here.tracked in
      let inputs : map (input_of begins.origin.link begins.origin.port) met.more ≡ track_inputs all.told =
      ap (map (input_of begins.origin.link begins.origin.port)) (sym all.records)
      ∙ ap (λ (port : _). map (input_of begins.origin.link port) all.told.records) (sym (ap (λ (o : Origin). o.port) all.origin_is))
      ∙ ap (λ (link : _). map (input_of link all.told.port) all.told.records) (sym (ap (λ (o : Origin). o.link) all.origin_is)) in
      record {
        told = all.told;
        port = all.port;
        read = subst (λ s. IsRead left faults task.limit task.opened.source s all.told finished.end) (sym source-is) (subst (λ (e : CaptureEnd). IsRead left faults task.limit task.opened.source (source_at last) all.told e) (sym end-is) all.read);
        posted = subst (λ (l : SharedLane). IsPosted world l) (sym lane-is) here.posted;
        place = ap (λ (l : SharedLane). l.place) lane-is ∙ here.place;
        room = ap (λ (l : SharedLane). capacity_of l.cache) lane-is ∙ here.room;
        stands = subst (λ (l : SharedLane). LaneStandsFor l (track_inputs all.told)) (sym lane-is) (subst (λ (own : List Input). LaneStandsFor lane own) inputs here.stands);
      }

  taken_port : (limit : ℕ) (opened : OpenedCapture S) (track : Track S) (done : List Captured) (origin : Origin) (port : Port) → IsTrack left faults limit opened track done origin → IsTakenAt track port → port ≡ opened.port
  taken_port limit opened (Open track) done origin port tracked at = sym at ∙ tracked.0
  taken_port limit opened (Refused source end) done origin port tracked at = absurd at

  -- the lane may judge packets of its capture
  pub work_port : (world : TableId) (track : Track S) (lane : SharedLane) (port : Port) → HasWork left faults world (record { track = track; lane = lane }) → IsTakenAt track port → IsPortFor lane.cache port
  work_port world track lane port work at =
      subst (λ (p : Port). IsPortFor lane.cache p) (sym (taken_port work.at.limit work.at.opened track work.done work.at.origin port work.at_work.tracked at)) work.at_work.at_port
