-- What a worker does: it reads one capture to its end, and its lane meets each record.
use Rattle.std.specs.Prelude.{◌≡◌, ℕ, ◌≤◌, None, Option, List, [], ◌++◌, map}
use Rattle.atomic_table.specs.Seated.{TableId}
use Rattle.capture_tracks.specs.Reading as reading
use Rattle.capture_tracks.specs.Reading.{Origin, IsRead, input_of, track_inputs}
use Rattle.capture_tracks.specs.Tracks.{IsTrack, IsSettled, held_record_of}
use Rattle.capture_tracks.specs.declared.opened.OpenedCapture.{OpenedCapture}
use Rattle.fw_world.specs.Caches.{capacity_of, IsPortFor}
use Rattle.pcap_read.specs.Reading.{Captured}
use Rattle.shared_world.specs.Standing.{LaneStandsFor}
use Rattle.live_replay.specs.Posted.{IsPosted}
use Rattle.live_replay.specs.declared.task.Finished.{Finished}
use Rattle.live_replay.specs.declared.task.Post.{Post}
use Rattle.live_replay.specs.declared.task.Task.{Task}

-- A task that nothing was done of: its lane is one of this world, has met no packet and stands for no input.
pub record IsReady {S : Type 0} (world : TableId) (task : Task S) : Type 0 where
  pub posted : IsPosted world task.lane
  pub at_port : IsPortFor task.lane.cache task.opened.port
  pub stands : LaneStandsFor task.lane []
  pub some : 1 ≤ task.limit
  pub most : task.limit ≤ 4194304

-- Which capture a worker is at: how many records are read of it at most, where it was taken, the place of the
-- lane that meets them, and for how many verdicts the lane's cache has room, if it has one.
pub record Assigned (S : Type 0) : Type 0 where
  pub limit : ℕ
  pub opened : OpenedCapture S
  pub origin : Origin
  pub place : ℕ
  pub cache : Option ℕ

module _ {S : Type 0} (left : S → Option (List ℕ)) (faults : S → ℕ) where
  -- These records of that capture were met by this lane, and those behind them are still to come.
  pub record IsAtWork (world : TableId) (at : Assigned S) (done : List Captured) (post : Post S) : Type 0 where
    pub posted : IsPosted world post.lane
    pub place : post.lane.place ≡ at.place
    pub room : capacity_of post.lane.cache ≡ at.cache
    pub at_port : IsPortFor post.lane.cache at.opened.port
    pub tracked : IsTrack left faults at.limit at.opened post.track done at.origin
    pub settled : IsSettled left faults post.track
    pub stands : LaneStandsFor post.lane (map (input_of at.origin.link at.origin.port) done)

  -- some records of some capture were met
  pub record HasWork (world : TableId) (post : Post S) : Type 0 where
    pub at : Assigned S
    pub done : List Captured
    pub at_work : IsAtWork world at done post

  -- more records were met, whatever was met before
  pub record MeetsMore (world : TableId) (at : Assigned S) (done : List Captured) (post : Post S) : Type 0 where
    pub more : List Captured
    pub at_work : IsAtWork world at (done ++ more) post

  -- records of its capture were met, of whichever it is
  abbrev pub TakesMore : TableId → Post S → Post S → Type 0
  TakesMore world old new = (at : Assigned S) (done : List Captured) → IsAtWork world at done old → MeetsMore world at done new

  -- all records of its capture were met
  pub record TakesAll (world : TableId) (old new : Post S) : Type 0 where
    pub takes : TakesMore world old new
    pub none : held_record_of new.track ≡ None

  -- The capture was read to its end or its fault, and its lane, which is at its post with as much room in its
  -- cache, stands for its records.
  pub record Finishes (world : TableId) (task : Task S) (finished : Finished S) : Type 0 where
    pub told : reading.Track
    pub port : told.port ≡ task.opened.port
    pub read : IsRead left faults task.limit task.opened.source finished.source told finished.end
    pub posted : IsPosted world finished.lane
    pub place : finished.lane.place ≡ task.lane.place
    pub room : capacity_of finished.lane.cache ≡ capacity_of task.lane.cache
    pub stands : LaneStandsFor finished.lane (track_inputs told)
