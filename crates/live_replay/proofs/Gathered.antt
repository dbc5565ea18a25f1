-- Tasks, and what comes of them, in the order of their places.
use Rattle.std.proofs.Common.{◌≡◌, ℕ, suc, ◌+◌, ◌<◌, ◌≤◌, Option, Some, None, Ok, Result, List, [], ◌∷◌, ◌++◌, All, map, length, refl, sym, ap, subst, ◌∙◌, arith}
use Rattle.std.specs.Prelude.{IfOk, slice_index_or}
use Rattle.std.specs.List.{AllByRecursion, zip}
use Rattle.std.proofs.lemmas.List.{map-append}
use Rattle.std.proofs.lemmas.List.Elements.{All-from_recursion}
use Rattle.atomic_table.specs.Seated.{TableId}
use Rattle.capture_tracks.specs.declared.opened.OpenedCapture.{OpenedCapture}
use Rattle.fw_base.specs.declared.failure.OutOfMemory.{OutOfMemory}
use Rattle.fw_base.specs.declared.port.Port.{Port}
use Rattle.fw_world.proofs.Arranging.{stand-own}
use Rattle.fw_world.specs.Caches.{IsPortFor, capacity_of, first_cache}
use Rattle.shared_world.specs.Closing.{AreNewLanes, AreLanesFrom, AreLanesOf, EachHasRoom}
use Rattle.shared_world.specs.SharedLane.{SharedLane}
use Rattle.live_replay.specs.Crew.{ArePostedFrom, EachFinishes, tasks_of, lanes_of}
use Rattle.live_replay.specs.Work.{IsReady, Finishes}
use Rattle.live_replay.specs.declared.task.Finished.{Finished}
use Rattle.live_replay.specs.declared.task.Task.{Task}

-- a list, each element as it is
pub map_itself : {X : Type 0} (xs : List X) → map (λ x. x) xs ≡ xs
map_itself [] = refl
map_itself (x ∷ xs) = ap (λ rest. x ∷ rest) (map_itself xs)

-- one result more that is a value
pub values_pushed : {X E : Type 0} (results : List (Result X E)) (values pushed : List X) (result : Result X E) (value : X) → results ≡ map Ok values → result ≡ Ok value → pushed ≡ values ++ value ∷ [] → results ++ result ∷ [] ≡ map Ok pushed
values_pushed {X} {E} results values pushed result value are is more =
    ap (λ (rs : List (Result X E)). rs ++ result ∷ []) are ∙ ap (λ (r : Result X E). map Ok values ++ r ∷ []) is ∙ sym (map-append Ok values (value ∷ [])) ∙ ap (map Ok) (sym more)

-- a new cache is for packets of any port
new_port : (cache : Option ℕ) (port : Port) → IsPortFor (first_cache cache) port
new_port None port = tt
new_port (Some room) port = tt

-- a new cache has the room that it was asked for
pub new_room : (cache : Option ℕ) → capacity_of (first_cache cache) ≡ cache
new_room None = refl
new_room (Some room) = refl

-- lanes at their posts are those of their world in the order of their places
pub posted_lanes : (world : TableId) (place : ℕ) (lanes : List SharedLane) → ArePostedFrom world place lanes → AreLanesFrom world place lanes
posted_lanes world place [] posted = tt
posted_lanes world place (lane ∷ lanes) posted = (posted.0, posted.1.of_world, posted_lanes world (place + 1) lanes posted.2)

-- and no section of one is loose
pub none_loose : (world : TableId) (place : ℕ) (lanes : List SharedLane) → ArePostedFrom world place lanes → AllByRecursion (λ (lane : SharedLane). lane.loose ≡ 0) lanes
none_loose world place [] posted = tt
none_loose world place (lane ∷ lanes) posted = (posted.1.clean, none_loose world (place + 1) lanes posted.2)

-- such lanes can be closed
pub closing_lanes : (world : TableId) (lanes own : List SharedLane) → own ≡ lanes → ArePostedFrom world 1 lanes → AreLanesOf world own lanes
closing_lanes world lanes own same posted =
    subst (λ (ls : List SharedLane). AreLanesOf world ls lanes) (sym same) (stand-own (λ (lane : SharedLane). lane.place) (λ (lane : SharedLane). lane.world ≡ world) 1 lanes (posted_lanes world 1 lanes posted))

-- they have as much room
pub closing_room : (cache : Option ℕ) (lanes own : List SharedLane) → own ≡ lanes → EachHasRoom cache lanes → EachHasRoom cache own
closing_room cache lanes own same room = subst (λ (ls : List SharedLane). EachHasRoom cache ls) (sym same) room

-- none of them is loose
pub closing_loose : (world : TableId) (lanes own : List SharedLane) → own ≡ lanes → ArePostedFrom world 1 lanes → AllByRecursion (λ (lane : SharedLane). lane.loose ≡ 0) own
closing_loose world lanes own same posted = subst (λ (ls : List SharedLane). AllByRecursion (λ (lane : SharedLane). lane.loose ≡ 0) ls) (sym same) (none_loose world 1 lanes posted)

module _ {S : Type 0} where
  -- a task of a capture and its lane
  abbrev pub task_of : ℕ → OpenedCapture S × SharedLane → Task S
  task_of limit pair = record { opened = pair.0; limit = limit; lane = pair.1 }

  -- the tasks of captures and lanes side by side
  pub tasks_zipped : (limit : ℕ) (captures : List (OpenedCapture S)) (lanes : List SharedLane) → map (task_of limit) (zip captures lanes) ≡ tasks_of limit captures lanes
  tasks_zipped limit [] lanes = refl
  tasks_zipped limit (opened ∷ captures) [] = refl
  tasks_zipped limit (opened ∷ captures) (lane ∷ lanes) = ap (λ rest. task_of limit (opened, lane) ∷ rest) (tasks_zipped limit captures lanes)

  new_ready : (cache : Option ℕ) (world : TableId) (place limit : ℕ) (captures : List (OpenedCapture S)) (lanes : List SharedLane) → 1 ≤ limit → limit ≤ 4194304 → AreNewLanes world cache place lanes → AllByRecursion (IsReady world) (tasks_of limit captures lanes)
  new_ready cache world place limit [] lanes some most new = tt
  new_ready cache world place limit (opened ∷ captures) [] some most new = tt
  new_ready cache world place limit (opened ∷ captures) (lane ∷ lanes) some most new = (
    record {
      posted = record { of_world = ap (λ (l : SharedLane). l.world) new.0; heeded = ap (λ (l : SharedLane). l.refusal) new.0; clean = ap (λ (l : SharedLane). l.loose) new.0 };
      at_port = subst (λ (l : SharedLane). IsPortFor l.cache opened.port) (sym new.0) (new_port cache opened.port);
      stands = new.1;
      some = some;
      most = most;
    },
    new_ready cache world (place + 1) limit captures lanes some most new.2,
  )

  -- tasks of new lanes are ready
  pub tasks_ready : (cache : Option ℕ) (world : TableId) (limit : ℕ) (captures : List (OpenedCapture S)) (lanes : List SharedLane) (tasks : List (Task S)) → 1 ≤ limit → limit ≤ 4194304 → AreNewLanes world cache 1 lanes → tasks ≡ tasks_of limit captures lanes → All (IsReady world) tasks
  tasks_ready cache world limit captures lanes tasks some most new are =
      subst (λ (ts : List (Task S)). All (IsReady world) ts) (sym are) (All-from_recursion (IsReady world) (tasks_of limit captures lanes) (new_ready cache world 1 limit captures lanes some most new))

  -- there are as many lanes as finished
  pub length_lanes : (finished : List (Finished S)) → length (lanes_of finished) ≡ length finished
  length_lanes [] = refl
  length_lanes (f ∷ finished) = let rest = length_lanes finished in omega arith

  module _ (left : S → Option (List ℕ)) (faults : S → ℕ) where
    -- what a thread gave for a task
    abbrev pub GivesFor : TableId → List (Task S) → List (Result (Finished S) OutOfMemory) → Type 0
    GivesFor world tasks results = (i : ℕ) (d : Result (Finished S) OutOfMemory) → i < length tasks → (job : Task S) × ((e : Task S) → slice_index_or tasks i e ≡ job) × IfOk (slice_index_or results i d) (Finishes left faults world job)

    -- what the threads gave, task by task
    pub each_finishes : (world : TableId) (tasks : List (Task S)) (finished : List (Finished S)) → length finished ≡ length tasks → GivesFor world tasks (map Ok finished) → EachFinishes left faults world tasks finished
    each_finishes world [] [] same gives = tt
    each_finishes world [] (f ∷ finished) same gives = absurd (omega arith)
    each_finishes world (task ∷ tasks) [] same gives = absurd (omega arith)
    each_finishes world (task ∷ tasks) (f ∷ finished) same gives =
        let (job, is, given) = gives 0 (Ok f) (omega arith) in
        let task_is : task ≡ job = is task in
        (subst (λ (t : Task S). Finishes left faults world t f) (sym task_is) given, each_finishes world tasks finished (omega arith) (λ i d within. gives (suc i) d (omega arith)))
