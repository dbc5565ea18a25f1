-- Lanes that are taken apart: their seats of the lock and their work.
use Rattle.std.proofs.Common.{◌≡◌, ℕ, zero, suc, ◌+◌, ◌<◌, ◌≤◌, List, [], ◌∷◌, ◌++◌, length, map, Some, refl, sym, ap, ◌∙◌, arith, None, Option}
use Rattle.std.proofs.lemmas.List.{map-append}
use Rattle.std.specs.Prelude.{slice_get}
use Rattle.std.specs.List.{AllByRecursion, zip}
use Rattle.atomic_table.specs.Seated.{TableId}
use Rattle.cached_verdicts.specs.LaneCache.{LaneCacheValue}
use Rattle.fw_world.specs.Caches.{counted_before}
use Rattle.fw_world.specs.RecordedHits.{counted_by}
use Rattle.fw_world.specs.declared.lane_work.LaneWork.{LaneWork}
use Rattle.rm_lock.specs.Ends.{EachOnce}
use Rattle.shared_world.specs.Apart.{AreApart, AreNewOf, Seat, counted_in}
use Rattle.shared_world.specs.Closing.{AreLanesFrom}
use Rattle.shared_world.specs.LaneKept.{IsSharedLane}
use Rattle.shared_world.specs.SharedLane.{SharedLane, lane_of, new_lane, plain_lane}
use Rattle.shared_world.specs.Standing.{LaneStandsFor}

-- one lane more is taken apart
pub AreApart-push : (lanes : List SharedLane) (seats : List Seat) (works : List LaneWork) (lane : SharedLane) (seat : Seat) (work : LaneWork)
    → AreApart lanes seats works → lane ≡ lane_of seat.table_id seat.view work → IsSharedLane 0 seat.view work → AreApart (lanes ++ lane ∷ []) (seats ++ seat ∷ []) (works ++ work ∷ [])
AreApart-push [] [] [] lane seat work apart is kept = (is, kept, tt)
AreApart-push [] [] (w ∷ works) lane seat work apart is kept = absurd apart
AreApart-push [] (s ∷ seats) works lane seat work apart is kept = absurd apart
AreApart-push (l ∷ lanes) [] works lane seat work apart is kept = absurd apart
AreApart-push (l ∷ lanes) (s ∷ seats) [] lane seat work apart is kept = absurd apart
AreApart-push (l ∷ lanes) (s ∷ seats) (w ∷ works) lane seat work apart is kept = (apart.0, apart.1, AreApart-push lanes seats works lane seat work apart.2 is kept)

-- there are as many seats
pub seats-many : (lanes : List SharedLane) (seats : List Seat) (works : List LaneWork) → AreApart lanes seats works → length seats ≡ length lanes
seats-many [] [] [] apart = refl
seats-many [] [] (w ∷ works) apart = absurd apart
seats-many [] (s ∷ seats) works apart = absurd apart
seats-many (l ∷ lanes) [] works apart = absurd apart
seats-many (l ∷ lanes) (s ∷ seats) [] apart = absurd apart
seats-many (l ∷ lanes) (s ∷ seats) (w ∷ works) apart = ap suc (seats-many lanes seats works apart.2)

-- and as much work
pub works-many : (lanes : List SharedLane) (seats : List Seat) (works : List LaneWork) → AreApart lanes seats works → length works ≡ length lanes
works-many [] [] [] apart = refl
works-many [] [] (w ∷ works) apart = absurd apart
works-many [] (s ∷ seats) works apart = absurd apart
works-many (l ∷ lanes) [] works apart = absurd apart
works-many (l ∷ lanes) (s ∷ seats) [] apart = absurd apart
works-many (l ∷ lanes) (s ∷ seats) (w ∷ works) apart = ap suc (works-many lanes seats works apart.2)

-- a column of what the lanes did is one of theirs
pub column : {X : Type 0} (f : SharedLane → X) (g : LaneWork → X) → ((table : TableId) (seat : Seat) (work : LaneWork) → f (lane_of table seat.view work) ≡ g work)
    → (lanes : List SharedLane) (seats : List Seat) (works : List LaneWork) → AreApart lanes seats works → map g works ≡ map f lanes
column f g same [] [] [] apart = refl
column f g same [] [] (w ∷ works) apart = absurd apart
column f g same [] (s ∷ seats) works apart = absurd apart
column f g same (l ∷ lanes) [] works apart = absurd apart
column f g same (l ∷ lanes) (s ∷ seats) [] apart = absurd apart
column f g same (l ∷ lanes) (s ∷ seats) (w ∷ works) apart =
    let one : g w ≡ f l = sym (same s.table_id s w) ∙ ap f (sym apart.0) in
    let rest : map g works ≡ map f lanes = column f g same lanes seats works apart.2 in
    cc

-- the seats of a world's lanes are of its lock
pub of_lock : (world : TableId) (place : ℕ) (lanes : List SharedLane) (seats : List Seat) (works : List LaneWork) → AreLanesFrom world place lanes → AreApart lanes seats works → AllByRecursion (λ (seat : Seat). seat.table_id ≡ world) seats
of_lock world place [] [] [] are apart = tt
of_lock world place [] [] (w ∷ works) are apart = absurd apart
of_lock world place [] (s ∷ seats) works are apart = absurd apart
of_lock world place (l ∷ lanes) [] works are apart = absurd apart
of_lock world place (l ∷ lanes) (s ∷ seats) [] are apart = absurd apart
of_lock world place (l ∷ lanes) (s ∷ seats) (w ∷ works) are apart = (sym (ap (λ (lane : SharedLane). lane.world) apart.0) ∙ are.1, of_lock world (place + 1) lanes seats works are.2 apart.2)

-- a seat of theirs has the place of its index, from the first place on
pub placed : (world : TableId) (place : ℕ) (lanes : List SharedLane) (seats : List Seat) (works : List LaneWork) → AreLanesFrom world place lanes → AreApart lanes seats works
    → (j : ℕ) (seat : Seat) → slice_get seats j ≡ Some seat → (seat.view.place ≡ place + j) × (j < length lanes)
placed world place [] [] [] are apart j seat is = cc
placed world place [] [] (w ∷ works) are apart j seat is = absurd apart
placed world place [] (s ∷ seats) works are apart j seat is = absurd apart
placed world place (l ∷ lanes) [] works are apart j seat is = absurd apart
placed world place (l ∷ lanes) (s ∷ seats) [] are apart j seat is = absurd apart
placed world place (l ∷ lanes) (s ∷ seats) (w ∷ works) are apart zero seat is =
    let same : s ≡ seat = cc in
    let at : s.view.place ≡ place = sym (ap (λ (lane : SharedLane). lane.place) apart.0) ∙ are.0 in
    (ap (λ (t : Seat). t.view.place) (sym same) ∙ omega (arith, at), omega arith)
placed world place (l ∷ lanes) (s ∷ seats) (w ∷ works) are apart (suc j) seat is =
    let rest = placed world (place + 1) lanes seats works are.2 apart.2 j seat is in
    (omega (arith, rest.0), omega (arith, rest.1))

-- at each index there is one
pub seat_at : (seats : List Seat) (j : ℕ) → j < length seats → (seat : Seat) × (slice_get seats j ≡ Some seat)
seat_at [] j within = absurd (omega (arith, within))
seat_at (s ∷ seats) zero within = (s, refl)
seat_at (s ∷ seats) (suc j) within = seat_at seats j (omega (arith, within))

-- the seats of all lanes of a world are all seats of its lock, each once
pub each_once : (world : TableId) (lanes : List SharedLane) (seats : List Seat) (works : List LaneWork) (count : ℕ) → AreLanesFrom world 1 lanes → AreApart lanes seats works → length lanes ≡ count → EachOnce count seats
each_once world lanes seats works count are apart many = record {
  all = all;
  within = λ j seat is. let at = placed world 1 lanes seats works are apart j seat is in (omega (arith, at.0), omega (arith, at.0, at.1, many));
  once = λ i j seat other is also same.
      let first = placed world 1 lanes seats works are apart i seat is in
      let second = placed world 1 lanes seats works are apart j other also in
      omega (arith, first.0, second.0, same);
}
  where
    all : (k : ℕ) → 0 < k → k ≤ count → (j : ℕ) × (seat : Seat) × (slice_get seats j ≡ Some seat) × (seat.view.place ≡ k)
    all zero more most = absurd (omega (arith, more))
    all (suc j) more most =
        let there = seat_at seats j (omega (arith, most, many, seats-many lanes seats works apart)) in
        let at = placed world 1 lanes seats works are apart j there.0 there.1 in
        (j, there.0, there.1, omega (arith, at.0))

-- one new lane more
pub AreNewOf-push : (cache : Option ℕ) (seats : List Seat) (lanes : List SharedLane) (seat : Seat) (lane : SharedLane) → AreNewOf cache seats lanes → lane ≡ new_lane seat.table_id cache seat.view.place → LaneStandsFor lane [] → AreNewOf cache (seats ++ seat ∷ []) (lanes ++ lane ∷ [])
AreNewOf-push cache [] [] seat lane are is stands = (is, stands, tt)
AreNewOf-push cache [] (l ∷ lanes) seat lane are is stands = absurd are
AreNewOf-push cache (s ∷ seats) [] seat lane are is stands = absurd are
AreNewOf-push cache (s ∷ seats) (l ∷ lanes) seat lane are is stands = (are.0, are.1, AreNewOf-push cache seats lanes seat lane are.2 is stands)

pub map_itself : {X : Type 0} (xs : List X) → map (λ x. x) xs ≡ xs
map_itself [] = refl
map_itself (x ∷ xs) = ap (λ rest. x ∷ rest) (map_itself xs)

-- a column of what stands first in pairs
pub of_firsts : {X Y Z : Type 0} (f : X → Z) (xs : List X) (ys : List Y) → length ys ≡ length xs → map (λ (pair : X × Y). f pair.0) (zip xs ys) ≡ map f xs
of_firsts f [] [] many = refl
of_firsts f [] (y ∷ ys) many = refl
of_firsts f (x ∷ xs) [] many = absurd (omega (arith, many))
of_firsts f (x ∷ xs) (y ∷ ys) many = ap (λ rest. f x ∷ rest) (of_firsts f xs ys (omega (arith, many)))

-- there are as many new lanes as seats
pub new-many : (cache : Option ℕ) (seats : List Seat) (lanes : List SharedLane) → AreNewOf cache seats lanes → length lanes ≡ length seats
new-many cache [] [] are = refl
new-many cache [] (l ∷ lanes) are = absurd are
new-many cache (s ∷ seats) [] are = absurd are
new-many cache (s ∷ seats) (l ∷ lanes) are = ap suc (new-many cache seats lanes are.2)

-- the hits of one lane more
pub counted_in-append : (works : List LaneWork) (work : LaneWork) → counted_in (works ++ work ∷ []) ≡ counted_in works ++ counted_before work.cache []
counted_in-append [] work = refl
counted_in-append (first ∷ works) work = ap (counted_before first.cache) (counted_in-append works work) ∙ before first.cache
  where
    before : (cache : Option LaneCacheValue) → counted_before cache (counted_in works ++ counted_before work.cache []) ≡ counted_before cache (counted_in works) ++ counted_before work.cache []
    before None = refl
    before (Some own) = refl

-- the hits of what the lanes did are theirs
pub counted-are : (lanes : List SharedLane) (seats : List Seat) (works : List LaneWork) → AreApart lanes seats works → counted_in works ≡ counted_by (map plain_lane lanes)
counted-are [] [] [] apart = refl
counted-are [] [] (w ∷ works) apart = absurd apart
counted-are [] (s ∷ seats) works apart = absurd apart
counted-are (l ∷ lanes) [] works apart = absurd apart
counted-are (l ∷ lanes) (s ∷ seats) [] apart = absurd apart
counted-are (l ∷ lanes) (s ∷ seats) (w ∷ works) apart =
    ap (counted_before w.cache) (counted-are lanes seats works apart.2)
    ∙ ap (λ (lane : SharedLane). counted_before lane.cache (counted_by (map plain_lane lanes))) (sym apart.0)

-- there are as many pairs
pub zip-length : {X Y : Type 0} (xs : List X) (ys : List Y) → length ys ≡ length xs → length (zip xs ys) ≡ length xs
zip-length [] ys many = refl
zip-length (x ∷ xs) [] many = absurd (omega (arith, many))
zip-length (x ∷ xs) (y ∷ ys) many = ap suc (zip-length xs ys (omega (arith, many)))

-- a column of one lane more
pub one_more : {X Y : Type 0} (f : X → Y) (column : List Y) (entries : List X) (entry : X) → column ≡ map f entries → column ++ f entry ∷ [] ≡ map f (entries ++ entry ∷ [])
one_more f column entries entry is = ap (λ some. some ++ f entry ∷ []) is ∙ sym (map-append f entries (entry ∷ []))
