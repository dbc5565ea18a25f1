-- What callers of a world of one lane or of two know of its lanes.
use Rattle.std.proofs.Common.{◌≡◌, ℕ, Option, Some, None, List, [], ◌∷◌, ◌++◌, length, length-append, sym, ◌∙◌, ap, subst, arith, IsPermutation}
use Rattle.std.proofs.lemmas.List.Sorted.{IsPermutation-middle}
use Rattle.atomic_table.specs.Seated.{TableId}
use Rattle.fw_base.specs.declared.port.Port.{Port}
use Rattle.fw_world.specs.Caches.{IsPortFor, first_cache}
use Rattle.fw_world.proofs.Arranging.{places-stand, stand-own}
use Rattle.shared_world.specs.Closing.{AreNewLanes, AreLanesFrom, AreLanesOf}
use Rattle.shared_world.specs.SharedLane.{SharedLane, new_lane}
use Rattle.world_tests.specs.Lanes.{IsLaneAt}

-- the only one of a list
last_of_one : (a : SharedLane) (others : List SharedLane) (x : SharedLane) → a ∷ [] ≡ others ++ x ∷ [] → x ≡ a
last_of_one a [] x e = cc
last_of_one a (z ∷ zs) x e = let l = ap (λ (ts : List SharedLane). length ts) e in let m = length-append zs (x ∷ []) in absurd (omega arith)

-- the two of a list, the last of which is taken first
last_of_two : (a b : SharedLane) (others : List SharedLane) (y x : SharedLane) → a ∷ b ∷ [] ≡ (others ++ y ∷ []) ++ x ∷ [] → (y ≡ a) × (x ≡ b)
last_of_two a b [] y x e = (cc, cc)
last_of_two a b (z ∷ zs) y x e = let l = ap (λ (ts : List SharedLane). length ts) e in let m = length-append (zs ++ y ∷ []) (x ∷ []) in let k = length-append zs (y ∷ []) in absurd (omega arith)

-- a new cache is for packets of any port
new_port : (cache : Option ℕ) (port : Port) → IsPortFor (first_cache cache) port
new_port None port = tt
new_port (Some room) port = tt

-- a new lane may judge packets of any port
placed : (world : TableId) (cache : Option ℕ) (place : ℕ) (port : Port) (lane : SharedLane) → lane ≡ new_lane world cache place → IsLaneAt world place port lane
placed world cache place port lane is =
    (ap (λ (l : SharedLane). l.world) is, ap (λ (l : SharedLane). l.place) is, subst (λ (l : SharedLane). IsPortFor l.cache port) (sym is) (new_port cache port))

-- the lane that is taken off a list of one new lane
pub only_lane : (world : TableId) (cache : Option ℕ) (port : Port) (lanes others : List SharedLane) (lane : SharedLane) → AreNewLanes world cache 1 lanes → length lanes ≡ 1 → lanes ≡ others ++ lane ∷ [] → IsLaneAt world 1 port lane
only_lane world cache port [] others lane new one popped = absurd cc
only_lane world cache port (a ∷ []) others lane new one popped = placed world cache 1 port lane (last_of_one a others lane popped ∙ new.0)
only_lane world cache port (a ∷ b ∷ more) others lane new one popped = absurd (omega arith)

-- the lanes that are taken off a list of two new lanes, the last of which is taken first
pub both_lanes : (world : TableId) (cache : Option ℕ) (port : Port) (lanes left others : List SharedLane) (first second : SharedLane) → AreNewLanes world cache 1 lanes → length lanes ≡ 2 → lanes ≡ left ++ second ∷ [] → left ≡ others ++ first ∷ []
    → IsLaneAt world 1 port first × IsLaneAt world 2 port second
both_lanes world cache port [] left others first second new two popped again = absurd cc
both_lanes world cache port (a ∷ []) left others first second new two popped again = absurd (omega arith)
both_lanes world cache port (a ∷ b ∷ []) left others first second new two popped again =
    let are = last_of_two a b others first second (popped ∙ ap (λ (ls : List SharedLane). ls ++ second ∷ []) again) in
    (placed world cache 1 port first (are.0 ∙ new.0), placed world cache 2 port second (are.1 ∙ new.2.0))
both_lanes world cache port (a ∷ b ∷ c ∷ more) left others first second new two popped again = absurd (omega arith)

-- a list of the lane of place 1 has each lane of a world of one lane once
pub one_each : (world : TableId) (port : Port) (lane : SharedLane) (lanes : List SharedLane) → lanes ≡ lane ∷ [] → IsLaneAt world 1 port lane → (ordered : List SharedLane) × AreLanesOf world lanes ordered
one_each world port lane lanes are at =
    (lanes, stand-own (λ (l : SharedLane). l.place) (λ (l : SharedLane). l.world ≡ world) 1 lanes (subst (λ (ls : List SharedLane). AreLanesFrom world 1 ls) (sym are) (at.1, at.0, tt)))

-- a list of the lanes of places 2 and 1 has each lane of a world of two lanes once
pub two_each : (world : TableId) (port : Port) (first second : SharedLane) (lanes : List SharedLane) → lanes ≡ second ∷ first ∷ [] → IsLaneAt world 1 port first → IsLaneAt world 2 port second → (ordered : List SharedLane) × AreLanesOf world lanes ordered
two_each world port first second lanes are at behind =
    let ordered : List SharedLane = first ∷ second ∷ [] in
    let turned : IsPermutation lanes ordered = subst (λ (ls : List SharedLane). IsPermutation ls ordered) (sym are) (IsPermutation-middle (second ∷ []) first []) in
    (ordered, places-stand (λ (l : SharedLane). l.place) (λ (l : SharedLane). l.world ≡ world) 1 lanes ordered (at.1, at.0, (behind.1, behind.0, tt)) turned)
