-- Lanes that are taken apart when their world closes.
use Rattle.std.specs.Prelude.{◌≡◌, ℕ, ⊤, Option, List, [], ◌∷◌}
use Rattle.fw_world.specs.Caches.{counted_before}
use Rattle.fw_world.specs.declared.lane_work.LaneWork.{LaneWork}
use Rattle.rm_lock.specs.Tokens.{TokenState}
use Rattle.rule_chain.specs.Configuration.{Configuration}
use Rattle.state_asks.specs.declared.facts.Facts.{Facts}
use Rattle.state_journal.specs.Journal.{Journal}
use Rattle.state_journal.specs.declared.entry.Item.{Item}
use Rattle.shared_world.specs.Known.{SharedEdition}
use Rattle.shared_world.specs.LaneKept.{IsSharedLane}
use Rattle.shared_world.specs.SharedLane.{SharedLane, lane_of, new_lane}
use Rattle.shared_world.specs.Standing.{LaneStandsFor}

-- what contracts see of a processor
abbrev pub Seat : Type 0
Seat = TokenState SharedEdition Journal Facts Configuration Item

-- these lanes have these seats of the lock, and have done this work, in order
abbrev pub AreApart : List SharedLane → List Seat → List LaneWork → Type 0
AreApart [] [] [] = ⊤
AreApart [] [] (work ∷ works) = ⊥
AreApart [] (seat ∷ seats) works = ⊥
AreApart (lane ∷ lanes) [] works = ⊥
AreApart (lane ∷ lanes) (seat ∷ seats) [] = ⊥
AreApart (lane ∷ lanes) (seat ∷ seats) (work ∷ works) = (lane ≡ lane_of seat.table_id seat.view work) × IsSharedLane 0 seat.view work × AreApart lanes seats works

-- the hits that these caches have counted
abbrev pub counted_in : List LaneWork → List ℕ
counted_in [] = []
counted_in (work ∷ works) = counted_before work.cache (counted_in works)

-- These are new lanes of these seats, in order, each with a cache for so many verdicts or with none, and each of
-- which stands for no input.
abbrev pub AreNewOf : Option ℕ → List Seat → List SharedLane → Type 0
AreNewOf cache [] [] = ⊤
AreNewOf cache [] (lane ∷ lanes) = ⊥
AreNewOf cache (seat ∷ seats) [] = ⊥
AreNewOf cache (seat ∷ seats) (lane ∷ lanes) = (lane ≡ new_lane seat.table_id cache seat.view.place) × LaneStandsFor lane [] × AreNewOf cache seats lanes
