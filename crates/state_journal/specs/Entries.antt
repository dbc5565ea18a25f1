-- What stands in a journal: publications, and asks of lanes.
use Rattle.std.specs.Prelude.{ℕ, ◌≤◌, ⊤, List, [], ◌∷◌}
use Rattle.std.specs.List.{AllByRecursion}
use Rattle.state_asks.specs.Flags.{HasKeptFlags}
use Rattle.state_journal.specs.declared.entry.Entry.{Entry}
use Rattle.state_journal.specs.declared.entry.Entry.TheVariants.{Publish, Ask}

-- an ask is of one of so many lanes
abbrev pub IsOfLanes : ℕ → Entry → Type 0
IsOfLanes lanes (Publish number) = ⊤
IsOfLanes lanes (Ask lane op reply at) = (1 ≤ lane) × (lane ≤ lanes)

-- each ask is of one of so many lanes
abbrev pub AreOfLanes : ℕ → List Entry → Type 0
AreOfLanes lanes entries = AllByRecursion (IsOfLanes lanes) entries

-- an ask has no flags but FIN, SYN and RST
abbrev pub AsksKeptFlags : Entry → Type 0
AsksKeptFlags (Publish number) = ⊤
AsksKeptFlags (Ask lane op reply at) = HasKeptFlags op

-- the numbers of the publications, in order
abbrev pub publications : List Entry → List ℕ
publications [] = []
publications (Publish number ∷ entries) = number ∷ publications entries
publications (Ask lane op reply at ∷ entries) = publications entries

-- the number of the last publication among these entries, or this one where there is none
abbrev pub last_number : ℕ → List Entry → ℕ
last_number after [] = after
last_number after (Publish number ∷ entries) = last_number number entries
last_number after (Ask lane op reply at ∷ entries) = last_number after entries
