-- Whole runs of the core of a read-mostly lock, rmlock(9), and what a processor knows in them.
use Rattle.std.specs.Prelude.{⊤, ℕ, ◌==◌, Bool, true, false, ◌&&◌, if◌then◌else◌, List, [], ◌∷◌, count_by}
use Rattle.rm_core.specs.declared.event.Heard.{Heard}
use Rattle.rm_core.specs.declared.event.Heard.TheVariants.{Held}
use Rattle.rm_core.specs.declared.event.Event.{Event}
use Rattle.rm_core.specs.declared.event.Event.TheVariants.{Check, Regain, Publish}
use Rattle.rm_core.specs.CoreState.{CoreState, MayCome, after, step_answer}

-- each step may come where it comes
abbrev pub IsLockRun : CoreState → List Event → Type 0
IsLockRun s [] = ⊤
IsLockRun s (e ∷ es) = MayCome s e × IsLockRun (after s e) es

-- the state after the steps
abbrev pub after_all : CoreState → List Event → CoreState
after_all s [] = s
after_all s (e ∷ es) = after_all (after s e) es

-- processor i takes its token again
abbrev pub is_regain_of : ℕ → Event → Bool
is_regain_of i (Regain j) = i == j
is_regain_of i _ = false

-- processor i reads its token
abbrev pub is_check_of : ℕ → Event → Bool
is_check_of i (Check j) = i == j
is_check_of i _ = false

-- the token was found held
abbrev pub says_held : Heard → Bool
says_held Held = true
says_held _ = false

-- the number that was published when processor i last regained its token in this run; `known` if it never did
abbrev pub number_regained : ℕ → ℕ → CoreState → List Event → ℕ
number_regained i known s [] = known
number_regained i known s (e ∷ es) = number_regained i (if is_regain_of i e then s.number else known) (after s e) es

-- the number that was published when processor i last came in, by a check that found its token held; `known` if it never did
abbrev pub number_entered : ℕ → ℕ → CoreState → List Event → ℕ
number_entered i known s [] = known
number_entered i known s (e ∷ es) =
    number_entered i (if is_check_of i e && says_held (step_answer s e) then s.number else known) (after s e) es

-- a publication
abbrev pub is_publish : Event → Bool
is_publish Publish = true
is_publish _ = false

-- how many publications there are among the steps
abbrev pub publication_count : List Event → ℕ
publication_count events = count_by is_publish events
