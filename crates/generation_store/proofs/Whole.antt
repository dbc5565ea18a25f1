-- Lists that are made element by element.
use Rattle.std.proofs.Common.{◌≡◌, ℕ, zero, suc, ◌+◌, ◌<◌, List, [], ◌∷◌, map, length, get_or, drop, refl, ap, arith}
use Rattle.std.proofs.lemmas.List.{drop_more}
use Rattle.std.specs.List.{AllByRecursion}
use Rattle.fw_rule.specs.declared.rule.Rule.{Rule}
use Rattle.generation_store.specs.Jumps.{jump_of, jumps_from}
use Rattle.generation_store.specs.Placing.{placed_from}

-- what is true of each is true of the one in this place
pub all_at : {X Y : Type 0} (P : Y → Type 0) (f : X → Y) (xs : List X) (i : ℕ) (d : X) → i < length xs → AllByRecursion P (map f xs) → P (f (get_or xs i d))
all_at P f [] i d within all = absurd (omega arith)
all_at P f (x ∷ xs) zero d within all = all.0
all_at P f (x ∷ xs) (suc i) d within all = all_at P f xs i d (omega arith) all.1

-- the next jump is put behind those that are done
pub jump_more : (rules : List Rule) (place : ℕ) (d : Rule) → place < length rules
    → jumps_from rules place (drop place rules) ≡ jump_of rules place (get_or rules place d) ∷ jumps_from rules (place + 1) (drop (place + 1) rules)
unfolding jumps_from
jump_more rules place d within = ap (jumps_from rules place) (drop_more rules place d within)

-- the next place is put behind those that are done
pub place_more : {X : Type 0} (f : X → Rule) (xs : List X) (place : ℕ) (d : X) → place < length xs
    → placed_from place (map f (drop place xs)) ≡ record { identity = (f (get_or xs place d)).id; place = place } ∷ placed_from (place + 1) (map f (drop (place + 1) xs))
unfolding placed_from
place_more f xs place d within = ap (λ ys. placed_from place (map f ys)) (drop_more xs place d within)

-- no place of no rule
pub no_place : (place : ℕ) → placed_from place [] ≡ []
unfolding placed_from
no_place place = refl

-- no jump of no rule
pub no_jump : (rules : List Rule) (place : ℕ) → jumps_from rules place [] ≡ []
unfolding jumps_from
no_jump rules place = refl
