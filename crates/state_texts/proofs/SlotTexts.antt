-- The lines of slots are those of the states that they hold.
use Rattle.std.proofs.Common.{◌≡◌, ℕ, Bool, true, false, List, [], ◌∷◌, ◌++◌, refl, ap, cond}
use Rattle.std.specs.List.{flat_map}
use Rattle.dyn_states.specs.declared.state.State.{State}
use Rattle.dyn_states.specs.Slots.{is_held, held_states}
use Rattle.state_texts.specs.StateTexts.{state_line, slot_text}

-- the lines of slots are the lines of the states that they hold
pub slots_text : (names : List (List ℕ)) (xs : List State) → flat_map (slot_text names) xs ≡ flat_map (state_line names) (held_states xs)
unfolding slot_text
slots_text names [] = refl
slots_text names (x ∷ xs) = decided (is_held x) (slots_text names xs)
  where
    decided : (b : Bool) → flat_map (slot_text names) xs ≡ flat_map (state_line names) (held_states xs) → cond b (state_line names x) [] ++ flat_map (slot_text names) xs ≡ flat_map (state_line names) (cond b (x ∷ held_states xs) (held_states xs))
    decided true rest = ap (λ (text : List ℕ). state_line names x ++ text) rest
    decided false rest = rest
