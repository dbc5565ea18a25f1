-- The last edition as a value is the last one.
use Rattle.std.proofs.Common.{◌≡◌, ℕ, suc, ◌-◌, ◌≤◌, List, [], ◌∷◌, length, refl, subst, sym, arith}
use Rattle.std.specs.Prelude.{Some, slice_get}
use Rattle.generation_store.specs.Published.{Published}
use Rattle.fw_world.specs.Editions.{IsLastOf}
use Rattle.fw_world.proofs.Numbering.{IsLastOf-tail, IsLastOf-one}
use Rattle.serial_world.specs.LastEdition.{last_published}

-- whichever is the last of these is that value
pub last_published-is : (editions : List Published) (edition : Published) → IsLastOf editions edition → edition ≡ last_published editions
last_published-is [] edition last = cc
last_published-is (first ∷ []) edition last = sym (IsLastOf-one first edition last)
last_published-is (first ∷ next ∷ rest) edition last = last_published-is (next ∷ rest) edition (IsLastOf-tail first next rest edition last)

-- and where there is one that value is the last
pub IsLastOf-last_published : (editions : List Published) → 1 ≤ length editions → IsLastOf editions (last_published editions)
IsLastOf-last_published [] some = absurd (omega (arith, some))
IsLastOf-last_published (first ∷ []) some = refl
IsLastOf-last_published (first ∷ next ∷ rest) some =
    let same : length (first ∷ next ∷ rest) - 1 ≡ suc (length (next ∷ rest) - 1) = omega arith in
    subst (λ (k : ℕ). slice_get (first ∷ next ∷ rest) k ≡ Some (last_published (next ∷ rest))) (sym same) (IsLastOf-last_published (next ∷ rest) (omega arith))
