-- Pieces that are put one behind the other.
use Rattle.std.proofs.Common.{◌≡◌, ◌∙◌, ℕ, ◌+◌, ◌<◌, ◌≤◌, List, ◌++◌, length, drop, flat_map, slice_index_or, length-append, ap, sym, arith}
use Rattle.fw_base.proofs.Texts.{flat_map-drop}

-- where there is room for all pieces, there is room for the next one
pub room_for_next : {X : Type 0} (f : X → List ℕ) (pieces : List X) (i most : ℕ) (d : X) (before out : List ℕ) → i < length pieces
    → before ++ flat_map f pieces ≡ out ++ flat_map f (drop i pieces) → length before + length (flat_map f pieces) ≤ most
    → length out + length (f (slice_index_or pieces i d)) ≤ most
room_for_next f pieces i most d before out within is fits =
    let behind : List ℕ = flat_map f (drop (i + 1) pieces) in
    let total : length before + length (flat_map f pieces) ≡ length out + (length (f (slice_index_or pieces i d)) + length behind) =
    sym (length-append before (flat_map f pieces)) ∙ ap length is ∙ length-append out (flat_map f (drop i pieces))
    ∙ ap (λ (l : List ℕ). length out + length l) (flat_map-drop f pieces i d within) ∙ ap (λ (n : ℕ). length out + n) (length-append _ behind) in
    omega arith
