-- As many of each as there are lanes.
use Rattle.std.proofs.Common.{◌≡◌, ℕ, ◌+◌, List, [], ◌∷◌, length, refl, arith}
use Rattle.counter_book.specs.declared.tally.Count.{Count}
use Rattle.eval_engine.specs.Dockets.{DocketValue}
use Rattle.fw_world.specs.Inputs.{Input}
use Rattle.fw_world.specs.Lanes.{EachLane}

-- there is a docket and a tracker for each capture
pub same_lanes : (P : ℕ → List Input → DocketValue → List Count → ℕ → Type 0) (lane : ℕ) (inputs : List (List Input)) (dockets : List DocketValue) (tallies : List (List Count)) (trackers : List ℕ)
    → EachLane P lane inputs dockets tallies trackers → (length inputs ≡ length dockets) × (length trackers ≡ length dockets)
same_lanes P lane [] [] [] [] each = (refl, refl)
same_lanes P lane [] [] [] (tracker ∷ trackers) each = absurd each
same_lanes P lane [] [] (tally ∷ tallies) trackers each = absurd each
same_lanes P lane [] (docket ∷ dockets) tallies trackers each = absurd each
same_lanes P lane (own ∷ inputs) [] tallies trackers each = absurd each
same_lanes P lane (own ∷ inputs) (docket ∷ dockets) [] trackers each = absurd each
same_lanes P lane (own ∷ inputs) (docket ∷ dockets) (tally ∷ tallies) [] each = absurd each
same_lanes P lane (own ∷ inputs) (docket ∷ dockets) (tally ∷ tallies) (tracker ∷ trackers) each =
    let (first, second) = same_lanes P (lane + 1) inputs dockets tallies trackers each.1 in
    (omega (arith, first), omega (arith, second))
