use Rattle.std.proofs.Common.{◌≡◌, ℕ, suc, ◌+◌, ◌-◌, ◌≤◌, List, [], ◌∷◌, ◌++◌, ap, ◌∙◌, arith, append_assoc}
use Rattle.std.specs.Prelude.{Option}
use Rattle.fw_world.specs.Lane.{LaneValue}
use Rattle.serial_world.specs.SerialLane.{first_lane, first_lanes}
use Rattle.serial_world.proofs.opening.open_lanes.Goals as goal

next : (cache : Option ℕ) (items all : List LaneValue) (place lanes : ℕ) → place ≤ lanes → items ++ first_lanes cache place (lanes + 1 - place) ≡ all
    → (items ++ first_lane cache place ∷ []) ++ first_lanes cache (place + 1) (lanes + 1 - (place + 1)) ≡ all
next cache items all place lanes within is =
    let same : suc (lanes + 1 - (place + 1)) ≡ lanes + 1 - place = omega arith in
    append_assoc items (first_lane cache place ∷ []) _ ∙ ap (λ (n : ℕ). items ++ first_lanes cache place n) same ∙ is

pub loop-place-preserved : goal.loop-place-preserved
loop-place-preserved c =
    let within : c.loop-place.place ≤ c.args.lanes = omega arith in
    rw (c.in_ok-push.ensures.items, c.new.ensures c.args.cache c.in_ok-open_cache.ensures) (next c.args.cache c.loop-place.opened.items _ c.loop-place.place c.args.lanes within c.loop-place.invariant)
