use Rattle.std.proofs.Common.{◌≡◌, None, List, [], ◌∷◌, length, get_or, slice_set, IsPermutation, refl, sym, ap, ◌∙◌, subst, arith}
use Rattle.std.proofs.lemmas.List.Sorted.{IsPermutation-refl, IsPermutation-sym}
use Rattle.eval_engine.specs.declared.docket_entry.DocketEntry.TheVariants.{Other}
use Rattle.fw_world.specs.Closing.{AreLanesFrom, AreLanesOf}
use Rattle.fw_world.specs.Lane.{LaneValue, with_docket_entry}
use Rattle.serial_world.specs.SerialLane.{first_lane}
use Rattle.fw_world.specs.World.{WorldValue, IsLaneOf, published_count}
use Rattle.serial_world.specs.WorldKept.{IsNewWorld}
use Rattle.fw_world.proofs.Arranging.{places-stand}
use Rattle.rule_chain.specs.Configuration.{Configuration}
use Rattle.record_tests.proofs.records.entered_by_two.Goals as goal
use Rattle.record_tests.proofs.records.entered_by_two.Goals.{then-turned, else-turned}

-- two new lanes, of which the second passed a record over
abbrev pair : List LaneValue
pair = first_lane None 1 ∷ with_docket_entry Other (first_lane None 2) ∷ []

are-pair : (config : Configuration) (world : WorldValue) → IsNewWorld config 2 world → AreLanesFrom world 1 pair
are-pair config world opened =
    let one : published_count world ≡ 1 = ap length opened.editions in
    let two : world.journal.lanes ≡ 2 = ap (λ j. j.lanes) opened.journal in (
      refl,
      record { first = omega arith; last = omega (arith, two); held = omega (arith, one); heard = tt; judged = λ k d within. absurd (omega arith); cached = tt },
      (
        refl,
        record { first = omega arith; last = omega (arith, two); held = omega (arith, one); heard = tt; judged = λ k d within. absurd (omega arith); cached = tt },
        tt,
      ),
    )

close_in : (config : Configuration) (world after : WorldValue) (lanes moved : List LaneValue) → IsNewWorld config 2 world → after ≡ world → lanes ≡ pair → IsPermutation lanes moved → (ordered : List LaneValue) × AreLanesOf after moved ordered
close_in config world after lanes moved opened unchanged is same =
    let are = subst (λ (w : WorldValue). AreLanesFrom w 1 pair) (sym unchanged) (are-pair config world opened) in
    (pair, places-stand (λ (lane : LaneValue). lane.place) (IsLaneOf after) 1 moved pair are (IsPermutation-sym _ _ (subst (λ (l : List LaneValue). IsPermutation l moved) is same)))

pub close-requires-clause-lanes : goal.close-requires-clause-lanes
close-requires-clause-lanes c =
    let opened = c.in_ok-world.ensures in
    let lane : LaneValue = c.pass_over.new.lane in
    let second : c.index_mut.result.now ≡ first_lane None 2 = c.index_mut.ensures.value ∙ ap (λ (l : List LaneValue). get_or l 1 c.index_mut.result.now) opened.lanes in
    let passed : lane ≡ with_docket_entry Other (first_lane None 2) = c.in_ok-pass_over.ensures.entered.lane ∙ ap (λ (l : LaneValue). with_docket_entry Other l) second in
    let is : slice_set c.in_ok-world.field-0.lanes.items 1 lane ≡ pair = ap (λ (l : List LaneValue). slice_set l 1 lane) opened.lanes ∙ ap (λ (l : LaneValue). first_lane None 1 ∷ l ∷ []) passed in
    let closes = λ (moved : List LaneValue). close_in _ _ c.pass_over.new.self (slice_set c.in_ok-world.field-0.lanes.items 1 lane) moved opened.world c.in_ok-pass_over.ensures.world is in
    elim c.if-turned.branch [
      | then-turned w ↦ closes c.if-turned.lanes.items (subst (λ v. IsPermutation (slice_set c.in_ok-world.field-0.lanes.items 1 lane) v.items) (sym w.lanes-is) w.reverse.ensures.permutation)
      | else-turned w ↦ closes c.if-turned.lanes.items (subst (λ v. IsPermutation (slice_set c.in_ok-world.field-0.lanes.items 1 lane) v.items) (sym w.lanes-is) (IsPermutation-refl _))
    ]
