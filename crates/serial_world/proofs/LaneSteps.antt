-- What holds of every lane holds after the serial world's steps of it.
use Rattle.std.proofs.Common.{◌≡◌, ◌≢◌, ℕ, ◌+◌, ◌*◌, ◌%◌, ◌^◌, ◌<◌, ◌≤◌, cond, eq-eqb, Bool, true, false, length, Option, Some, None, refl, ap, ◌∙◌, subst, arith}
use Rattle.std.specs.Prelude.{◌==◌, IfSome, is_some, not, unwrap_or}
use Rattle.fw_world.proofs.LaneSteps.{not_loose, one_section}
use Rattle.fw_world.specs.Lane.{LaneValue}
use Rattle.fw_world.specs.LaneKept.{IsLane, pending_of}
use Rattle.fw_world.specs.Sections.{judged_editions, tracker_after}
use Rattle.serial_world.specs.SerialLane.{InsideValue, IsInside, lane_after_refusal, lane_after_regain, lane_after_leave, lane_after_admission}

none_is : (refusal : Option ℕ) → is_some refusal ≡ false → refusal ≡ None
none_is None is = refl
none_is (Some number) is = cc

-- a lane that was refused is as a lane has to be
pub IsLane-refused : (published : ℕ) (lane : LaneValue) → IsLane 0 lane → lane.number < published → published < 2 ^ 64 → IsLane 0 (lane_after_refusal published lane)
IsLane-refused published lane is below fits = record {
  numbered = is.numbered;
  above = below;
  rising = is.rising;
  few = λ none.
      let free = none_is lane.refusal (not_loose (is_some lane.refusal) lane.loose none).0 in
      let few = subst (λ (r : Option ℕ). lane.docket.refused + 1 ≤ unwrap_or r lane.number) free (is.few (not_loose (is_some lane.refusal) lane.loose none).1) in
      omega (arith, few);
  tracked = λ none.
      let free = none_is lane.refusal (not_loose (is_some lane.refusal) lane.loose none).0 in
      let few = subst (λ (r : Option ℕ). lane.docket.refused + 1 ≤ unwrap_or r lane.number) free (is.few (not_loose (is_some lane.refusal) lane.loose none).1) in
      let before = is.tracked (not_loose (is_some lane.refusal) lane.loose none).1 in
      let n : ℕ = length (judged_editions lane.docket.entries) in
      let same : n + lane.docket.refused + 0 + 1 ≡ n + (lane.docket.refused + 1) % 2 ^ 64 + 0 = omega (arith, few) in
      ap (λ (t : ℕ). (t + 2) % 2 ^ 64) before ∙ one_section (n + lane.docket.refused + 0) ∙ ap tracker_after same;
}

-- so is one that regained
pub IsLane-regained : (published : ℕ) (lane : LaneValue) → IsLane 0 lane → 1 ≤ published → lane.number ≤ published → IfSome lane.refusal (λ number. number ≤ published) → IsLane 0 (lane_after_regain published lane)
IsLane-regained published lane is first held heard = record {
  numbered = first;
  above = tt;
  rising = is.rising;
  few = λ none. few lane.refusal (is.few none) heard;
  tracked = is.tracked;
}
  where
    few : (refusal : Option ℕ) → lane.docket.refused + 1 ≤ unwrap_or refusal lane.number → IfSome refusal (λ number. number ≤ published) → lane.docket.refused + 1 ≤ published
    few None most heard = omega arith
    few (Some number) most heard = omega arith

-- a lane that left its section is as a lane has to be, with no section pending
pub IsLane-left : (inside : InsideValue) → IsInside inside → IsLane 0 (lane_after_leave inside)
IsLane-left inside is = record {
  numbered = is.numbered;
  above = is.above;
  rising = is.rising;
  few = λ none. is.few (not_loose (not inside.judged) inside.lane.loose none).1;
  tracked = λ none.
      let free = not_loose (not inside.judged) inside.lane.loose none in
      is.tracked free.1 ∙ ap (λ (n : ℕ). tracker_after (length (judged_editions inside.lane.docket.entries) + inside.lane.docket.refused + n)) (no_pending inside.judged free.0);
}
  where
    no_pending : (judged : Bool) → not judged ≡ false → pending_of judged ≡ 0
    no_pending true is = refl
    no_pending false is = cc

-- a lane that is in after it was refused or not
pub IsLane-admitted : (published : ℕ) (lane : LaneValue) → IsLane 0 lane → lane.refusal ≡ None → 1 ≤ published → lane.number ≤ published → published < 2 ^ 64 → IsLane 1 (lane_after_admission published lane)
IsLane-admitted published lane is free first held fits = decided (lane.number == published) refl
  where
    below_published : false ≡ (lane.number == published) → lane.number < published
    below_published e = let other : lane.number ≢ published = (λ (same : lane.number ≡ published). cc (eq-eqb lane.number published same, e)) in omega (arith, other)

    decided : (b : Bool) → b ≡ (lane.number == published) → IsLane 1 (record lane {
      number = published;
      refusal = None;
      tracker = (lane.tracker + 2 * (cond b 0 1 + 1)) % 2 ^ 64;
      docket = record lane.docket { refused = cond b lane.docket.refused ((lane.docket.refused + 1) % 2 ^ 64) };
    })
    decided true same = record {
      numbered = first;
      above = tt;
      rising = is.rising;
      few = λ none. let few = subst (λ (r : Option ℕ). lane.docket.refused + 1 ≤ unwrap_or r lane.number) free (is.few none) in omega (arith, few);
      tracked = λ none. omega (arith, is.tracked none);
    }
    decided false same = record {
      numbered = first;
      above = tt;
      rising = is.rising;
      few = λ none.
          let few = subst (λ (r : Option ℕ). lane.docket.refused + 1 ≤ unwrap_or r lane.number) free (is.few none) in
          let below = below_published same in
          omega (arith, few, below);
      tracked = λ none.
          let few = subst (λ (r : Option ℕ). lane.docket.refused + 1 ≤ unwrap_or r lane.number) free (is.few none) in
          omega (arith, is.tracked none, few);
    }
