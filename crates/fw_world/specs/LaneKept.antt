-- What holds of every lane, in whatever world.
use Rattle.std.specs.Prelude.{◌≡◌, ℕ, ◌+◌, ◌≤◌, ◌<◌, Bool, true, false, IfSome, unwrap_or, length}
use Rattle.std.specs.List.Sorted.{IsNonDecreasing}
use Rattle.fw_world.specs.Lane.{LaneValue}
use Rattle.fw_world.specs.Sections.{judged_editions, tracker_after}

-- Numbers of editions begin with 1 and rise; and where no section was loose, each refused entry made the
-- lane's number rise, and the tracker tells its judged and refused entries and the sections that are pending.
pub record IsLane (pending : ℕ) (lane : LaneValue) : Type 0 where
  pub numbered : 1 ≤ lane.number
  pub above : IfSome lane.refusal (λ number. lane.number < number)
  pub rising : IsNonDecreasing (judged_editions lane.docket.entries)
  pub few : lane.loose ≡ 0 → lane.docket.refused + 1 ≤ unwrap_or lane.refusal lane.number
  pub tracked : lane.loose ≡ 0 → lane.tracker ≡ tracker_after (length (judged_editions lane.docket.entries) + lane.docket.refused + pending)

-- a section that has no judgement yet is pending
abbrev pub pending_of : Bool → ℕ
pending_of true = 0
pending_of false = 1
