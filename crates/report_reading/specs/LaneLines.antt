-- The lines of lanes and of publications, read back.
use Rattle.std.specs.Prelude.{ℕ, ◌^◌, ◌≤◌, ◌<◌, Option, List, codes}
use Rattle.fw_base.specs.Chain.{◌>>=◌}
use Rattle.report_reading.specs.Parts.{behind, ended, positive_at, number_at}
use Rattle.report_reading.specs.declared.lane_lines.LaneLine.{LaneLine}

-- a lane is that of a capture, 1 to 16; what it counts has 64 bits
pub record IsLane (lane refused tracker : ℕ) : Type 0 where
  pub first : 1 ≤ lane
  pub last : lane ≤ 16
  pub refused_fits : refused < 2 ^ 64
  pub tracker_fits : tracker < 2 ^ 64

-- a lane, where the line ends here
abbrev pub lane_of : ℕ → ℕ → ℕ → List ℕ → Option LaneLine
lane_of lane refused tracker bytes = ended (record { lane = lane; refused = refused; tracker = tracker }) bytes

-- the line of a lane
unfoldable pub lane_in : List ℕ → Option LaneLine
lane_in line = do
  front ← behind (codes "lane ") line
  lane ← positive_at 16 front
  counted ← behind (codes " refused ") lane.1
  refused ← number_at 18446744073709551615 counted
  told ← behind (codes " tracker ") refused.1
  tracker ← number_at 18446744073709551615 told
  lane_of lane.0 refused.0 tracker.0 tracker.1

-- an edition is numbered from 1 on
pub record IsPublication (number : ℕ) : Type 0 where
  pub first : 1 ≤ number
  pub last : number < 2 ^ 64

-- the line of a publication: the edition that it publishes
unfoldable pub publication_in : List ℕ → Option ℕ
publication_in line = do
  front ← behind (codes "publish ") line
  number ← positive_at 18446744073709551615 front
  ended number.0 number.1
