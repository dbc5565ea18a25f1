-- The sections that a lane began: one for each judged packet, and one for each entry that was refused.
use Rattle.std.specs.Prelude.{◌≡◌, ℕ, ◌+◌, ◌-◌, ◌*◌, ◌%◌, ◌^◌, ◌≤◌, List, length, map}
use Rattle.std.specs.List.Sorted.{IsNonDecreasing}
use Rattle.eval_engine.specs.Dockets.{DocketValue, judgements}
use Rattle.eval_engine.specs.declared.docket_entry.DocketEntry.{DocketEntry}

-- the editions of the judged entries, in order
abbrev pub judged_editions : List DocketEntry → List ℕ
judged_editions entries = map (λ judgement. judgement.edition) (judgements entries)

-- a tracker word after so many sections: each adds 2, modulo 2^64
abbrev pub tracker_after : ℕ → ℕ
tracker_after sections = 2 * sections % 2 ^ 64

-- The editions of a docket never fall; an entry is refused at most once for each edition but the first; and
-- the tracker word tells one section for each judged packet and each refused entry.
pub record AreSections (editions : ℕ) (docket : DocketValue) (tracker : ℕ) : Type 0 where
  pub rising : IsNonDecreasing (judged_editions docket.entries)
  pub few : docket.refused ≤ editions - 1
  pub tracked : tracker ≡ tracker_after (length (judged_editions docket.entries) + docket.refused)
