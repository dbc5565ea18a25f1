-- Lanes that pass over a record.
use Rattle.std.proofs.Common.{◌≡◌, ℕ, ◌≤◌, true, List, [], ◌∷◌, ◌++◌, refl, sym, ap, ◌∙◌, subst}
use Rattle.std.proofs.lemmas.List.{append-nil}
use Rattle.std.specs.Prelude.{All, Result, Ok, Err, OnOk, OnErr}
use Rattle.fw_base.specs.declared.failure.OutOfMemory.{OutOfMemory}
use Rattle.fw_world.specs.Inputs.{Input}
use Rattle.fw_world.specs.Lane.{LaneValue, with_docket_entry}
use Rattle.fw_world.specs.LaneKept.{IsLane}
use Rattle.fw_world.specs.Asks.{lane_asks}
use Rattle.fw_world.specs.Sections.{judged_editions}
use Rattle.fw_world.specs.Skips.{entry_for, skipped_input}
use Rattle.fw_world.specs.declared.skipped.Skipped.{Skipped}
use Rattle.fw_world.specs.declared.skipped.Skipped.TheVariants.{Other, Malformed}
use Rattle.fw_world.specs.World.{WorldValue, published_count, IsLaneOf, LaneStandsFor}
use Rattle.fw_world.proofs.Caching.{CacheStandsFor-skipped}
use Rattle.fw_world.proofs.Judging.{StandFor-skipped}
use Rattle.fw_world.proofs.LaneSteps.{judged_editions-append, IsLane-skipped}

-- a record that is passed over has no judgement
pub not_judged : (entry : Skipped) → judged_editions (entry_for entry ∷ []) ≡ []
not_judged Other = refl
not_judged (Malformed kind) = refl

-- a lane that passed over a record stands for it behind its inputs
pub LaneStandsFor-skipped : (world : WorldValue) (lane : LaneValue) (entry : Skipped) (inputs : List Input) → LaneStandsFor world lane inputs → LaneStandsFor world (with_docket_entry (entry_for entry) lane) (inputs ++ skipped_input entry ∷ [])
LaneStandsFor-skipped world lane Other inputs stands =
    let after = with_docket_entry (entry_for Other) lane in
    record {
      stands = StandFor-skipped world.editions (lane_asks lane.place world.journal.entries) lane.docket lane.tally inputs stands.stands (skipped_input Other) (entry_for Other) refl tt refl after.docket refl;
      cached = CacheStandsFor-skipped world.editions lane.docket inputs stands.stands.entered lane.cache (skipped_input Other) (entry_for Other) after.docket refl refl stands.cached;
    }
LaneStandsFor-skipped world lane (Malformed kind) inputs stands =
    let after = with_docket_entry (entry_for (Malformed kind)) lane in
    record {
      stands = StandFor-skipped world.editions (lane_asks lane.place world.journal.entries) lane.docket lane.tally inputs stands.stands (skipped_input (Malformed kind)) (entry_for (Malformed kind)) refl tt refl after.docket refl;
      cached = CacheStandsFor-skipped world.editions lane.docket inputs stands.stands.entered lane.cache (skipped_input (Malformed kind)) (entry_for (Malformed kind)) after.docket refl refl stands.cached;
    }

-- what holds of every lane, and that it is one of the world, hold after it passed over a record or failed
pub IsLane-passed : (result : Result (Unit {0}) OutOfMemory) (entry : Skipped) (before after : LaneValue)
    → OnOk result (after ≡ with_docket_entry (entry_for entry) before) → OnErr result (after ≡ record before { failed = true }) → IsLane 0 before → IsLane 0 after
IsLane-passed (Ok done) entry before after entered failed is = subst (λ (l : LaneValue). IsLane 0 l) (sym entered) (IsLane-skipped before (entry_for entry) (not_judged entry) is)
IsLane-passed (Err fault) entry before after entered failed is =
    subst (λ (l : LaneValue). IsLane 0 l) (sym failed) (record { numbered = is.numbered; above = is.above; rising = is.rising; few = is.few; tracked = is.tracked })

-- a lane of the world is still one after it passed over a record, or failed to
pub IsLaneOf-passed : (world : WorldValue) (result : Result (Unit {0}) OutOfMemory) (entry : Skipped) (before after : LaneValue)
    → OnOk result (after ≡ with_docket_entry (entry_for entry) before) → OnErr result (after ≡ record before { failed = true }) → IsLaneOf world before → IsLaneOf world after
IsLaneOf-passed world (Ok done) entry before after entered failed is =
    let same = judged_editions-append before.docket.entries (entry_for entry ∷ []) ∙ ap (λ (rest : List ℕ). judged_editions before.docket.entries ++ rest) (not_judged entry) ∙ append-nil _ in
    subst (λ (l : LaneValue). IsLaneOf world l) (sym entered) (record {
      first = is.first;
      last = is.last;
      held = is.held;
      heard = is.heard;
      judged = subst (λ (numbers : List ℕ). All (λ number. number ≤ published_count world) numbers) (sym same) is.judged;
      cached = is.cached;
    })
IsLaneOf-passed world (Err fault) entry before after entered failed is =
    subst (λ (l : LaneValue). IsLaneOf world l) (sym failed) (record { first = is.first; last = is.last; held = is.held; heard = is.heard; judged = is.judged; cached = is.cached })

-- a lane that passed over a record stands for it behind its inputs, where the call succeeded
pub LaneStandsFor-passed : (world : WorldValue) (result : Result (Unit {0}) OutOfMemory) (entry : Skipped) (before after : LaneValue) → OnOk result (after ≡ with_docket_entry (entry_for entry) before)
    → OnOk result ((inputs : List Input) → LaneStandsFor world before inputs → LaneStandsFor world after (inputs ++ skipped_input entry ∷ []))
LaneStandsFor-passed world (Ok done) entry before after entered = λ inputs stands.
    subst (λ (l : LaneValue). LaneStandsFor world l (inputs ++ skipped_input entry ∷ [])) (sym entered) (LaneStandsFor-skipped world before entry inputs stands)
LaneStandsFor-passed world (Err fault) entry before after entered = tt
