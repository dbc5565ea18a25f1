-- The lines of lanes and of publications: what is read is what they are the text of, and each such text is read.
use Rattle.std.proofs.Common.{◌≡◌, ℕ, Option, Some, List, ◌++◌, codes, refl, ap, subst, ◌∙◌, arith}
use Rattle.std.specs.Fmt.{decimal}
use Rattle.report_texts.specs.JournalText.{lane_line, publish_line}
use Rattle.fw_base.specs.Chain.{◌>>=◌}
use Rattle.report_reading.specs.Parts.{behind, ended, positive_at, number_at}
use Rattle.report_reading.specs.LaneLines.{IsLane, IsPublication, lane_of, lane_in, publication_in}
use Rattle.report_reading.specs.declared.lane_lines.LaneLine.{LaneLine}
use Rattle.report_reading.proofs.Words.{behind_told, then_found, where_word}
use Rattle.report_reading.proofs.Numbers.{positive_again, number_again, positive_told, number_told}

-- a lane's line is read as what it is the text of
pub lane_again : (lane refused tracker : ℕ) → IsLane lane refused tracker
    → lane_in (lane_line lane refused tracker) ≡ Some (record { lane = lane; refused = refused; tracker = tracker })
unfolding lane_in lane_line behind
lane_again lane refused tracker within =
    let word : List ℕ = decimal tracker ++ codes "\n" in
    rw (
      positive_again 16 lane (codes " refused " ++ (decimal refused ++ (codes " tracker " ++ word))) within.first within.last (omega (arith, within.last)) refl,
      number_again 18446744073709551615 refused (codes " tracker " ++ word) (omega (arith, within.refused_fits)) within.refused_fits refl,
      number_again 18446744073709551615 tracker (codes "\n") (omega (arith, within.tracker_fits)) within.tracker_fits refl,
    ) refl

-- a publication's line is read as what it is the text of
pub publication_again : (number : ℕ) → IsPublication number → publication_in (publish_line number) ≡ Some number
unfolding publication_in publish_line behind
publication_again number within =
    rw (positive_again 18446744073709551615 number (codes "\n") within.first (omega (arith, within.last)) within.last refl) refl

-- a line is the text of what was read of it
pub record IsLaneLine (line : List ℕ) (told : LaneLine) : Type 0 where
  pub split : line ≡ lane_line told.lane told.refused told.tracker
  pub within : IsLane told.lane told.refused told.tracker

-- the steps of reading a lane, from the last to the first
abbrev tracker_step : ℕ → ℕ → ℕ × List ℕ → Option LaneLine
tracker_step lane refused tracker = lane_of lane refused tracker.0 tracker.1

abbrev told_step : ℕ → ℕ → List ℕ → Option LaneLine
told_step lane refused told = number_at 18446744073709551615 told >>= tracker_step lane refused

abbrev refused_step : ℕ → ℕ × List ℕ → Option LaneLine
refused_step lane refused = behind (codes " tracker ") refused.1 >>= told_step lane refused.0

abbrev counted_step : ℕ → List ℕ → Option LaneLine
counted_step lane counted = number_at 18446744073709551615 counted >>= refused_step lane

abbrev lane_step : ℕ × List ℕ → Option LaneLine
lane_step lane = behind (codes " refused ") lane.1 >>= counted_step lane.0

abbrev front_step : List ℕ → Option LaneLine
front_step front = positive_at 16 front >>= lane_step

-- what is read of a lane's line is what it is the text of
pub lane_told : (line : List ℕ) (told : LaneLine) → lane_in line ≡ Some told → IsLaneLine line told
unfolding lane_in lane_line
lane_told line told is =
    let (front, front_found, front_more) = then_found (behind (codes "lane ") line) front_step told is in
    let (lane, lane_found, lane_more) = then_found (positive_at 16 front) lane_step told front_more in
    let (counted, counted_found, counted_more) = then_found (behind (codes " refused ") lane.1) (counted_step lane.0) told lane_more in
    let (refused, refused_found, refused_more) = then_found (number_at 18446744073709551615 counted) (refused_step lane.0) told counted_more in
    let (word, word_found, word_more) = then_found (behind (codes " tracker ") refused.1) (told_step lane.0 refused.0) told refused_more in
    let (tracker, tracker_found, last) = then_found (number_at 18446744073709551615 word) (tracker_step lane.0 refused.0) told word_more in
    let lanes = positive_told 16 front lane.0 lane.1 (omega arith) lane_found in
    let refusals = number_told 18446744073709551615 counted refused.0 refused.1 (omega arith) refused_found in
    let trackers = number_told 18446744073709551615 word tracker.0 tracker.1 (omega arith) tracker_found in
    let (same, end) = where_word (codes "\n") tracker.1 (record { lane = lane.0; refused = refused.0; tracker = tracker.0 }) told last in
    subst (λ (t : LaneLine). IsLaneLine line t) same (record {
      split = behind_told (codes "lane ") line front front_found ∙ ap (λ t. codes "lane " ++ t) (lanes.split ∙ ap (λ t. decimal lane.0 ++ t)
          (behind_told (codes " refused ") lane.1 counted counted_found ∙ ap (λ t. codes " refused " ++ t) (refusals.split ∙ ap (λ t. decimal refused.0 ++ t)
          (behind_told (codes " tracker ") refused.1 word word_found ∙ ap (λ t. codes " tracker " ++ t) (trackers.split ∙ ap (λ t. decimal tracker.0 ++ t) end)))));
      within = record { first = lanes.first; last = lanes.last; refused_fits = omega (arith, refusals.last); tracker_fits = omega (arith, trackers.last) };
    })

-- a line is the text of the publication that was read of it
pub record IsPublicationLine (line : List ℕ) (number : ℕ) : Type 0 where
  pub split : line ≡ publish_line number
  pub within : IsPublication number

-- what is read of a publication's line is what it is the text of
pub publication_told : (line : List ℕ) (number : ℕ) → publication_in line ≡ Some number → IsPublicationLine line number
unfolding publication_in publish_line
publication_told line number is =
    let ends : ℕ × List ℕ → Option ℕ = λ told. ended told.0 told.1 in
    let (front, found, more) = then_found (behind (codes "publish ") line) (λ t. positive_at 18446744073709551615 t >>= ends) number is in
    let (told, read, last) = then_found (positive_at 18446744073709551615 front) ends number more in
    let numbers = positive_told 18446744073709551615 front told.0 told.1 (omega arith) read in
    let (same, end) = where_word (codes "\n") told.1 told.0 number last in
    subst (λ (n : ℕ). IsPublicationLine line n) same (record {
      split = behind_told (codes "publish ") line front found ∙ ap (λ t. codes "publish " ++ t) (numbers.split ∙ ap (λ t. decimal told.0 ++ t) end);
      within = record { first = numbers.first; last = omega (arith, numbers.last) };
    })
