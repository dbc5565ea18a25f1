-- The first line of a report that names a record or a lane, without the numbers of lines.
use Rattle.std.proofs.Common.{◌≡◌, ℕ, ◌+◌, ◌==◌, ◌&&◌, Bool, Option, Some, None, List, [], ◌∷◌, ◌++◌, refl, inl, inr}
use Rattle.std.specs.List.{find}
use Rattle.std.specs.Prelude.{IsSomeAnd, if◌then◌else◌}
use Rattle.std.proofs.lemmas.Bool.{cases_Bool}
use Rattle.report_reading.specs.Readings.{LineValue, OfRecord, OfPublication, OfAsk, OfLane, OfOther}
use Rattle.fw_base.specs.Chain.{or_else}
use Rattle.report_reading.specs.declared.lane_lines.LaneLine.{LaneLine}
use Rattle.report_reading.specs.declared.record_lines.RecordLine.{RecordLine}
use Rattle.run_audit.specs.Judging.{names_record}
use Rattle.run_audit.specs.ToldReport.{records_from, lanes_from}

-- ---- records

-- the line names this record
abbrev pub is_named : ℕ → ℕ → RecordLine → Bool
is_named lane at one = one.capture == lane && one.at == at

-- what a line tells of this record, if it names it
abbrev pub record_named : ℕ → ℕ → LineValue → Option RecordLine
record_named lane at (OfRecord one) = if is_named lane at one then Some one else None
record_named lane at (OfPublication number) = None
record_named lane at (OfAsk told) = None
record_named lane at (OfLane told) = None
record_named lane at OfOther = None

-- what the first of these lines tells that names it
abbrev pub first_record : ℕ → ℕ → List LineValue → Option RecordLine
first_record lane at [] = None
first_record lane at (value ∷ values) = or_else (record_named lane at value) (first_record lane at values)

-- the first of one option, where it is something, else the other
behind_none : {X : Type 0} (o front back rest : Option X) → or_else o front ≡ None → (front ≡ None → back ≡ rest) → or_else o back ≡ rest
behind_none None front back rest none more = more none
behind_none (Some x) front back rest none more = absurd (cc)

before_some : {X : Type 0} (o front back : Option X) (x : X) → or_else o front ≡ Some x → (front ≡ Some x → back ≡ Some x) → or_else o back ≡ Some x
before_some None front back x is more = more is
before_some (Some y) front back x is more = is

-- behind lines that don't name it
pub record_behind : (lane at : ℕ) (front back : List LineValue) → first_record lane at front ≡ None → first_record lane at (front ++ back) ≡ first_record lane at back
record_behind lane at [] back none = refl
record_behind lane at (value ∷ front) back none =
    behind_none (record_named lane at value) (first_record lane at front) (first_record lane at (front ++ back)) (first_record lane at back) none (record_behind lane at front back)

-- before others
pub record_before : (lane at : ℕ) (front back : List LineValue) (one : RecordLine) → first_record lane at front ≡ Some one → first_record lane at (front ++ back) ≡ Some one
record_before lane at [] back one is = absurd (cc)
record_before lane at (value ∷ front) back one is =
    before_some (record_named lane at value) (first_record lane at front) (first_record lane at (front ++ back)) one is (record_before lane at front back one)

-- it is the first line of the report that names the record
pub record_found : (lane at number : ℕ) (values : List LineValue) (one : RecordLine) → first_record lane at values ≡ Some one
    → IsSomeAnd (find (names_record lane at) (records_from number values)) (λ found. found.told ≡ one)
unfolding records_from
record_found lane at number [] one is = absurd (cc)
record_found lane at number (OfRecord told ∷ values) one is = elim (cases_Bool (is_named lane at told)) [
  | inl named ↦
      let same : Some told ≡ Some one = rw named at is in
      rw named (cc)
  | inr other ↦
      let rest : first_record lane at values ≡ Some one = rw other at is in
      rw other (record_found lane at (number + 1) values one rest)
]
record_found lane at number (OfPublication edition ∷ values) one is = record_found lane at (number + 1) values one is
record_found lane at number (OfAsk told ∷ values) one is = record_found lane at (number + 1) values one is
record_found lane at number (OfLane told ∷ values) one is = record_found lane at (number + 1) values one is
record_found lane at number (OfOther ∷ values) one is = record_found lane at (number + 1) values one is

-- ---- lanes

-- what a line tells of this lane, if it names it
abbrev pub lane_named : ℕ → LineValue → Option LaneLine
lane_named lane (OfRecord told) = None
lane_named lane (OfPublication number) = None
lane_named lane (OfAsk told) = None
lane_named lane (OfLane one) = if one.lane == lane then Some one else None
lane_named lane OfOther = None

-- what the first of these lines tells that names it
abbrev pub first_lane : ℕ → List LineValue → Option LaneLine
first_lane lane [] = None
first_lane lane (value ∷ values) = or_else (lane_named lane value) (first_lane lane values)

-- behind lines that don't name it
pub lane_behind : (lane : ℕ) (front back : List LineValue) → first_lane lane front ≡ None → first_lane lane (front ++ back) ≡ first_lane lane back
lane_behind lane [] back none = refl
lane_behind lane (value ∷ front) back none =
    behind_none (lane_named lane value) (first_lane lane front) (first_lane lane (front ++ back)) (first_lane lane back) none (lane_behind lane front back)

-- it is the first line of the report that names the lane
pub lane_found : (lane number : ℕ) (values : List LineValue) (one : LaneLine) → first_lane lane values ≡ Some one
    → IsSomeAnd (find (λ found. found.told.lane == lane) (lanes_from number values)) (λ found. found.told ≡ one)
unfolding lanes_from
lane_found lane number [] one is = absurd (cc)
lane_found lane number (OfRecord told ∷ values) one is = lane_found lane (number + 1) values one is
lane_found lane number (OfPublication edition ∷ values) one is = lane_found lane (number + 1) values one is
lane_found lane number (OfAsk told ∷ values) one is = lane_found lane (number + 1) values one is
lane_found lane number (OfLane told ∷ values) one is = elim (cases_Bool (told.lane == lane)) [
  | inl named ↦
      let same : Some told ≡ Some one = rw named at is in
      rw named (cc)
  | inr other ↦
      let rest : first_lane lane values ≡ Some one = rw other at is in
      rw other (lane_found lane (number + 1) values one rest)
]
lane_found lane number (OfOther ∷ values) one is = lane_found lane (number + 1) values one is
