-- The sections that the lines of lanes tell are those of their dockets, where no such line is left over.
use Rattle.std.proofs.Common.{◌≡◌, ℕ, suc, ◌+◌, ◌-◌, ◌≤◌, ◌==◌, true, Option, Some, None, List, [], ◌∷◌, ◌++◌, length, refl, sym, ap, ◌∙◌, subst, inl, inr, arith}
use Rattle.std.specs.Prelude.{IsSome, IsSomeAnd, slice_get}
use Rattle.std.specs.List.{find}
use Rattle.std.proofs.lemmas.Bool.{cases_Bool, eqb-true}
use Rattle.std.proofs.lemmas.List.{append_assoc, length-append, length-map, map-append}
use Rattle.eval_engine.specs.Dockets.{DocketValue}
use Rattle.eval_engine.specs.declared.docket_entry.DocketEntry.{DocketEntry}
use Rattle.fw_world.specs.Sections.{AreSections, judged_editions, tracker_after}
use Rattle.report_reading.specs.Readings.{LineValue, OfRecord, OfPublication, OfAsk, OfLane, OfOther}
use Rattle.report_reading.specs.declared.lane_lines.LaneLine.{LaneLine}
use Rattle.run_audit.specs.Audit.{AreSectionsTold}
use Rattle.run_audit.specs.Composition.{HaveSections}
use Rattle.run_audit.specs.JudgingValues.{entries_of_each}
use Rattle.run_audit.specs.Indexes.{is_line_of_lane}
use Rattle.run_audit.specs.Judging.{ToldValue}
use Rattle.run_audit.specs.LeftOver.{first_behind, has_sections}
use Rattle.run_audit.specs.OtherLines.{HasSections, IsLeftOver, Lacks, lane_naming}
use Rattle.run_audit.specs.ToldReport.{lanes_from}
use Rattle.run_audit.specs.declared.told_report.ToldLane.{ToldLane}
use Rattle.run_audit.proofs.Composed.{same_docket}
use Rattle.run_audit.proofs.LeftOvers.{none_behind, sections_so, so_sections}

-- ---- the line of a lane

-- a line that tells a lane, by the number of the first line
record IsLaneLine (number : ℕ) (values : List LineValue) (one : ToldLane) : Type 0 where
  from : number ≤ one.line
  here : slice_get values (one.line - number) ≡ Some (OfLane one.told)

further : (number : ℕ) (value : LineValue) (values : List LineValue) (one : ToldLane) → IsLaneLine (number + 1) values one → IsLaneLine number (value ∷ values) one
further number value values one is =
    let place : one.line - number ≡ suc (one.line - (number + 1)) = omega (arith, is.from) in
    record {
      from = omega (arith, is.from);
      here = ap (λ (n : ℕ). slice_get (value ∷ values) n) place ∙ is.here;
    }

same_one : (x y : ToldLane) → Some x ≡ Some y → x ≡ y
same_one x y is = cc

-- a lane's line that is found among those of a report is one of its lines
lane_line_at : (number : ℕ) (values : List LineValue) (lane : ℕ) (one : ToldLane) → find (is_line_of_lane lane) (lanes_from number values) ≡ Some one → IsLaneLine number values one
unfolding lanes_from
lane_line_at number [] lane one is = absurd (cc)
lane_line_at number (OfRecord told ∷ values) lane one is = further number (OfRecord told) values one (lane_line_at (number + 1) values lane one is)
lane_line_at number (OfPublication edition ∷ values) lane one is = further number (OfPublication edition) values one (lane_line_at (number + 1) values lane one is)
lane_line_at number (OfAsk told ∷ values) lane one is = further number (OfAsk told) values one (lane_line_at (number + 1) values lane one is)
lane_line_at number (OfLane told ∷ values) lane one is = elim (cases_Bool (told.lane == lane)) [
  | inl here ↦
      let first : ToldLane = record { line = number; told = told } in
      let found : Some first ≡ Some one = rw here at is in
      let it : IsLaneLine number (OfLane told ∷ values) first =
      let place : number - number ≡ 0 = omega arith in
      record { from = omega arith; here = ap (λ (n : ℕ). slice_get (OfLane told ∷ values) n) place } in
      subst (λ (x : ToldLane). IsLaneLine number (OfLane told ∷ values) x) (same_one first one found) it
  | inr other ↦
      let rest : find (is_line_of_lane lane) (lanes_from (number + 1) values) ≡ Some one = rw other at is in
      further number (OfLane told) values one (lane_line_at (number + 1) values lane one rest)
]
lane_line_at number (OfOther ∷ values) lane one is = further number OfOther values one (lane_line_at (number + 1) values lane one is)

-- it names the lane
names_lane : (lanes : List ToldLane) (lane : ℕ) (one : ToldLane) → find (is_line_of_lane lane) lanes ≡ Some one → one.told.lane ≡ lane
names_lane [] lane one is = absurd (cc)
names_lane (first ∷ lanes) lane one is = elim (cases_Bool (first.told.lane == lane)) [
  | inl here ↦
      let found : Some first ≡ Some one = rw here at is in
      ap (λ (x : ToldLane). x.told.lane) (sym (same_one first one found)) ∙ eqb-true first.told.lane lane here
  | inr other ↦
      let rest : find (is_line_of_lane lane) lanes ≡ Some one = rw other at is in
      names_lane lanes lane one rest
]

-- ---- sections

-- no line is left over
abbrev NoneLeft : ToldValue → List (List DocketEntry) → List LineValue → Type 0
NoneLeft told dockets values = (other : ℕ) (value : LineValue) → 1 ≤ other → slice_get values (other - 1) ≡ Some value → IsLeftOver told dockets other value → ⊥

-- what a lane's line tells passes the test beside the lane's docket
passes : (told : ToldValue) (values : List LineValue) (dockets : List (List DocketEntry)) (lane : ℕ) (entries : List DocketEntry) (one : ToldLane) → told.lanes ≡ lanes_from 1 values
    → NoneLeft told dockets values → slice_get dockets (lane - 1) ≡ Some entries → lane_naming told lane ≡ Some one → has_sections (length told.editions) entries one.told ≡ true
passes told values dockets lane entries one lanes none docket named = elim (cases_Bool (has_sections (length told.editions) entries one.told)) [
  | inl so ↦ so
  | inr other ↦
      let same : one.told.lane ≡ lane = names_lane told.lanes lane one named in
      let line : IsLaneLine 1 values one = lane_line_at 1 values lane one (subst (λ (ls : List ToldLane). find (is_line_of_lane lane) ls ≡ Some one) lanes named) in
      let first : lane_naming told one.told.lane ≡ Some one = ap (lane_naming told) same ∙ named in
      let there : slice_get dockets (one.told.lane - 1) ≡ Some entries = ap (λ (n : ℕ). slice_get dockets (n - 1)) same ∙ docket in
      let wrong : HasSections told entries one → ⊥ = λ (have : HasSections told entries one).
      let so : has_sections (length told.editions) entries one.told ≡ true = so_sections (length told.editions) entries one.told have in
      absurd (cc) in
      let left : IsLeftOver told dockets one.line (OfLane one.told) =
      (first, subst (λ (o : Option (List DocketEntry)). IsSomeAnd o (λ (es : List DocketEntry). HasSections told es one → ⊥)) (sym there) wrong) in
      absurd (none one.line (OfLane one.told) line.from line.here left)
]

-- sections by the numbers that a line tells
sections_by : (editions : ℕ) (docket : DocketValue) (refused tracker told : ℕ) → AreSections editions (record { entries = docket.entries; refused = refused }) told → refused ≡ docket.refused
    → told ≡ tracker → AreSections editions docket tracker
sections_by editions docket refused tracker told are same counted = record {
  rising = are.rising;
  few = subst (λ (n : ℕ). n ≤ editions - 1) same are.few;
  tracked = sym counted ∙ are.tracked ∙ ap (λ (n : ℕ). tracker_after (length (judged_editions docket.entries) + n)) same;
}

module _ (told : ToldValue) (values : List LineValue) (all : List (List DocketEntry)) (lanes : told.lanes ≡ lanes_from 1 values) (none : NoneLeft told all values) where
  by_line : (lane : ℕ) (docket : DocketValue) (tracker : ℕ) (found : Option ToldLane) → lane_naming told lane ≡ found → slice_get all (lane - 1) ≡ Some docket.entries
      → IsSomeAnd found (λ one. (one.told.refused ≡ docket.refused) × (one.told.tracker ≡ tracker)) → AreSections (length told.editions) docket tracker
  by_line lane docket tracker None named here is = absurd is
  by_line lane docket tracker (Some one) named here is =
      sections_by (length told.editions) docket one.told.refused tracker one.told.tracker
      (sections_so (length told.editions) docket.entries one.told (passes told values all lane docket.entries one lanes none here named)) is.0 is.1

  each_has : (front : List (List DocketEntry)) (lane : ℕ) (dockets : List DocketValue) (trackers : List ℕ) → all ≡ front ++ entries_of_each dockets → lane ≡ length front + 1
      → AreSectionsTold told lane dockets trackers → HaveSections (length told.editions) dockets trackers
  each_has front lane [] [] is place so = tt
  each_has front lane [] (tracker ∷ trackers) is place so = absurd so
  each_has front lane (docket ∷ dockets) [] is place so = absurd so
  each_has front lane (docket ∷ dockets) (tracker ∷ trackers) is place so =
      let here = same_docket all front (entries_of_each dockets) docket.entries lane is place in
      let rest : all ≡ (front ++ docket.entries ∷ []) ++ entries_of_each dockets = is ∙ sym (append_assoc front (docket.entries ∷ []) (entries_of_each dockets)) in
      let next : lane + 1 ≡ length (front ++ docket.entries ∷ []) + 1 = omega (arith, place, length-append front (docket.entries ∷ [])) in
      (by_line lane docket tracker (lane_naming told lane) refl here so.0, each_has (front ++ docket.entries ∷ []) (lane + 1) dockets trackers rest next so.1)

-- the sections that lines tell are those of the dockets
pub have_sections : (told : ToldValue) (values : List LineValue) (dockets : List DocketValue) (trackers : List ℕ) → told.lanes ≡ lanes_from 1 values
    → ((other : ℕ) (value : LineValue) → 1 ≤ other → slice_get values (other - 1) ≡ Some value → IsLeftOver told (entries_of_each dockets) other value → ⊥)
    → AreSectionsTold told 1 dockets trackers → HaveSections (length told.editions) dockets trackers
have_sections told values dockets trackers lanes none so = each_has told values (entries_of_each dockets) lanes none [] 1 dockets trackers refl refl so

-- ---- one lane more

-- what the line of one lane more tells
pub sections_more : (told : ToldValue) (lane : ℕ) (dockets : List DocketValue) (trackers : List ℕ) (docket : DocketValue) (tracker : ℕ) → AreSectionsTold told lane dockets trackers
    → IsSomeAnd (lane_naming told (lane + length trackers)) (λ one. (one.told.refused ≡ docket.refused) × (one.told.tracker ≡ tracker))
    → AreSectionsTold told lane (dockets ++ docket ∷ []) (trackers ++ tracker ∷ [])
sections_more told lane [] [] docket tracker so one =
    let place : lane + 0 ≡ lane = omega arith in
    (subst (λ (n : ℕ). IsSomeAnd (lane_naming told n) (λ (l : ToldLane). (l.told.refused ≡ docket.refused) × (l.told.tracker ≡ tracker))) place one, tt)
sections_more told lane [] (first ∷ trackers) docket tracker so one = absurd so
sections_more told lane (first ∷ dockets) [] docket tracker so one = absurd so
sections_more told lane (first ∷ dockets) (counted ∷ trackers) docket tracker so one =
    let place : lane + length (counted ∷ trackers) ≡ lane + 1 + length trackers = omega arith in (
      so.0,
      sections_more told (lane + 1) dockets trackers docket tracker so.1
          (subst (λ (n : ℕ). IsSomeAnd (lane_naming told n) (λ (l : ToldLane). (l.told.refused ≡ docket.refused) × (l.told.tracker ≡ tracker))) place one),
    )

-- a line that tells this tells the section of a docket with as many refused
pub tells_both : (told : ToldValue) (lane : ℕ) (line : LaneLine) (docket : DocketValue) → IsSomeAnd (lane_naming told lane) (λ one. one.told ≡ line)
    → line.refused ≡ docket.refused → IsSomeAnd (lane_naming told lane) (λ one. (one.told.refused ≡ docket.refused) × (one.told.tracker ≡ line.tracker))
tells_both told lane line docket named refused = by_line (lane_naming told lane) named
  where
    by_line : (found : Option ToldLane) → IsSomeAnd found (λ one. one.told ≡ line) → IsSomeAnd found (λ one. (one.told.refused ≡ docket.refused) × (one.told.tracker ≡ line.tracker))
    by_line None is = absurd is
    by_line (Some one) is = (ap (λ (l : LaneLine). l.refused) is ∙ refused, ap (λ (l : LaneLine). l.tracker) is)

-- the entries of one docket more
pub entries_more : (dockets all : List DocketValue) (docket : DocketValue) (more : List (List DocketEntry)) → entries_of_each dockets ≡ entries_of_each all
    → more ≡ entries_of_each dockets ++ docket.entries ∷ [] → more ≡ entries_of_each (all ++ docket ∷ [])
entries_more dockets all docket more same is =
    is ∙ ap (λ (es : List (List DocketEntry)). es ++ docket.entries ∷ []) same ∙ sym (map-append (λ (d : DocketValue). d.entries) all (docket ∷ []))

-- where nothing is wrong behind the records each lane has a line
pub each_named : (told : ToldValue) (values : List LineValue) (dockets : List DocketValue) → first_behind told values (entries_of_each dockets) ≡ None → (lane : ℕ) → 1 ≤ lane → lane ≤ length dockets
    → IsSome (lane_naming told lane)
each_named told values dockets none lane first last = by_line (lane_naming told lane) refl
  where
    many : length (entries_of_each dockets) ≡ length dockets
    many = length-map dockets (λ (d : DocketValue). d.entries)

    by_line : (found : Option ToldLane) → lane_naming told lane ≡ found → IsSome found
    by_line None is = absurd (none_behind told (entries_of_each dockets) values none (told.lines + 1) (Lacks refl (record { lane = lane; first = first; last = omega (arith, last, many); none = is })))
    by_line (Some one) is = refl
