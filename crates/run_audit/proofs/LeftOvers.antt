-- What is tested of the lines behind the records is what is said of them.
use Rattle.std.proofs.Common.{◌≡◌, ℕ, zero, suc, ◌+◌, ◌-◌, ◌<◌, ◌≤◌, ◌==◌, Bool, true, false, not, List, [], ◌∷◌, length, get_or, Option, Some, None, refl, sym, ap, ◌∙◌, subst, inl, inr, arith, eq-eqb}
use Rattle.std.specs.Prelude.{◌&&◌, nat_le, is_some, slice_get, IsSomeAnd}
use Rattle.std.specs.List.Sorted.{IsNonDecreasing}
use Rattle.std.proofs.lemmas.Bool.{cases_Bool, cases_lt, and_parts, eqb-true}
use Rattle.std.proofs.lemmas.Option.{slice_get_within}
use Rattle.fw_base.specs.Chain.{or_else}
use Rattle.std.proofs.lemmas.Bool.Decides.{nat_tests}
use Rattle.eval_engine.specs.declared.docket_entry.DocketEntry.{DocketEntry}
use Rattle.fw_world.specs.Sections.{AreSections, judged_editions, tracker_after}
use Rattle.report_reading.specs.Readings.{LineValue, OfRecord, OfPublication, OfAsk, OfLane, OfOther}
use Rattle.report_reading.specs.declared.lane_lines.LaneLine.{LaneLine}
use Rattle.run_audit.specs.Judging.{ToldValue}
use Rattle.run_audit.specs.LeftOver.{rises_from, has_sections, is_first, differs, is_left_over, first_left_over, has_each_lane, lacking_line, first_behind}
use Rattle.run_audit.specs.OtherLines.{entry_at, judgement_at, lane_naming, HasSections, IsLeftOver, LacksLane, IsWrongBehind, LeftOver, Lacks, IsFirstBehind}
use Rattle.run_audit.specs.declared.told_report.ToldLane.{ToldLane}
use Rattle.report_reading.proofs.Words.{same_number}

-- ---- sections

-- where these rise from a number on, none is below it and they don't fall
rises_so : (least : ℕ) (xs : List ℕ) → rises_from least xs ≡ true → ((j d : ℕ) → j < length xs → least ≤ get_or xs j d) × IsNonDecreasing xs
rises_so least [] is = ((λ j d less. absurd (omega (arith, less))), (λ i j d up less. absurd (omega (arith, less))))
rises_so least (x ∷ xs) is =
    let (first, others) = and_parts (nat_le least x) (rises_from x xs) is in
    let low : least ≤ x = grind (arith, nat_tests, first) in
    let (above, rise) = rises_so x xs others in
    (lower low above, rising above rise)
  where
    lower : least ≤ x → ((j d : ℕ) → j < length xs → x ≤ get_or xs j d) → (j d : ℕ) → j < length (x ∷ xs) → least ≤ get_or (x ∷ xs) j d
    lower low above zero d less = low
    lower low above (suc j) d less =
        let behind : x ≤ get_or xs j d = above j d (omega (arith, less)) in
        omega (arith, low, behind)

    rising : ((j d : ℕ) → j < length xs → x ≤ get_or xs j d) → IsNonDecreasing xs → IsNonDecreasing (x ∷ xs)
    rising above rise zero zero d up less = omega arith
    rising above rise zero (suc j) d up less = above j d (omega (arith, less))
    rising above rise (suc i) zero d up less = absurd (omega (arith, up))
    rising above rise (suc i) (suc j) d up less = rise i j d (omega (arith, up)) (omega (arith, less))

so_rises : (least : ℕ) (xs : List ℕ) → ((j d : ℕ) → j < length xs → least ≤ get_or xs j d) → IsNonDecreasing xs → rises_from least xs ≡ true
so_rises least [] above rise = refl
so_rises least (x ∷ xs) above rise =
    let low : least ≤ x = above 0 0 (omega arith) in
    let first : nat_le least x ≡ true = grind (arith, nat_tests, low) in
    rw first (so_rises x xs (λ j d less. rise 0 (suc j) d (omega arith) (omega (arith, less))) (λ i j d up less. rise (suc i) (suc j) d (omega (arith, up)) (omega (arith, less))))

-- the test of sections says that they are those of the docket
pub sections_so : (editions : ℕ) (entries : List DocketEntry) (told : LaneLine) → has_sections editions entries told ≡ true → AreSections editions (record { entries = entries; refused = told.refused }) told.tracker
sections_so editions entries told is =
    let (rise, others) = and_parts (rises_from 0 (judged_editions entries)) (nat_le told.refused (editions - 1) && told.tracker == tracker_after (length (judged_editions entries) + told.refused)) is in
    let (few, tracked) = and_parts (nat_le told.refused (editions - 1)) (told.tracker == tracker_after (length (judged_editions entries) + told.refused)) others in
    record {
      rising = (rises_so 0 (judged_editions entries) rise).1;
      few = grind (arith, nat_tests, few);
      tracked = eqb-true told.tracker (tracker_after (length (judged_editions entries) + told.refused)) tracked;
    }

-- sections that are those of the docket pass it
pub so_sections : (editions : ℕ) (entries : List DocketEntry) (told : LaneLine) → AreSections editions (record { entries = entries; refused = told.refused }) told.tracker → has_sections editions entries told ≡ true
so_sections editions entries told are =
    let rise : rises_from 0 (judged_editions entries) ≡ true = so_rises 0 (judged_editions entries) (λ j d less. omega arith) are.rising in
    let few : nat_le told.refused (editions - 1) ≡ true = grind (arith, nat_tests, are.few) in
    let tracked : (told.tracker == tracker_after (length (judged_editions entries) + told.refused)) ≡ true = eq-eqb told.tracker (tracker_after (length (judged_editions entries) + told.refused)) are.tracked in
    rw (rise, few) tracked

-- ---- lines

none_of : {X : Type 0} (o : Option X) → not (is_some o) ≡ true → o ≡ None
none_of None is = refl
none_of (Some x) is = absurd (cc)

-- what is not true is false
pub not_true : (b : Bool) → not b ≡ true → b ≡ false
not_true true is = absurd (cc)
not_true false is = refl

-- a line of a lane by its parts
abbrev lane_of_parts : ℕ → ℕ → ℕ → ℕ → ToldLane
lane_of_parts line lane refused tracker = record { line = line; told = record { lane = lane; refused = refused; tracker = tracker } }

same_parts : (line line' lane lane' refused refused' tracker tracker' : ℕ) → line ≡ line' → lane ≡ lane' → refused ≡ refused' → tracker ≡ tracker'
    → lane_of_parts line lane refused tracker ≡ lane_of_parts line' lane' refused' tracker'
same_parts line line' lane lane' refused refused' tracker tracker' a b c d =
    ap (λ (n : ℕ). lane_of_parts n lane refused tracker) a ∙ ap (λ (n : ℕ). lane_of_parts line' n refused tracker) b ∙ ap (λ (n : ℕ). lane_of_parts line' lane' n tracker) c
    ∙ ap (λ (n : ℕ). lane_of_parts line' lane' refused' n) d

one_lane : (one : ToldLane) (number : ℕ) (told : LaneLine) → is_first (Some one) number told ≡ true → one ≡ record { line = number; told = told }
one_lane one number told is =
    let (line, others) = and_parts (one.line == number) (one.told.lane == told.lane && (one.told.refused == told.refused && one.told.tracker == told.tracker)) is in
    let (lane, counts) = and_parts (one.told.lane == told.lane) (one.told.refused == told.refused && one.told.tracker == told.tracker) others in
    let (refused, tracker) = and_parts (one.told.refused == told.refused) (one.told.tracker == told.tracker) counts in
    same_parts one.line number one.told.lane told.lane one.told.refused told.refused one.told.tracker told.tracker (eqb-true one.line number line) (eqb-true one.told.lane told.lane lane)
    (eqb-true one.told.refused told.refused refused) (eqb-true one.told.tracker told.tracker tracker)

first_named : (o : Option ToldLane) (number : ℕ) (told : LaneLine) → is_first o number told ≡ true → o ≡ Some (record { line = number; told = told })
first_named None number told is = absurd (cc)
first_named (Some one) number told is = ap Some (one_lane one number told is)

named_first : (number : ℕ) (told : LaneLine) → is_first (Some (record { line = number; told = told })) number told ≡ true
named_first number told = rw (same_number number, same_number told.lane, same_number told.refused) (same_number told.tracker)

module _ (told : ToldValue) (dockets : List (List DocketEntry)) where
  differs_so : (o : Option (List DocketEntry)) (number : ℕ) (one : LaneLine) → differs (length told.editions) o one ≡ true
      → IsSomeAnd o (λ entries. HasSections told entries (record { line = number; told = one }) → ⊥)
  differs_so None number one is = absurd (cc)
  differs_so (Some entries) number one is = λ (have : HasSections told entries (record { line = number; told = one })).
      let so : has_sections (length told.editions) entries one ≡ true = so_sections (length told.editions) entries one have in
      let other : has_sections (length told.editions) entries one ≡ false = not_true _ is in
      absurd (cc)

  so_differs : (o : Option (List DocketEntry)) (number : ℕ) (one : LaneLine) → IsSomeAnd o (λ entries. HasSections told entries (record { line = number; told = one }) → ⊥)
      → differs (length told.editions) o one ≡ true
  so_differs None number one is = absurd is
  so_differs (Some entries) number one is = elim (cases_Bool (has_sections (length told.editions) entries one)) [
    | inl so ↦ absurd (is (sections_so (length told.editions) entries one so))
    | inr other ↦ rw other refl
  ]

  left_so : (number : ℕ) (value : LineValue) → is_left_over told dockets number value ≡ true → IsLeftOver told dockets number value
  left_so number (OfRecord one) is = none_of (entry_at dockets one.capture one.at) is
  left_so number (OfPublication edition) is = absurd (cc)
  left_so number (OfAsk one) is = none_of (judgement_at dockets one.lane one.at) is
  left_so number (OfLane one) is =
      let (first, other) = and_parts (is_first (lane_naming told one.lane) number one) (differs (length told.editions) (slice_get dockets (one.lane - 1)) one) is in
      (first_named (lane_naming told one.lane) number one first, differs_so (slice_get dockets (one.lane - 1)) number one other)
  left_so number OfOther is = absurd (cc)

  so_left : (number : ℕ) (value : LineValue) → IsLeftOver told dockets number value → is_left_over told dockets number value ≡ true
  so_left number (OfRecord one) is = ap (λ (o : Option DocketEntry). not (is_some o)) is
  so_left number (OfPublication edition) is = absurd is
  so_left number (OfAsk one) is = ap (λ o. not (is_some o)) is
  so_left number (OfLane one) is =
      let first : is_first (lane_naming told one.lane) number one ≡ true = ap (λ (o : Option ToldLane). is_first o number one) is.0 ∙ named_first number one in
      let other : differs (length told.editions) (slice_get dockets (one.lane - 1)) one ≡ true = so_differs (slice_get dockets (one.lane - 1)) number one is.1 in
      rw (first, other) refl
  so_left number OfOther is = absurd is

  -- What is known of the first line that is left over, where the first of the lines has this number.
  record IsFirstLeft (number : ℕ) (values : List LineValue) (line : ℕ) : Type 0 where
    least : number ≤ line
    value : LineValue
    found : slice_get values (line - number) ≡ Some value
    left : IsLeftOver told dockets line value
    before : (other : ℕ) (earlier : LineValue) → number ≤ other → other < line → slice_get values (other - number) ≡ Some earlier → IsLeftOver told dockets other earlier → ⊥

  some_line : (first line : ℕ) → Some first ≡ Some line → first ≡ line
  some_line first line is = cc

  first_left : (number : ℕ) (values : List LineValue) (line : ℕ) → first_left_over told dockets number values ≡ Some line → IsFirstLeft number values line
  first_left number [] line is = absurd (cc)
  first_left number (value ∷ values) line is = elim (cases_Bool (is_left_over told dockets number value)) [
    | inl left ↦
        let found : Some number ≡ Some line = rw left at is in
        let same : number ≡ line = some_line number line found in
        let none : line - number ≡ 0 = omega (arith, same) in
        record {
          least = omega (arith, same);
          value = value;
          found = ap (λ (n : ℕ). slice_get (value ∷ values) n) none;
          left = subst (λ (n : ℕ). IsLeftOver told dockets n value) same (left_so number value left);
          before = λ (other : ℕ) (earlier : LineValue) (from : number ≤ other) (less : other < line) at_it left_too. absurd (omega (arith, same, from, less));
        }
    | inr other ↦
        let rest : first_left_over told dockets (number + 1) values ≡ Some line = rw other at is in
        let so = first_left (number + 1) values line rest in
        let place : line - number ≡ suc (line - (number + 1)) = omega (arith, so.least) in
        record {
          least = omega (arith, so.least);
          value = so.value;
          found = ap (λ (n : ℕ). slice_get (value ∷ values) n) place ∙ so.found;
          left = so.left;
          before = behind number value values line other so;
        }
  ]
    where
      behind : (number : ℕ) (value : LineValue) (values : List LineValue) (line : ℕ) → is_left_over told dockets number value ≡ false → IsFirstLeft (number + 1) values line
          → (other : ℕ) (earlier : LineValue) → number ≤ other → other < line → slice_get (value ∷ values) (other - number) ≡ Some earlier → IsLeftOver told dockets other earlier → ⊥
      behind number value values line fails so other earlier from less found left = elim (cases_lt number other) [
        | inl more ↦
            let place : other - number ≡ suc (other - (number + 1)) = omega (arith, more) in
            so.before other earlier (omega (arith, more)) less (sym (ap (λ (n : ℕ). slice_get (value ∷ values) n) place) ∙ found) left
        | inr up ↦
            let same : other ≡ number = omega (arith, from, up) in
            let none : other - number ≡ 0 = omega (arith, same) in
            let it : value ≡ earlier = some_value value earlier (sym (ap (λ (n : ℕ). slice_get (value ∷ values) n) none) ∙ found) in
            let true_too : is_left_over told dockets number value ≡ true = subst (λ (n : ℕ). is_left_over told dockets n value ≡ true) same (subst (λ (v : LineValue). is_left_over told dockets other v ≡ true) (sym it) (so_left other earlier left)) in
            absurd (cc)
      ]
        where
          some_value : (v w : LineValue) → Some v ≡ Some w → v ≡ w
          some_value v w e = cc

  none_left : (number : ℕ) (values : List LineValue) → first_left_over told dockets number values ≡ None → (other : ℕ) (value : LineValue) → number ≤ other → slice_get values (other - number) ≡ Some value
      → IsLeftOver told dockets other value → ⊥
  none_left number [] is other value from found left = absurd (cc)
  none_left number (first ∷ values) is other value from found left = elim (cases_Bool (is_left_over told dockets number first)) [
    | inl left_first ↦ let e : Some number ≡ None = rw left_first at is in absurd (cc)
    | inr fails ↦
        let rest : first_left_over told dockets (number + 1) values ≡ None = rw fails at is in
        elim (cases_lt number other) [
          | inl more ↦
              let place : other - number ≡ suc (other - (number + 1)) = omega (arith, more) in
              none_left (number + 1) values rest other value (omega (arith, more)) (sym (ap (λ (n : ℕ). slice_get (first ∷ values) n) place) ∙ found) left
          | inr up ↦
              let same : other ≡ number = omega (arith, from, up) in
              let none : other - number ≡ 0 = omega (arith, same) in
              let it : first ≡ value = some_value first value (sym (ap (λ (n : ℕ). slice_get (first ∷ values) n) none) ∙ found) in
              let true_too : is_left_over told dockets number first ≡ true = subst (λ (n : ℕ). is_left_over told dockets n first ≡ true) same (subst (λ (v : LineValue). is_left_over told dockets other v ≡ true) (sym it) (so_left other value left)) in
              absurd (cc)
        ]
  ]
    where
      some_value : (v w : LineValue) → Some v ≡ Some w → v ≡ w
      some_value v w e = cc

  -- ---- lanes that have no line

  lacks : (lane : ℕ) (rest : List (List DocketEntry)) → has_each_lane told lane rest ≡ false → 1 ≤ lane → lane + length rest ≡ length dockets + 1 → LacksLane told dockets
  lacks lane [] is first many = absurd (cc)
  lacks lane (entries ∷ rest) is first many = by_line (lane_naming told lane) refl is (λ (e : has_each_lane told (lane + 1) rest ≡ false). lacks (lane + 1) rest e (omega (arith, first)) (omega (arith, many)))
    where
      by_line : (o : Option ToldLane) → lane_naming told lane ≡ o → (is_some o && has_each_lane told (lane + 1) rest) ≡ false → (has_each_lane told (lane + 1) rest ≡ false → LacksLane told dockets) → LacksLane told dockets
      by_line None none is_false later = record { lane = lane; first = first; last = omega (arith, many); none = none }
      by_line (Some one) named is_false later = later is_false

  not_lacking : (lane : ℕ) (rest : List (List DocketEntry)) → has_each_lane told lane rest ≡ true → (n : ℕ) → lane ≤ n → n < lane + length rest → lane_naming told n ≡ None → ⊥
  not_lacking lane [] is n from less none = absurd (omega (arith, from, less))
  not_lacking lane (entries ∷ rest) is n from less none =
      let (here, others) = and_parts (is_some (lane_naming told lane)) (has_each_lane told (lane + 1) rest) is in
      elim (cases_lt lane n) [
        | inl more ↦ not_lacking (lane + 1) rest others n (omega (arith, more)) (omega (arith, less)) none
        | inr up ↦
            let same : n ≡ lane = omega (arith, from, up) in
            let none_here : lane_naming told lane ≡ None = sym (ap (lane_naming told) same) ∙ none in
            let e : is_some (lane_naming told lane) ≡ false = ap (λ (o : Option ToldLane). is_some o) none_here in
            absurd (cc)
      ]

  -- ---- the first line that is wrong behind the records

  by_first : (values : List LineValue) (line : ℕ) (found : Option ℕ) → first_left_over told dockets 1 values ≡ found → or_else found (lacking_line told dockets) ≡ Some line → length values ≡ told.lines
      → IsFirstBehind told values dockets line
  by_first values line (Some number) found is many =
      let same : number ≡ line = some_line number line is in
      let so = first_left 1 values line (found ∙ ap Some same) in
      let within : line - 1 < length values = slice_get_within values (line - 1) so.value so.found in
      record {
        wrong = LeftOver so.value so.found so.least so.left;
        first = earlier so within;
      }
    where
      earlier : IsFirstLeft 1 values line → line - 1 < length values → (other : ℕ) → other < line → IsWrongBehind told values dockets other → ⊥
      earlier so within other less (LeftOver value at_it first left) = so.before other value first less at_it left
      earlier so within other less (Lacks last lacking) = absurd (omega (arith, many, within, less, last))
  by_first values line None found is many = elim (cases_Bool (has_each_lane told 1 dockets)) [
    | inl all ↦ let e : None ≡ Some line = rw all at is in absurd (cc)
    | inr some ↦
        let e : Some (told.lines + 1) ≡ Some line = rw some at is in
        let same : line ≡ told.lines + 1 = sym (some_line (told.lines + 1) line e) in
        record {
          wrong = Lacks same (lacks 1 dockets some (omega arith) (omega arith));
          first = earlier;
        }
  ]
    where
      earlier : (other : ℕ) → other < line → IsWrongBehind told values dockets other → ⊥
      earlier other less (LeftOver value at_it first left) = none_left 1 values found other value first at_it left
      earlier other less (Lacks last lacking) = elim (cases_Bool (has_each_lane told 1 dockets)) [
        | inl all ↦ not_lacking 1 dockets all lacking.lane lacking.first (omega (arith, lacking.last)) lacking.none
        | inr some ↦
            let e : Some (told.lines + 1) ≡ Some line = rw some at is in
            let same : line ≡ told.lines + 1 = sym (some_line (told.lines + 1) line e) in
            absurd (omega (arith, same, last, less))
      ]

  -- the line that the tests find is the first that is wrong
  pub found_behind : (values : List LineValue) (line : ℕ) → first_behind told values dockets ≡ Some line → length values ≡ told.lines → IsFirstBehind told values dockets line
  found_behind values line is many = by_first values line (first_left_over told dockets 1 values) refl is many

  -- where they find none, no line is wrong
  pub none_behind : (values : List LineValue) → first_behind told values dockets ≡ None → (number : ℕ) → IsWrongBehind told values dockets number → ⊥
  none_behind values is number wrong = by_found (first_left_over told dockets 1 values) refl is
    where
      by_found : (found : Option ℕ) → first_left_over told dockets 1 values ≡ found → or_else found (lacking_line told dockets) ≡ None → ⊥
      by_found (Some line) found none = absurd (cc)
      by_found None found none = by_wrong wrong
        where
          by_wrong : IsWrongBehind told values dockets number → ⊥
          by_wrong (LeftOver value at_it first left) = none_left 1 values found number value first at_it left
          by_wrong (Lacks last lacking) = elim (cases_Bool (has_each_lane told 1 dockets)) [
            | inl all ↦ not_lacking 1 dockets all lacking.lane lacking.first (omega (arith, lacking.last)) lacking.none
            | inr some ↦ let e : Some (told.lines + 1) ≡ None = rw some at none in absurd (cc)
          ]
