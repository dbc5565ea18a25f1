-- Where what was kept of the lines is used up, none of the lines is left over.
use Rattle.std.proofs.Common.{◌≡◌, ℕ, ◌+◌, Bool, true, false, not, List, [], ◌∷◌, None, refl, sym, ap, ◌∙◌, subst}
use Rattle.std.specs.Prelude.{◌&&◌, is_some}
use Rattle.std.specs.List.{list_all}
use Rattle.std.proofs.lemmas.Bool.{and_parts}
use Rattle.eval_engine.specs.declared.docket_entry.DocketEntry.{DocketEntry}
use Rattle.report_reading.specs.Readings.{LineValue, OfRecord, OfPublication, OfAsk, OfLane, OfOther}
use Rattle.state_journal.specs.declared.entry.Entry.{Entry}
use Rattle.state_journal.specs.declared.entry.Entry.TheVariants.{Publish, Ask}
use Rattle.run_audit.specs.AskNames.{AskName, names_in, names_told}
use Rattle.run_audit.specs.Judging.{ToldValue}
use Rattle.run_audit.specs.LeftOver.{first_left_over, is_judged, is_wrong_lane}
use Rattle.run_audit.specs.NothingLeft.{IsKeptOf, is_given, is_nothing_left, is_of_judged, is_right_lane}
use Rattle.run_audit.specs.OtherLines.{entry_at}
use Rattle.run_audit.specs.ToldReport.{records_from, lanes_from}
use Rattle.run_audit.specs.declared.told_report.ToldLane.{ToldLane}
use Rattle.run_audit.specs.declared.told_report.ToldRecord.{ToldRecord}
use Rattle.run_audit.proofs.LeftOvers.{not_true}

-- a record of that name was judged
abbrev is_name_judged : List (List DocketEntry) → AskName → Bool
is_name_judged dockets name = is_judged dockets name.lane name.at

-- the asks of a journal are of judged records where the records of their names are
entries_by_names : (dockets : List (List DocketEntry)) (entries : List Entry) → list_all (is_of_judged dockets) entries ≡ list_all (is_name_judged dockets) (names_in entries)
entries_by_names dockets [] = refl
entries_by_names dockets (Publish number ∷ entries) = entries_by_names dockets entries
entries_by_names dockets (Ask lane op reply at ∷ entries) = ap (λ (b : Bool). is_judged dockets lane at && b) (entries_by_names dockets entries)

none_over : (told : ToldValue) (dockets : List (List DocketEntry)) (number : ℕ) (values : List LineValue) → list_all (is_given dockets) (records_from number values) ≡ true
    → list_all (is_name_judged dockets) (names_told values) ≡ true → list_all (is_right_lane told dockets) (lanes_from number values) ≡ true
    → first_left_over told dockets number values ≡ None
unfolding records_from lanes_from
none_over told dockets number [] given judged right = refl
none_over told dockets number (OfRecord one ∷ values) given judged right =
    let (here, others) = and_parts (is_some (entry_at dockets one.capture one.at)) (list_all (is_given dockets) (records_from (number + 1) values)) given in
    rw here (none_over told dockets (number + 1) values others judged right)
none_over told dockets number (OfPublication edition ∷ values) given judged right = none_over told dockets (number + 1) values given judged right
none_over told dockets number (OfAsk one ∷ values) given judged right =
    let (here, others) = and_parts (is_judged dockets one.lane one.at) (list_all (is_name_judged dockets) (names_told values)) judged in
    rw here (none_over told dockets (number + 1) values given others right)
none_over told dockets number (OfLane one ∷ values) given judged right =
    let (here, others) = and_parts (not (is_wrong_lane told dockets number one)) (list_all (is_right_lane told dockets) (lanes_from (number + 1) values)) right in
    let so : is_wrong_lane told dockets number one ≡ false = not_true (is_wrong_lane told dockets number one) here in
    rw so (none_over told dockets (number + 1) values given judged others)
none_over told dockets number (OfOther ∷ values) given judged right = none_over told dockets (number + 1) values given judged right

-- where nothing that was kept of these lines is left, none of them is left over
pub nothing_over : (told : ToldValue) (dockets : List (List DocketEntry)) (values : List LineValue) → IsKeptOf values told → is_nothing_left told dockets ≡ true
    → first_left_over told dockets 1 values ≡ None
nothing_over told dockets values kept nothing =
    let (given, more) = and_parts (list_all (is_given dockets) told.records) (list_all (is_of_judged dockets) told.journal.entries && list_all (is_right_lane told dockets) told.lanes) nothing in
    let (judged, right) = and_parts (list_all (is_of_judged dockets) told.journal.entries) (list_all (is_right_lane told dockets) told.lanes) more in
    none_over told dockets 1 values
    (subst (λ (records : List ToldRecord). list_all (is_given dockets) records ≡ true) kept.records given)
    (ap (λ (names : List AskName). list_all (is_name_judged dockets) names) (sym kept.asks) ∙ sym (entries_by_names dockets told.journal.entries) ∙ judged)
    (subst (λ (lanes : List ToldLane). list_all (is_right_lane told dockets) lanes ≡ true) kept.lanes right)
