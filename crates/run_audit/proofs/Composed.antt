-- A record whose records, asks and sections are as a report tells them is legal.
use Rattle.std.proofs.Common.{◌≡◌, ℕ, ◌+◌, ◌-◌, ◌<◌, ◌≤◌, ◌==◌, List, [], ◌∷◌, ◌++◌, length, Option, Some, None, refl, sym, ap, ◌∙◌, subst, inl, inr, arith}
use Rattle.std.specs.Prelude.{slice_get, IsSome, option_and_then}
use Rattle.std.specs.List.{AllByRecursion}
use Rattle.std.proofs.lemmas.Bool.{cases_Bool, eqb-true}
use Rattle.std.proofs.lemmas.Option.{slice_get_within}
use Rattle.std.proofs.lemmas.List.{append_assoc, length-append, length-map}
use Rattle.counter_book.specs.declared.tally.Count.{Count}
use Rattle.eval_engine.specs.Dockets.{DocketValue, judgement_in}
use Rattle.eval_engine.specs.declared.docket_entry.DocketEntry.{DocketEntry}
use Rattle.fw_rule.specs.declared.command.Command.{Command}
use Rattle.fw_world.specs.Asks.{asks_in, lane_asks}
use Rattle.fw_world.specs.Editions.{AreEditions}
use Rattle.fw_world.specs.Entries.{EachRecord, IsEntryFor, IsEvaluated}
use Rattle.fw_world.specs.Inputs.{Input}
use Rattle.fw_world.specs.Lanes.{EachLane, LaneStands, LaneCounts}
use Rattle.fw_world.specs.Legal.{IsLegal}
use Rattle.fw_world.specs.Publications.{IsLawful, IsPublished, facts_of}
use Rattle.fw_world.specs.RecordValue.{RecordValue}
use Rattle.fw_world.specs.Standing.{StandFor}
use Rattle.rule_chain.specs.Configuration.{Configuration}
use Rattle.state_asks.specs.declared.facts.Facts.{Facts}
use Rattle.state_journal.specs.Entries.{AreOfLanes}
use Rattle.state_journal.specs.Items.{asks_of}
use Rattle.state_journal.specs.Journal.{IsJournal, IsLawfulFrom, no_states, object_from}
use Rattle.state_journal.specs.declared.entry.Entry.{Entry}
use Rattle.state_journal.specs.declared.entry.Entry.TheVariants.{Publish, Ask}
use Rattle.run_audit.proofs.LaneAsks.{IsOfJudged, lane_asked}
use Rattle.run_audit.specs.Audit.{AreTalliesOf}
use Rattle.run_audit.specs.Composition.{IsOfJudgedRecord, HaveSections}
use Rattle.run_audit.specs.JudgingValues.{entries_of_each}
use Rattle.run_audit.specs.Judging.{ToldValue, AreToldSo, IsToldSo, asks_told}
use Rattle.run_audit.specs.OtherLines.{judgement_at}

-- ---- asks

-- the asks of a lane are of its judged records
lane_judged : (dockets : List (List DocketEntry)) (lane after : ℕ) (own : List DocketEntry) (entries : List Entry) → slice_get dockets (lane - 1) ≡ Some own
    → AllByRecursion (IsOfJudgedRecord dockets) entries → AllByRecursion (IsOfJudged own) (asks_in (asks_of lane after entries))
lane_judged dockets lane after own [] is all = tt
lane_judged dockets lane after own (Publish number ∷ entries) is all = lane_judged dockets lane number own entries is all.1
lane_judged dockets lane after own (Ask by op reply at ∷ entries) is all = elim (cases_Bool (by == lane)) [
  | inl same ↦
      let here : IsSome (judgement_at dockets lane at) = subst (λ (n : ℕ). IsSome (judgement_at dockets n at)) (eqb-true by lane same) all.0.2 in
      let judged : IsSome (option_and_then judgement_in (slice_get own (at - 1))) =
      subst (λ (o : Option (List DocketEntry)). IsSome (option_and_then judgement_in (option_and_then (λ (entries_there : List DocketEntry). slice_get entries_there (at - 1)) o))) is here in
      rw same ((all.0.1, judged), lane_judged dockets lane after own entries is all.1)
  | inr other ↦ rw other (lane_judged dockets lane after own entries is all.1)
]

some_docket : (dockets : List (List DocketEntry)) (lane at : ℕ) → IsSome (judgement_at dockets lane at) → (own : List DocketEntry) × (slice_get dockets (lane - 1) ≡ Some own)
some_docket dockets lane at is = by_docket (slice_get dockets (lane - 1)) refl is
  where
    by_docket : (o : Option (List DocketEntry)) → slice_get dockets (lane - 1) ≡ o → IsSome (option_and_then judgement_in (option_and_then (λ (entries_there : List DocketEntry). slice_get entries_there (at - 1)) o))
        → (own : List DocketEntry) × (slice_get dockets (lane - 1) ≡ Some own)
    by_docket None same some = absurd (cc)
    by_docket (Some own) same some = (own, same)

-- nobody but the lanes asks
of_lanes : (dockets : List (List DocketEntry)) (lanes : ℕ) (entries : List Entry) → length dockets ≡ lanes → AllByRecursion (IsOfJudgedRecord dockets) entries → AreOfLanes lanes entries
of_lanes dockets lanes [] many all = tt
of_lanes dockets lanes (Publish number ∷ entries) many all = (tt, of_lanes dockets lanes entries many all.1)
of_lanes dockets lanes (Ask lane op reply at ∷ entries) many all =
    let (own, is) = some_docket dockets lane at all.0.2 in
    let within : lane - 1 < length dockets = slice_get_within dockets (lane - 1) own is in
    let first : 1 ≤ lane = all.0.0 in
    let last : lane ≤ lanes = omega (arith, within, first, many) in
    ((first, last), of_lanes dockets lanes entries many all.1)

-- ---- lanes

entered_so : (told : ToldValue) (lane at : ℕ) (inputs : List Input) (entries : List DocketEntry) → EachRecord (IsToldSo told lane) at inputs entries → EachRecord IsEntryFor at inputs entries
entered_so told lane at [] [] each = tt
entered_so told lane at [] (first ∷ entries) each = each
entered_so told lane at (met ∷ inputs) [] each = each
entered_so told lane at (met ∷ inputs) (first ∷ entries) each = (each.0.entered, entered_so told lane (at + 1) inputs entries each.1)

evaluated_so : (told : ToldValue) (lane at : ℕ) (inputs : List Input) (entries : List DocketEntry) → EachRecord (IsToldSo told lane) at inputs entries
    → EachRecord (IsEvaluated told.editions (asks_told told lane)) at inputs entries
evaluated_so told lane at [] [] each = tt
evaluated_so told lane at [] (first ∷ entries) each = each
evaluated_so told lane at (met ∷ inputs) [] each = each
evaluated_so told lane at (met ∷ inputs) (first ∷ entries) each = (each.0.evaluated, evaluated_so told lane (at + 1) inputs entries each.1)

-- the docket in a place, behind others
pub same_docket : (all front rest : List (List DocketEntry)) (own : List DocketEntry) (lane : ℕ) → all ≡ front ++ own ∷ rest → lane ≡ length front + 1 → slice_get all (lane - 1) ≡ Some own
same_docket all front rest own lane is place =
    let there : lane - 1 ≡ length front = omega (arith, place) in
    ap (λ (n : ℕ). slice_get all n) there ∙ ap (λ (xs : List (List DocketEntry)). slice_get xs (length front)) is ∙ middle front
  where
    middle : (xs : List (List DocketEntry)) → slice_get (xs ++ own ∷ rest) (length xs) ≡ Some own
    middle [] = refl
    middle (x ∷ xs) = middle xs

module _ (told : ToldValue) (all : List (List DocketEntry)) (judged : AllByRecursion (IsOfJudgedRecord all) told.journal.entries) (r : RecordValue)
    (editions : r.editions ≡ told.editions) (entries : r.journal.entries ≡ told.journal.entries)
  where
    each_stands : (front : List (List DocketEntry)) (lane : ℕ) (inputs : List (List Input)) (dockets : List DocketValue) (tallies : List (List Count)) (trackers : List ℕ)
        → all ≡ front ++ entries_of_each dockets → lane ≡ length front + 1 → AreToldSo told lane inputs (entries_of_each dockets) → AreTalliesOf told lane inputs (entries_of_each dockets) tallies
        → length trackers ≡ length dockets → EachLane (LaneStands r) lane inputs dockets tallies trackers
    each_stands front lane [] [] [] [] is place so counted many = tt
    each_stands front lane [] [] [] (tracker ∷ trackers) is place so counted many = absurd (omega (arith, many))
    each_stands front lane [] [] (tally ∷ tallies) trackers is place so counted many = absurd counted
    each_stands front lane [] (docket ∷ dockets) tallies trackers is place so counted many = absurd so
    each_stands front lane (own ∷ inputs) [] tallies trackers is place so counted many = absurd so
    each_stands front lane (own ∷ inputs) (docket ∷ dockets) [] trackers is place so counted many = absurd counted
    each_stands front lane (own ∷ inputs) (docket ∷ dockets) (tally ∷ tallies) [] is place so counted many = absurd (omega (arith, many))
    each_stands front lane (own ∷ inputs) (docket ∷ dockets) (tally ∷ tallies) (tracker ∷ trackers) is place so counted many =
        let here = same_docket all front (entries_of_each dockets) docket.entries lane is place in
        let asked = lane_asked told lane own docket.entries so.0 (lane_judged all lane 0 docket.entries told.journal.entries here judged) in
        let stands : StandFor told.editions (asks_told told lane) docket tally own = record {
          entered = entered_so told lane 1 own docket.entries so.0;
          evaluated = evaluated_so told lane 1 own docket.entries so.0;
          tallied = counted.0;
          asked = asked;
        } in
        let rest : all ≡ (front ++ docket.entries ∷ []) ++ entries_of_each dockets = is ∙ sym (append_assoc front (docket.entries ∷ []) (entries_of_each dockets)) in
        let next : lane + 1 ≡ length (front ++ docket.entries ∷ []) + 1 = omega (arith, place, length-append front (docket.entries ∷ [])) in (
          subst (λ (es : List _). StandFor es (lane_asks lane r.journal.entries) docket tally own) (sym editions)
              (subst (λ (es : List Entry). StandFor told.editions (lane_asks lane es) docket tally own) (sym entries) stands),
          each_stands (front ++ docket.entries ∷ []) (lane + 1) inputs dockets tallies trackers rest next so.1 counted.1 (omega (arith, many)),
        )

each_counts : (r : RecordValue) (lane : ℕ) (inputs : List (List Input)) (dockets : List DocketValue) (tallies : List (List Count)) (trackers : List ℕ)
    → length inputs ≡ length dockets → length tallies ≡ length dockets → HaveSections (length r.editions) dockets trackers → EachLane (LaneCounts r) lane inputs dockets tallies trackers
each_counts r lane [] [] [] [] many counted have = tt
each_counts r lane [] [] [] (tracker ∷ trackers) many counted have = absurd have
each_counts r lane [] [] (tally ∷ tallies) trackers many counted have = absurd (omega (arith, counted))
each_counts r lane [] (docket ∷ dockets) tallies trackers many counted have = absurd (omega (arith, many))
each_counts r lane (own ∷ inputs) [] tallies trackers many counted have = absurd (omega (arith, many))
each_counts r lane (own ∷ inputs) (docket ∷ dockets) [] trackers many counted have = absurd (omega (arith, counted))
each_counts r lane (own ∷ inputs) (docket ∷ dockets) (tally ∷ tallies) [] many counted have = absurd have
each_counts r lane (own ∷ inputs) (docket ∷ dockets) (tally ∷ tallies) (tracker ∷ trackers) many counted have =
    (have.0, each_counts r (lane + 1) inputs dockets tallies trackers (omega (arith, many)) (omega (arith, counted)) have.1)

have_length : (editions : ℕ) (dockets : List DocketValue) (trackers : List ℕ) → HaveSections editions dockets trackers → length trackers ≡ length dockets
have_length editions [] [] have = refl
have_length editions [] (tracker ∷ trackers) have = absurd have
have_length editions (docket ∷ dockets) [] have = absurd have
have_length editions (docket ∷ dockets) (tracker ∷ trackers) have = omega (arith, have_length editions dockets trackers have.1)

told_length : (told : ToldValue) (lane : ℕ) (inputs : List (List Input)) (dockets : List (List DocketEntry)) → AreToldSo told lane inputs dockets → length inputs ≡ length dockets
told_length told lane [] [] so = refl
told_length told lane [] (own ∷ dockets) so = absurd so
told_length told lane (own ∷ inputs) [] so = absurd so
told_length told lane (own ∷ inputs) (first ∷ dockets) so = omega (arith, told_length told (lane + 1) inputs dockets so.1)

tallies_length : (told : ToldValue) (lane : ℕ) (inputs : List (List Input)) (dockets : List (List DocketEntry)) (tallies : List (List Count)) → AreToldSo told lane inputs dockets
    → AreTalliesOf told lane inputs dockets tallies → length tallies ≡ length dockets
tallies_length told lane [] [] [] so counted = refl
tallies_length told lane [] [] (tally ∷ tallies) so counted = absurd counted
tallies_length told lane [] (own ∷ dockets) tallies so counted = absurd so
tallies_length told lane (own ∷ inputs) [] tallies so counted = absurd so
tallies_length told lane (own ∷ inputs) (first ∷ dockets) [] so counted = absurd counted
tallies_length told lane (own ∷ inputs) (first ∷ dockets) (tally ∷ tallies) so counted = omega (arith, tallies_length told (lane + 1) inputs dockets tallies so.1 counted.1)

-- ---- the record

-- a journal whose facts are those of the editions is lawful beside them
lawful_beside : (r : RecordValue) → IsJournal r.journal → IsPublished r.editions r.journal → IsLawful r.editions r.journal.entries × (r.journal.object ≡ object_from no_states (facts_of r.editions) r.journal.entries)
lawful_beside r is published = (
  record {
    begins = is.begins;
    replied = subst (λ (facts : List Facts). IsLawfulFrom no_states facts r.journal.entries) (sym published.factual) is.lawful;
  },
  is.object ∙ ap (λ (facts : List Facts). object_from no_states facts r.journal.entries) (sym published.factual),
)

-- Passes two and three make a record legal: the editions are those of the commands, the journal is lawful and publishes
-- them, the records and sections are as they are told, and each ask is of a judged record.
pub composed : (first : Configuration) (commands : List Command) (inputs : List (List Input)) (told : ToldValue) (r : RecordValue) → r.editions ≡ told.editions → r.journal ≡ told.journal
    → AreEditions first commands r.editions → IsJournal r.journal → IsPublished r.editions r.journal → AreToldSo told 1 inputs (entries_of_each r.dockets)
    → AreTalliesOf told 1 inputs (entries_of_each r.dockets) r.tallies → AllByRecursion (IsOfJudgedRecord (entries_of_each r.dockets)) told.journal.entries
    → HaveSections (length r.editions) r.dockets r.trackers → IsLegal first commands inputs r
composed first commands inputs told r editions journal made is published so counted judged have =
    let (lawful, object) = lawful_beside r is published in
    let entries : r.journal.entries ≡ told.journal.entries = ap (λ j. j.entries) journal in
    let many : length inputs ≡ length (entries_of_each r.dockets) = told_length told 1 inputs (entries_of_each r.dockets) so in
    let same : length (entries_of_each r.dockets) ≡ length r.dockets = length-map r.dockets (λ (d : DocketValue). d.entries) in
    let tallies : length r.tallies ≡ length (entries_of_each r.dockets) = tallies_length told 1 inputs (entries_of_each r.dockets) r.tallies so counted in
    record {
      editions = made;
      published = published.once;
      lawful = lawful;
      object = object;
      lanes = each_stands told (entries_of_each r.dockets) judged r editions entries [] 1 inputs r.dockets r.tallies r.trackers refl refl so counted (have_length (length r.editions) r.dockets r.trackers have);
      asked = of_lanes (entries_of_each r.dockets) (length inputs) r.journal.entries (sym many) (subst (λ (es : List Entry). AllByRecursion (IsOfJudgedRecord (entries_of_each r.dockets)) es) (sym entries) judged);
      sections = each_counts r 1 inputs r.dockets r.tallies r.trackers (many ∙ same) (tallies ∙ same) have;
    }
