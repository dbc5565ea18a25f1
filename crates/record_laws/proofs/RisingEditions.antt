-- Editions in a docket never fall.
use Rattle.std.proofs.Common.{◌≡◌, ℕ, zero, suc, ◌+◌, ◌<◌, ◌≤◌, List, [], ◌∷◌, length, get_or, map, ap, subst, arith}
use Rattle.std.specs.Prelude.{Option, Some, None, slice_get}
use Rattle.std.specs.List.{cons_option}
use Rattle.std.specs.List.Sorted.{IsNonDecreasing}
use Rattle.counter_book.specs.declared.tally.Count.{Count}
use Rattle.eval_engine.proofs.Dockets.{judgements-judged}
use Rattle.eval_engine.specs.Dockets.{DocketValue, judged_entry, judgement_in, judgements}
use Rattle.eval_engine.specs.declared.docket_entry.DocketEntry.{DocketEntry}
use Rattle.eval_engine.specs.declared.judgement.Judgement.{Judgement}
use Rattle.fw_world.specs.Inputs.{Input}
use Rattle.fw_world.specs.Lanes.{EachLane, LaneCounts}
use Rattle.fw_world.specs.Sections.{judged_editions}
use Rattle.record_laws.specs.Dockets.{EditionsNeverFall}

-- a bound of all of these numbers is one of the first
first_above : (low number : ℕ) (numbers : List ℕ) → ((k d : ℕ) → k < length (number ∷ numbers) → low ≤ get_or (number ∷ numbers) k d) → low ≤ number
first_above low number numbers all = all 0 0 (omega arith)

-- the editions of these judgements, in order
abbrev editions_of : List Judgement → List ℕ
editions_of all = map (λ judgement. judgement.edition) all

-- a bound of the editions of all judgements is one behind the first entry
others_above : (low : ℕ) (first : Option Judgement) (rest : List Judgement) → ((k d : ℕ) → k < length (editions_of (cons_option first rest)) → low ≤ get_or (editions_of (cons_option first rest)) k d)
    → (k d : ℕ) → k < length (editions_of rest) → low ≤ get_or (editions_of rest) k d
others_above low None rest all = all
others_above low (Some judgement) rest all = λ k d within. all (suc k) d (omega arith)

-- where numbers rise the first is a bound of the others
above_first : (number : ℕ) (numbers : List ℕ) → IsNonDecreasing (number ∷ numbers) → (k d : ℕ) → k < length numbers → number ≤ get_or numbers k d
above_first number numbers rising k d within = rising 0 (suc k) d (omega arith) (omega arith)

-- the editions behind the first entry rise where all rise
others_rise : (first : Option Judgement) (rest : List Judgement) → IsNonDecreasing (editions_of (cons_option first rest)) → IsNonDecreasing (editions_of rest)
others_rise None rest rising = rising
others_rise (Some judgement) rest rising = λ i j d below within. rising (suc i) (suc j) d (omega arith) (omega arith)

-- a bound of all judged editions is one of each
above : (low : ℕ) (entries : List DocketEntry) (place : ℕ) (b : Judgement) → slice_get entries place ≡ Some (judged_entry b)
    → ((k d : ℕ) → k < length (judged_editions entries) → low ≤ get_or (judged_editions entries) k d) → low ≤ b.edition
above low [] place b is all = cc
above low (entered ∷ entries) zero b is all =
    let same : entered ≡ judged_entry b = cc in
    first_above low b.edition (judged_editions entries)
    (subst (λ (numbers : List ℕ). (k d : ℕ) → k < length numbers → low ≤ get_or numbers k d) (ap editions_of (judgements-judged entered entries b same)) all)
above low (entered ∷ entries) (suc place) b is all = above low entries place b is (others_above low (judgement_in entered) (judgements entries) all)

never_falls : (entries : List DocketEntry) → IsNonDecreasing (judged_editions entries) → (earlier later : ℕ) (a b : Judgement) → earlier < later
    → slice_get entries earlier ≡ Some (judged_entry a) → slice_get entries later ≡ Some (judged_entry b) → a.edition ≤ b.edition
never_falls [] rising earlier later a b less first second = cc
never_falls (entered ∷ entries) rising earlier zero a b less first second = absurd (omega arith)
never_falls (entered ∷ entries) rising zero (suc later) a b less first second =
    let same : entered ≡ judged_entry a = cc in
    above a.edition entries later b second
    (above_first a.edition (judged_editions entries) (subst (λ (numbers : List ℕ). IsNonDecreasing numbers) (ap editions_of (judgements-judged entered entries a same)) rising))
never_falls (entered ∷ entries) rising (suc earlier) (suc later) a b less first second =
    never_falls entries (others_rise (judgement_in entered) (judgements entries) rising) earlier later a b (omega arith) first second

-- what holds of each lane holds of that of a docket
lane_at : (P : ℕ → List Input → DocketValue → List Count → ℕ → Type 0) (lane : ℕ) (inputs : List (List Input)) (dockets : List DocketValue) (tallies : List (List Count)) (trackers : List ℕ)
    → EachLane P lane inputs dockets tallies trackers → (place : ℕ) (docket : DocketValue) → slice_get dockets place ≡ Some docket
    → (number : ℕ) × (own : List Input) × (tally : List Count) × (tracker : ℕ) × P number own docket tally tracker
lane_at P lane [] [] [] [] each place docket is = cc
lane_at P lane (own ∷ inputs) (first ∷ dockets) (tally ∷ tallies) (tracker ∷ trackers) each zero docket is =
    let same : first ≡ docket = cc in (lane, own, tally, tracker, subst (λ (d : DocketValue). P lane own d tally tracker) same each.0)
lane_at P lane (own ∷ inputs) (first ∷ dockets) (tally ∷ tallies) (tracker ∷ trackers) each (suc place) docket is =
    lane_at P (suc lane) inputs dockets tallies trackers (let next : lane + 1 ≡ suc lane = omega arith in subst (λ n. EachLane P n inputs dockets tallies trackers) next each.1) place docket is
lane_at P lane inputs dockets tallies trackers each place docket is = absurd each

-- in a docket of a legal record a later packet has no older edition
pub editions_never_fall : EditionsNeverFall
editions_never_fall first commands inputs r legal lane docket is =
    let (number, own, tally, tracker, sections) = lane_at (LaneCounts r) 1 inputs r.dockets r.tallies r.trackers legal.sections lane docket is in
    never_falls docket.entries sections.rising
