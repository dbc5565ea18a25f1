-- Lanes that begin a section, are refused, leave, regain and pass over records.
use Rattle.rule_chain.specs.Configuration.{Configuration}
use Rattle.std.proofs.Common.{◌≡◌, ℕ, ◌+◌, ◌%◌, ◌^◌, ◌<◌, ◌≤◌, Bool, false, List, [], ◌∷◌, ◌++◌, length, Option, Some, None, refl, sym, ap, ◌∙◌, subst, zero, suc, inl, inr}
use Rattle.std.proofs.lemmas.List.{append-nil}
use Rattle.std.specs.Prelude.{All, IfSome, is_some, not, Result, Ok, Err, ◌⊎◌, slice_get}
use Rattle.std.specs.Arc.{arc_value}
use Rattle.std.specs.List.{AllByRecursion}
use Rattle.fw_base.proofs.Lists.{all_weaker}
use Rattle.atomic_table.specs.Seated.{TableId}
use Rattle.fw_base.specs.declared.failure.OutOfMemory.{OutOfMemory}
use Rattle.fw_world.proofs.Caching.{CacheStandsFor-skipped}
use Rattle.fw_world.proofs.Judging.{StandFor-skipped}
use Rattle.fw_world.proofs.LaneSteps.{IsLane-entered, IsLane-skipped, judged_editions-append, one_section}
use Rattle.fw_world.proofs.Passing.{not_judged}
use Rattle.fw_world.proofs.Records.{slice_get-append, slice_get-last}
use Rattle.fw_world.proofs.Seen.{IsCacheSeen-more}
use Rattle.fw_world.specs.Inputs.{Input}
use Rattle.fw_world.specs.Lane.{one_looser}
use Rattle.fw_world.specs.LaneKept.{IsLane}
use Rattle.fw_world.specs.LaneSteps.{LaneEnters, work_after_section}
use Rattle.fw_world.specs.Sections.{judged_editions}
use Rattle.fw_world.specs.Skips.{entry_for, skipped_input}
use Rattle.fw_world.specs.declared.lane_work.LaneWork.{LaneWork}
use Rattle.fw_world.specs.declared.skipped.Skipped.{Skipped}
use Rattle.fw_world.specs.declared.skipped.Skipped.TheVariants.{Other, Malformed}
use Rattle.generation_store.specs.Published.{IsEdition}
use Rattle.rm_lock.specs.Calls.{after_entry, after_refusal, after_lower, after_regain, Regains}
use Rattle.rm_table.specs.Moves.{SeenAs, SeenUpTo}
use Rattle.shared_world.proofs.Standing.{keeps-standing}
use Rattle.shared_world.specs.Known.{Known, SharedEdition, means}
use Rattle.shared_world.specs.LaneCalls.{EntersIn, IsRefused, RegainsLane, LeavesLane, SkipsNext}
use Rattle.shared_world.specs.LaneKept.{IsSharedLane, IsSeenIn, ReadsSeen, plain_of}
use Rattle.shared_world.specs.SharedLane.{SharedLane, SharedInside, lane_of, edition_read, with_entry}
use Rattle.shared_world.specs.Standing.{LaneStandsFor, KeepsStanding}

-- the lane of a seat and of work that are these
pub lane-path : (table t : TableId) (v u : Known) (work w : LaneWork) → table ≡ t → v ≡ u → work ≡ w → lane_of table v work ≡ lane_of t u w
lane-path table t v u work w a b c = λ i. lane_of (a i) (b i) (c i)

-- a lane within a section, of this seat and this work
abbrev pub inside_of : TableId → Known → LaneWork → Bool → SharedInside
inside_of table v work judged = record { lane = lane_of table v work; edition = edition_read v; judged = judged }

-- a lane that saw, asked, entered and counted what it had stands for what it stood for
keeps : (before after : SharedLane) → after.seen ≡ before.seen → after.asks ≡ before.asks → after.docket.entries ≡ before.docket.entries → after.tally ≡ before.tally → after.cache ≡ before.cache → KeepsStanding before after
keeps before after seen asks entries tally cache = keeps-standing before after [] (seen ∙ sym (append-nil before.seen)) asks entries tally cache

-- a lane that left its section
pub left : (table t : TableId) (v u : Known) (work w : LaneWork) (judged : Bool) → t ≡ table → u ≡ after_lower v → w ≡ work_after_section (not judged) work → LeavesLane (inside_of table v work judged) (lane_of t u w)
left table t v u work w judged a b c =
    let before = lane_of table v work in
    let after = lane_of table (after_lower v) (work_after_section (not judged) work) in
    let same = lane-path t table u (after_lower v) w (work_after_section (not judged) work) a b c in
    record { lane_is = same; stands = subst (λ (l : SharedLane). KeepsStanding before l) (sym same) (keeps before after refl refl refl refl refl) }

heard : (refusal : Option ℕ) (number : ℕ) → ((t : ℕ) → refusal ≡ Some t → t ≤ number) → IfSome refusal (λ refused. refused ≤ number)
heard None number all = tt
heard (Some refused) number all = all refused refl

-- a lane that regained
pub regained : (table t : TableId) (v u : Known) (work : LaneWork) → t ≡ table → Regains v u → RegainsLane (lane_of table v work) (lane_of t u work)
regained table t v u work a r =
    let before = lane_of table v work in
    let after = lane_of table (after_regain v r.others r.number) work in
    let same = lane-path t table u (after_regain v r.others r.number) work work a r.after_is refl in
    record {
      number = r.number;
      held = r.held;
      heard = heard v.part.refusal r.number r.refusals;
      latest = r.seen;
      lane_is = same;
      stands = subst (λ (l : SharedLane). KeepsStanding before l) (sym same) (keeps before after refl refl refl refl refl);
    }

-- a lane that is in a new section
pub entered : (table t : TableId) (v u : Known) (work w : LaneWork) (e : SharedEdition) → t ≡ table → u ≡ after_entry means v e → w ≡ work_after_section (is_some v.part.refusal) work → (arc_value e).number ≡ v.part.held → SeenUpTo v.part (arc_value e).number
    → SeenAs v.part (arc_value e).number (arc_value e).config → EntersIn (lane_of table v work) (inside_of t u w false)
entered table t v u work w e a b c number latest named =
    let before = lane_of table v work in
    let after = lane_of table (after_entry means v e) (work_after_section (is_some v.part.refusal) work) in
    let same = lane-path t table u (after_entry means v e) w (work_after_section (is_some v.part.refusal) work) a b c in
    record {
      edition = arc_value e;
      reads = ap edition_read b;
      held = number;
      latest = latest;
      named = named;
      lane_is = same;
      fresh = refl;
      stands = subst (λ (l : SharedLane). KeepsStanding before l) (sym same) (keeps-standing before after (((arc_value e).number, (arc_value e).config) ∷ []) refl refl refl refl refl);
    }

-- what holds of it
pub entered-kept : (v : Known) (work : LaneWork) (e : SharedEdition) → IsSharedLane 0 v work → IsSharedLane 1 (after_entry means v e) (work_after_section (is_some v.part.refusal) work)
entered-kept v work e is = record {
  plain =
      let loose = one_looser (is_some v.part.refusal) work.loose in
      subst (λ (t : ℕ). IsLane 1 (record (plain_of v work) { tracker = t; loose = loose })) (one_section v.part.sections) (IsLane-entered (plain_of v work) is.plain);
  of_book = record { first = is.of_book.first; count = is.of_book.count; rest = is.of_book.rest; opened = is.of_book.opened; last = is.of_book.last };
  judged = is.judged;
  seen = all_weaker (IsSeenIn v.part.pairs) (IsSeenIn (v.part.pairs ++ ((arc_value e).number, (arc_value e).config) ∷ []))
      (λ number one. record { index = one.index; config = one.config; pair = slice_get-append v.part.pairs (((arc_value e).number, (arc_value e).config) ∷ []) one.index (number, one.config) one.pair }) (judged_editions work.docket.entries) is.seen;
  cached = IsCacheSeen-more v.part.pairs (((arc_value e).number, (arc_value e).config) ∷ []) work.cache is.cached;
}

some-is : (a b : SharedEdition) → ◌≡◌ {A = Option SharedEdition} (Some a) (Some b) → a ≡ b
some-is a b same = cc

-- what stands in a list with one more stands in the list, or is that one
at_end : {X : Type 0} (xs : List X) (y z : X) (j : ℕ) → slice_get (xs ++ y ∷ []) j ≡ Some z → (slice_get xs j ≡ Some z) ⊎ (Some y ≡ Some z)
at_end [] y z zero is = inr is
at_end [] y z (suc j) is = inl is
at_end (x ∷ xs) y z zero is = inl is
at_end (x ∷ xs) y z (suc j) is = at_end xs y z j is

abbrev config_of : Configuration → Option (ℕ × Configuration) → Configuration
config_of other None = other
config_of other (Some pair) = pair.1

-- it reads what it saw
pub entered-reads : (v : Known) (e found : SharedEdition) → (arc_value e).number ≡ v.part.held → (after_entry means v e).part.reading ≡ Some found → IsEdition (arc_value found)
    → SeenAs v.part (arc_value e).number (arc_value e).config → ReadsSeen (after_entry means v e)
entered-reads v e found number reading lawful names = record {
  edition = e;
  reading = refl;
  held = number;
  lawful = subst (λ (d : SharedEdition). IsEdition (arc_value d)) (sym (some-is e found reading)) lawful;
  index = length v.part.pairs;
  seen = slice_get-last v.part.pairs ((arc_value e).number, (arc_value e).config);
  named = λ j other at. by_place j other (at_end v.part.pairs ((arc_value e).number, (arc_value e).config) ((arc_value e).number, other) j at);
}
  where
    by_place : (j : ℕ) (other : Configuration) → (slice_get v.part.pairs j ≡ Some ((arc_value e).number, other)) ⊎ (◌≡◌ {A = Option (ℕ × Configuration)} (Some ((arc_value e).number, (arc_value e).config)) (Some ((arc_value e).number, other))) → other ≡ (arc_value e).config
    by_place j other (inl before) = names j other before
    by_place j other (inr last) = sym (ap (config_of other) last)

-- a lane that was refused
pub refused : (table t : TableId) (v u : Known) (work w : LaneWork) (number : ℕ) → t ≡ table → u ≡ after_refusal v number
    → w ≡ record (work_after_section (is_some v.part.refusal) work) { docket = record work.docket { refused = (work.docket.refused + 1) % 2 ^ 64 } }
    → v.part.held < number → IsRefused (lane_of table v work) (lane_of t u w) number
refused table t v u work w number a b c above =
    let before = lane_of table v work in
    let more : LaneWork = record (work_after_section (is_some v.part.refusal) work) { docket = record work.docket { refused = (work.docket.refused + 1) % 2 ^ 64 } } in
    let after = lane_of table (after_refusal v number) more in
    let same = lane-path t table u (after_refusal v number) w more a b c in
    record { above = above; lane_is = same; stands = subst (λ (l : SharedLane). KeepsStanding before l) (sym same) (keeps before after refl refl refl refl refl) }

-- a lane that passed over a record stands for it behind its inputs
stands-skipped : (lane : SharedLane) (entry : Skipped) (inputs : List Input) → LaneStandsFor lane inputs → LaneStandsFor (with_entry (entry_for entry) lane) (inputs ++ skipped_input entry ∷ [])
unfolding LaneStandsFor
stands-skipped lane Other inputs stands = λ editions are.
    let stood = stands editions are in
    let more = (with_entry (entry_for Other) lane).docket in
    record {
      stands = StandFor-skipped editions lane.asks lane.docket lane.tally inputs stood.stands (skipped_input Other) (entry_for Other) refl tt refl more refl;
      cached = CacheStandsFor-skipped editions lane.docket inputs stood.stands.entered lane.cache (skipped_input Other) (entry_for Other) more refl refl stood.cached;
    }
stands-skipped lane (Malformed kind) inputs stands = λ editions are.
    let stood = stands editions are in
    let more = (with_entry (entry_for (Malformed kind)) lane).docket in
    record {
      stands = StandFor-skipped editions lane.asks lane.docket lane.tally inputs stood.stands (skipped_input (Malformed kind)) (entry_for (Malformed kind)) refl tt refl more refl;
      cached = CacheStandsFor-skipped editions lane.docket inputs stood.stands.entered lane.cache (skipped_input (Malformed kind)) (entry_for (Malformed kind)) more refl refl stood.cached;
    }

-- a lane that passed over a record, or failed to
pub skipped : (table : TableId) (v : Known) (work w : LaneWork) (entry : Skipped) (result : Result (Unit {0}) OutOfMemory) → LaneEnters work w (entry_for entry) result
    → SkipsNext (lane_of table v work) (lane_of table v w) entry result
skipped table v work w entry (Ok done) enters =
    let same = ap (λ (x : LaneWork). lane_of table v x) enters.entered in
    record {
      lane_is = same;
      stands = λ inputs stands. subst (λ (l : SharedLane). LaneStandsFor l (inputs ++ skipped_input entry ∷ [])) (sym same) (stands-skipped (lane_of table v work) entry inputs stands);
      working = enters.working;
      failed = tt;
    }
skipped table v work w entry (Err fault) enters = record { lane_is = tt; stands = tt; working = tt; failed = ap (λ (x : LaneWork). lane_of table v x) enters.failed }

-- what holds of it
pub skipped-kept : (v : Known) (work w : LaneWork) (entry : Skipped) (result : Result (Unit {0}) OutOfMemory) → LaneEnters work w (entry_for entry) result → IsSharedLane 0 v work → IsSharedLane 0 v w
skipped-kept v work w entry (Ok done) enters is = subst (λ (x : LaneWork). IsSharedLane 0 v x) (sym enters.entered) (record {
  plain = IsLane-skipped (plain_of v work) (entry_for entry) (not_judged entry) is.plain;
  of_book = is.of_book;
  judged =
      let same = judged_editions-append work.docket.entries (entry_for entry ∷ []) ∙ ap (λ (rest : List ℕ). judged_editions work.docket.entries ++ rest) (not_judged entry) ∙ append-nil _ in
      subst (λ (numbers : List ℕ). All (λ number. number ≤ v.part.held) numbers) (sym same) is.judged;
  seen =
      let same = judged_editions-append work.docket.entries (entry_for entry ∷ []) ∙ ap (λ (rest : List ℕ). judged_editions work.docket.entries ++ rest) (not_judged entry) ∙ append-nil _ in
      subst (λ (numbers : List ℕ). AllByRecursion (IsSeenIn v.part.pairs) numbers) (sym same) is.seen;
  cached = is.cached;
})
skipped-kept v work w entry (Err fault) enters is = subst (λ (x : LaneWork). IsSharedLane 0 v x) (sym enters.failed) (record {
  plain = record { numbered = is.plain.numbered; above = is.plain.above; rising = is.plain.rising; few = is.plain.few; tracked = is.plain.tracked };
  of_book = is.of_book;
  judged = is.judged;
  seen = is.seen;
  cached = is.cached;
})
