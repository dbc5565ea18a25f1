-- The longest run of zero groups, found from the last group to the first.
use Rattle.std.proofs.Common.{◌≡◌, ℕ, ◌+◌, ◌-◌, ◌<◌, ◌≤◌, suc, ◌==◌, nat_le, if◌then◌else◌, List, [], ◌∷◌, length, take, drop, get_or, refl, sym, ap, ◌∙◌, arith, drop-cons, inl, inr, length-drop}
use Rattle.std.proofs.lemmas.List.{drop_all, take_all}
use Rattle.std.proofs.lemmas.Bool.{lt-ltb, le-ltb}
use Rattle.std.proofs.lemmas.Bool.Decides.{eqb_tells, leb_tells}
use Rattle.rule_text.specs.Address6Text.{leading_zeros, longest_run, place_of_run, groups_joined, groups_text, shortened_text}
use Rattle.rule_text.specs.declared.address6_text.Run.{Run}
use Rattle.rule_text.proofs.ZeroRuns.{front_run, back_run, run_fits}

-- of the groups from a place on: how many zeros they begin with, and their longest run
pub record IsRunFrom (groups : List ℕ) (place behind : ℕ) (longest : Run) : Type 0 where
  pub within : place ≤ length groups
  pub zeros : behind ≡ leading_zeros (drop place groups)
  pub room : behind + place ≤ length groups
  pub count : longest.count ≡ longest_run (drop place groups)
  pub start : longest.place ≡ place + place_of_run longest.count (drop place groups)

-- behind the last group there is no run
pub run_starts : (groups : List ℕ) (place : ℕ) → place ≡ length groups → IsRunFrom groups place 0 (record { place = place; count = 0 })
unfolding leading_zeros longest_run place_of_run
run_starts groups place end =
    let none : drop place groups ≡ [] = drop_all place groups (omega arith) in
    record {
      within = omega arith;
      zeros = rw none refl;
      room = omega arith;
      count = rw none refl;
      start = rw none (omega arith);
    }

zeros_more : (group : ℕ) (groups : List ℕ) (here behind : ℕ) → behind ≡ leading_zeros groups → here ≡ (if group == 0 then suc behind else 0) → here ≡ leading_zeros (group ∷ groups)
unfolding leading_zeros
zeros_more group groups here behind zeros h = h ∙ ap (λ n. if group == 0 then suc n else 0) zeros

few_more : (group here behind : ℕ) → here ≡ (if group == 0 then suc behind else 0) → here ≤ suc behind
few_more group here behind h = elim (eqb_tells group 0) [ inl e ↦ omega (arith, rw e.0 at h) | inr e ↦ omega (arith, rw e.0 at h) ]

-- one group more at the front, where its run is the longest and where it isn't
record Grows (groups : List ℕ) (place here : ℕ) (found : Run) : Type 0 where
  count : found.count ≡ longest_run (drop place groups)
  start : found.place ≡ place + place_of_run found.count (drop place groups)

grows : (group : ℕ) (groups behind : List ℕ) (place here : ℕ) (longest found : Run) → drop place groups ≡ group ∷ behind → here ≡ leading_zeros (group ∷ behind)
    → longest.count ≡ longest_run behind → longest.place ≡ suc place + place_of_run longest.count behind
    → found ≡ (if nat_le longest.count here then record { place = place; count = here } else longest) → Grows groups place here found
grows group groups behind place here longest found all zeros count start f = elim (leb_tells longest.count here) [
  | inl h ↦
      let own : found ≡ record { place = place; count = here } = rw h.0 at f in
      let run = front_run group behind here zeros (omega (arith, h.1, count)) in
      record {
        count = ap (λ (r : Run). r.count) own ∙ run.longest ∙ ap longest_run (sym all);
        start = rw (own, all, run.front) (omega arith);
      }
  | inr h ↦
      let same : found ≡ longest = rw h.0 at f in
      let run = back_run group behind here longest.count zeros count h.1 in
      record {
        count = ap (λ (r : Run). r.count) same ∙ run.longest ∙ ap longest_run (sym all);
        start = rw (same, all, run.behind) (omega (arith, start));
      }
]

-- one group more at the front
pub run_goes : (groups : List ℕ) (from here behind : ℕ) (longest found : Run) → 0 < from → IsRunFrom groups from behind longest
    → here ≡ (if get_or groups (from - 1) 0 == 0 then suc behind else 0) → found ≡ (if nat_le longest.count here then record { place = from - 1; count = here } else longest)
    → IsRunFrom groups (from - 1) here found
run_goes groups from here behind longest found some r h f =
    let place : ℕ = from - 1 in
    let inside : place < length groups = omega (arith, r.within) in
    let next : from ≡ suc place = omega arith in
    let all : drop place groups ≡ get_or groups place 0 ∷ drop from groups = drop-cons groups place 0 inside ∙ ap (λ k. get_or groups place 0 ∷ drop k groups) (sym next) in
    let zeros : here ≡ leading_zeros (get_or groups place 0 ∷ drop from groups) = zeros_more _ _ _ _ r.zeros h in
    let more = grows _ groups (drop from groups) place here longest found all zeros r.count (r.start ∙ ap (λ k. k + place_of_run longest.count (drop from groups)) next) f in
    record {
      within = omega arith;
      zeros = zeros ∙ ap leading_zeros (sym all);
      room = omega (arith, few_more (get_or groups place 0) here behind h, r.room);
      count = more.count;
      start = more.start;
    }

-- the run that was found
pub record IsFound (groups : List ℕ) (longest : Run) : Type 0 where
  pub count : longest.count ≡ longest_run groups
  pub place : longest.place ≡ place_of_run longest.count groups
  pub within : longest.place + longest.count ≤ length groups

-- once every group was looked at, the run that was found is the whole list's
pub run_ends : (groups : List ℕ) (place behind : ℕ) (longest : Run) → place ≤ 0 → IsRunFrom groups place behind longest → IsFound groups longest
run_ends groups place behind longest end r =
    let none : place ≡ 0 = omega arith in
    let count : longest.count ≡ longest_run groups = r.count ∙ ap (λ k. longest_run (drop k groups)) none in
    let start : longest.place ≡ place_of_run longest.count groups = r.start ∙ ap (λ k. k + place_of_run longest.count (drop k groups)) none ∙ omega arith in
    record {
      count = count;
      place = start;
      within = omega (arith, start, count, ap (λ n. place_of_run n groups) count, run_fits groups);
    }

-- the text with no run shortened, and with one
pub text-joined : (groups : List ℕ) (count : ℕ) → count ≡ longest_run groups → count < 2 → groups_text groups ≡ groups_joined groups
unfolding groups_text
text-joined groups count same few = rw (← same, lt-ltb count 2 few) refl

-- the longest run is shortened in the text where it has two groups or more
pub text-shortened : (groups : List ℕ) (run : Run) → IsFound groups run → 2 ≤ run.count → groups_text groups ≡ shortened_text groups run.place run.count
unfolding groups_text
text-shortened groups run found many = rw (← found.count, le-ltb run.count 2 many, ← found.place) refl

-- the groups from a place on, as the code takes them
pub rest_of : (groups : List ℕ) (at : ℕ) → drop at groups ≡ take (length groups - at) (drop at groups)
rest_of groups at = sym (take_all (length groups - at) (drop at groups) (omega (arith, length-drop at groups)))
