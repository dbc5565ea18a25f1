-- The places of rules that have identities of their own.
use Rattle.std.proofs.Common.{◌≡◌, ◌≢◌, ℕ, zero, suc, ◌+◌, ◌<◌, true, false, ◌||◌, ◌==◌, nat_lt, nat_eq, Some, None, List, [], ◌∷◌, map, length, get_or, All, refl, ap, sym, ◌∙◌, arith}
use Rattle.std.proofs.lemmas.Bool.{or_parts, or_right}
use Rattle.std.proofs.lemmas.Bool.Decides.{nat_tests}
use Rattle.std.proofs.lemmas.List.{get_or-map}
use Rattle.std.proofs.lemmas.List.Elements.{All-from_recursion}
use Rattle.std.proofs.lemmas.List.Sorted.{All-permutation, IsPermutation-map, list_any-IsPermutation}
use Rattle.std.proofs.lemmas.Map.Keys.{IsDistinct-cons, IsDistinct-IsPermutation, IsStrictlyIncreasing-from_distinct}
use Rattle.std.specs.List.{position_or_len, AllByRecursion, IsDistinct}
use Rattle.std.specs.List.Sorted.{IsPermutation, IsNonDecreasing, IsNonDecreasingBy}
use Rattle.fw_rule.specs.declared.rule.Rule.{Rule}
use Rattle.rule_chain.specs.Chain.{AscendsFrom, HaveOwnIds}
use Rattle.state_asks.specs.RuleLists.{has_id}
use Rattle.generation_store.specs.Published.{is_identity, has_identity, place_of_rule}
use Rattle.generation_store.specs.Indexed.{some_place}
use Rattle.generation_store.specs.Placing.{identity_of, place_alone, placed_from, ArePlaced}
use Rattle.generation_store.specs.declared.placed.Placed.{Placed}
use Rattle.generation_store.proofs.Ordered.{rule_list}

-- the identities of the places are those of the rules
placed_ids : (place : ℕ) (rules : List Rule) (id : ℕ) → has_id (map identity_of (placed_from place rules)) id ≡ has_identity rules id
unfolding placed_from
placed_ids place [] id = refl
placed_ids place (r ∷ rules) id = ap (λ b. (r.id == id) || b) (placed_ids (place + 1) rules id)

-- a place counted from that of the first rule
record Stands (rules : List Rule) (place : ℕ) (p : Placed) : Type 0 where
  at : position_or_len (is_identity p.identity) rules + place ≡ p.place
  within : position_or_len (is_identity p.identity) rules < length rules

others : (place id : ℕ) (rules : List Rule) → AllByRecursion (λ other. other.id ≢ id) rules → AllByRecursion (λ p. p.identity ≢ id) (placed_from place rules)
unfolding placed_from
others place id [] all = tt
others place id (r ∷ rules) all = (all.0, others (place + 1) id rules all.1)

one_later : (r : Rule) (rules : List Rule) (place : ℕ) (p : Placed) → p.identity ≢ r.id → Stands rules (place + 1) p → Stands (r ∷ rules) place p
one_later r rules place p unlike stands =
    let other : (r.id == p.identity) ≡ false = grind (arith, nat_tests) in
    let shift : position_or_len (is_identity p.identity) (r ∷ rules) ≡ 1 + position_or_len (is_identity p.identity) rules = rw other refl in
    record { at = let a = stands.at in omega arith; within = let w = stands.within in omega arith }

all_later : (r : Rule) (rules : List Rule) (place : ℕ) (ps : List Placed) → AllByRecursion (λ p. p.identity ≢ r.id) ps → AllByRecursion (Stands rules (place + 1)) ps → AllByRecursion (Stands (r ∷ rules) place) ps
all_later r rules place [] unlike stand = tt
all_later r rules place (p ∷ ps) unlike stand = (one_later r rules place p unlike.0 stand.0, all_later r rules place ps unlike.1 stand.1)

each_stands : (place : ℕ) (rules : List Rule) → HaveOwnIds rules → AllByRecursion (Stands rules place) (placed_from place rules)
unfolding placed_from
each_stands place [] own = tt
each_stands place (r ∷ rules) own =
    let itself : (r.id == r.id) ≡ true = grind (arith, nat_tests) in
    let first : position_or_len (is_identity r.id) (r ∷ rules) ≡ 0 = rw itself refl in
    (record { at = omega arith; within = omega arith }, all_later r rules place (placed_from (place + 1) rules) (others (place + 1) r.id rules own.0) (each_stands (place + 1) rules own.1))

found_at : (rules : List Rule) (p : Placed) → Stands rules 0 p → place_of_rule p.identity rules ≡ Some p.place
found_at rules p stands =
    let at : position_or_len (is_identity p.identity) rules ≡ p.place = let a = stands.at in omega arith in
    let within : nat_lt (position_or_len (is_identity p.identity) rules) (length rules) ≡ true = let w = stands.within in grind (arith, nat_tests) in
    rw within (ap Some at)

all_found : (rules : List Rule) (ps : List Placed) → AllByRecursion (Stands rules 0) ps → AllByRecursion (λ p. place_of_rule p.identity rules ≡ Some p.place) ps
all_found rules [] stand = tt
all_found rules (p ∷ ps) stand = (found_at rules p stand.0, all_found rules ps stand.1)

unlike_first : (place id : ℕ) (rules : List Rule) → AllByRecursion (λ other. other.id ≢ id) rules → AllByRecursion (λ y. nat_eq id y ≡ false) (map identity_of (placed_from place rules))
unfolding placed_from
unlike_first place id [] all = tt
unlike_first place id (r ∷ rules) all = (let h = all.0 in grind (arith, nat_tests), unlike_first (place + 1) id rules all.1)

nobody : IsDistinct nat_eq []
unfolding IsDistinct
nobody = tt

distinct_ids : (place : ℕ) (rules : List Rule) → HaveOwnIds rules → IsDistinct nat_eq (map identity_of (placed_from place rules))
unfolding placed_from
distinct_ids place [] own = nobody
distinct_ids place (r ∷ rules) own = IsDistinct-cons nat_eq r.id (map identity_of (placed_from (place + 1) rules)) (unlike_first (place + 1) r.id rules own.0) (distinct_ids (place + 1) rules own.1)

-- rule 65535 has identity 0
has_last : (least : ℕ) (rules : List Rule) → AscendsFrom least rules → has_identity rules 0 ≡ true
has_last least [] up = absurd up
has_last least (r ∷ []) up =
    let zero_id : r.id ≡ 0 = ap (λ (x : Rule). x.id) up in
    rw zero_id refl
has_last least (r ∷ s ∷ rules) up = or_right (r.id == 0) (has_identity (s ∷ rules) 0) (has_last r.number (s ∷ rules) up.2)

flips : (x y : ℕ) → nat_eq x y ≡ nat_eq y x
flips x y = grind (arith, nat_tests)

ascending_keys : (ps : List Placed) → IsNonDecreasingBy identity_of ps → IsNonDecreasing (map identity_of ps)
ascending_keys [] up i j d le within = absurd (omega arith)
ascending_keys (p ∷ ps) up i j d le within =
    let here = map_len (p ∷ ps) in
    let low = get_or-map identity_of (p ∷ ps) i p d (omega arith) in
    let high = get_or-map identity_of (p ∷ ps) j p d (omega arith) in
    rw (low, high) (up i j p le (omega arith))
  where
    map_len : (ps : List Placed) → length (map identity_of ps) ≡ length ps
    map_len [] = refl
    map_len (p ∷ ps) = ap suc (map_len ps)

-- the places of the rules, sorted by the identities
pub placed_in_order : (rules : List Rule) (sorted : List Placed) → AscendsFrom 1 rules → HaveOwnIds rules → IsPermutation (placed_from 0 rules) sorted → IsNonDecreasingBy identity_of sorted → ArePlaced rules sorted
placed_in_order rules sorted up own moved rising =
    let ids = IsPermutation-map identity_of (placed_from 0 rules) sorted moved in
    let apart = IsDistinct-IsPermutation nat_eq flips (map identity_of (placed_from 0 rules)) (map identity_of sorted) ids (distinct_ids 0 rules own) in
    let strict = IsStrictlyIncreasing-from_distinct (map identity_of sorted) (ascending_keys sorted rising) apart in
    let same : (id : ℕ) → has_id (map identity_of sorted) id ≡ has_identity rules id = λ id. sym (list_any-IsPermutation (λ other. other == id) (map identity_of (placed_from 0 rules)) (map identity_of sorted) ids) ∙ placed_ids 0 rules id in
    record {
      ascending = rule_list (map identity_of sorted) strict (same 0 ∙ has_last 1 rules up);
      whole = same;
      found = All-permutation (λ p. place_of_rule p.identity rules ≡ Some p.place) (placed_from 0 rules) sorted moved (All-from_recursion (λ p. place_of_rule p.identity rules ≡ Some p.place) (placed_from 0 rules) (all_found rules (placed_from 0 rules) (each_stands 0 rules own)));
    }

-- the places alone are those of the identities alone
pub places_of_ids : (rules : List Rule) (ps : List Placed) → All (λ p. place_of_rule p.identity rules ≡ Some p.place) ps → map some_place (map place_alone ps) ≡ map (λ id. place_of_rule id rules) (map identity_of ps)
places_of_ids rules [] found = refl
places_of_ids rules (p ∷ ps) found =
    let first : place_of_rule p.identity rules ≡ Some p.place = found 0 p (omega arith) in
    let rest = places_of_ids rules ps (λ k d within. found (suc k) d (omega arith)) in
    rw (first, rest) refl

-- the place at an index
pub place_at : (rules : List Rule) (places ids : List ℕ) (i d : ℕ) → map some_place places ≡ map (λ id. place_of_rule id rules) ids → i < length ids → place_of_rule (get_or ids i 0) rules ≡ Some (get_or places i d)
place_at rules [] [] i d same within = absurd (omega arith)
place_at rules [] (id ∷ ids) i d same within = cc
place_at rules (place ∷ places) [] i d same within = absurd (omega arith)
place_at rules (place ∷ places) (id ∷ ids) zero d same within = cc
place_at rules (place ∷ places) (id ∷ ids) (suc i) d same within =
    let rest : map some_place places ≡ map (λ id. place_of_rule id rules) ids = cc in
    place_at rules places ids i d rest (omega arith)

-- an identity that no rule has is found nowhere
nowhere : (rules : List Rule) (id : ℕ) → has_identity rules id ≡ false → position_or_len (is_identity id) rules ≡ length rules
nowhere [] id none = refl
nowhere (r ∷ rules) id none =
    let here = or_parts (r.id == id) (has_identity rules id) none in
    let rest = nowhere rules id here.1 in
    rw (here.0, rest) (omega arith)

-- no place of an identity that no rule has
pub no_place_of : (rules : List Rule) (id : ℕ) → has_identity rules id ≡ false → place_of_rule id rules ≡ None
no_place_of rules id none =
    let at = nowhere rules id none in
    let out : nat_lt (position_or_len (is_identity id) rules) (length rules) ≡ false = grind (arith, nat_tests) in
    rw out refl
