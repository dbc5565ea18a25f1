-- Lanes in the order of their places.
use Rattle.std.proofs.Common.{◌≡◌, ◌≢◌, ℕ, zero, suc, ◌+◌, ◌<◌, ◌≤◌, Bool, true, false, cond, nat_lt, ◌==◌, Option, Some, None, List, [], ◌∷◌, length, sum_by, unwrap_or, refl, sym, ap, ◌∙◌, arith, IsPermutation, ltb-true, ltb-false, eq-eqb, ne_eqb}
use Rattle.std.specs.Prelude.{⊤, slice_get}
use Rattle.std.specs.List.{AllByRecursion}
use Rattle.std.specs.List.Sorted.{IsNonDecreasingBy}
use Rattle.std.proofs.lemmas.List.Elements.{recursion_from_All, All-from_recursion}
use Rattle.std.proofs.lemmas.List.Sorted.{IsPermutation-refl, IsPermutation-trans, IsPermutation-sym, All-permutation, length_permutation, sum_by-IsPermutation}
use Rattle.std.proofs.lemmas.List.Sums.{sum_by-cons}
use Rattle.fw_world.specs.ByPlace.{HavePlacesFrom, StandFrom}

module _ {A : Type 0} where
  -- what holds of each lane holds of each when they are moved
  all_moved : (P : A → Type 0) (lanes moved : List A) → IsPermutation lanes moved → AllByRecursion P lanes → AllByRecursion P moved
  all_moved P lanes moved same all = recursion_from_All P moved (All-permutation P lanes moved same (All-from_recursion P lanes all))

  -- two facts of each lane give a third
  all_both : (P Q R : A → Type 0) → ((lane : A) → P lane → Q lane → R lane) → (lanes : List A) → AllByRecursion P lanes → AllByRecursion Q lanes → AllByRecursion R lanes
  all_both P Q R one [] first second = tt
  all_both P Q R one (lane ∷ lanes) first second = (one lane first.0 second.0, all_both P Q R one lanes first.1 second.1)

  all_weaker : (P R : A → Type 0) → ((lane : A) → P lane → R lane) → (lanes : List A) → AllByRecursion P lanes → AllByRecursion R lanes
  all_weaker P R one lanes all = all_both P P R (λ lane p q. one lane p) lanes all all

  all_tt : (lanes : List A) → AllByRecursion (λ (lane : A). ⊤) lanes
  all_tt [] = tt
  all_tt (lane ∷ lanes) = (tt, all_tt lanes)

  module _ (place : A → ℕ) where
    -- places never fall along the lanes
    abbrev Rises : List A → Type 0
    Rises [] = ⊤
    Rises (lane ∷ lanes) = AllByRecursion (λ other. place lane ≤ place other) lanes × Rises lanes

    rises-from_sort : (lanes : List A) → IsNonDecreasingBy place lanes → Rises lanes
    rises-from_sort [] sorted = tt
    rises-from_sort (lane ∷ lanes) sorted = (
      recursion_from_All (λ other. place lane ≤ place other) lanes (λ k d within. sorted 0 (suc k) d (omega arith) (omega arith)),
      rises-from_sort lanes (λ i j d order within. sorted (suc i) (suc j) d (omega arith) (omega arith)),
    )

    -- places rise along the lanes
    abbrev Climbs : List A → Type 0
    Climbs [] = ⊤
    Climbs (lane ∷ lanes) = AllByRecursion (λ other. place lane < place other) lanes × Climbs lanes

    rises-climbing : (lanes : List A) → Climbs lanes → Rises lanes
    rises-climbing [] climbs = tt
    rises-climbing (lane ∷ lanes) climbs = (
      all_weaker (λ other. place lane < place other) (λ other. place lane ≤ place other) (λ other h. omega (arith, h)) lanes climbs.0,
      rises-climbing lanes climbs.1,
    )

    -- lanes from a place on have no smaller place
    above_place : (IsOne : A → Type 0) (first : ℕ) (lanes : List A) → HavePlacesFrom place IsOne first lanes → AllByRecursion (λ lane. first ≤ place lane) lanes
    above_place IsOne first [] are = tt
    above_place IsOne first (lane ∷ lanes) are = (
      omega (arith, are.0),
      all_weaker (λ other. first + 1 ≤ place other) (λ other. first ≤ place other) (λ other h. omega (arith, h)) lanes (above_place IsOne (first + 1) lanes are.2),
    )

    -- places rise along them
    climbs-from : (IsOne : A → Type 0) (first : ℕ) (lanes : List A) → HavePlacesFrom place IsOne first lanes → Climbs lanes
    climbs-from IsOne first [] are = tt
    climbs-from IsOne first (lane ∷ lanes) are = (
      all_weaker (λ other. first + 1 ≤ place other) (λ other. place lane < place other) (λ other h. omega (arith, h, are.0)) lanes (above_place IsOne (first + 1) lanes are.2),
      climbs-from IsOne (first + 1) lanes are.2,
    )

    -- the first lane of that place
    abbrev seat : List A → ℕ → Option A
    seat [] n = None
    seat (lane ∷ lanes) n = cond (place lane == n) (Some lane) (seat lanes n)

    -- where places rise each lane is the one of its place
    seated : (lanes : List A) → Climbs lanes → AllByRecursion (λ lane. seat lanes (place lane) ≡ Some lane) lanes
    seated [] up = tt
    seated (lane ∷ lanes) up = (
      ap (λ b. cond b (Some lane) (seat lanes (place lane))) (eq-eqb (place lane) (place lane) refl),
      all_both (λ other. place lane < place other) (λ other. seat lanes (place other) ≡ Some other) (λ other. seat (lane ∷ lanes) (place other) ≡ Some other)
          (λ other above is. ap (λ b. cond b (Some lane) (seat lanes (place other))) (ne_eqb (place lane) (place other) (λ same. omega (arith, same, above))) ∙ is)
          lanes up.0 (seated lanes up.1),
    )

    -- 1 for a lane of that place
    abbrev one_at : ℕ → A → ℕ
    one_at n lane = cond (place lane == n) 1 0

    one_at-own : (lane : A) (n : ℕ) → place lane ≡ n → one_at n lane ≡ 1
    one_at-own lane n is = ap (λ b. cond b 1 0) (eq-eqb (place lane) n is)

    none_at : (n : ℕ) (lanes : List A) → AllByRecursion (λ lane. place lane ≢ n) lanes → sum_by (one_at n) lanes ≡ 0
    none_at n [] other = refl
    none_at n (lane ∷ lanes) other =
        let first : one_at n lane ≡ 0 = ap (λ b. cond b 1 0) (ne_eqb (place lane) n other.0) in
        omega (arith, sum_by-cons (one_at n) lane lanes, first, none_at n lanes other.1)

    none_below : (n : ℕ) (lanes : List A) → AllByRecursion (λ lane. n < place lane) lanes → sum_by (one_at n) lanes ≡ 0
    none_below n lanes above = none_at n lanes (all_weaker (λ lane. n < place lane) (λ lane. place lane ≢ n) (λ lane h same. omega (arith, h, same)) lanes above)

    -- Lanes whose places don't fall, and that are each the one of its place among lanes whose places rise, are these
    -- where there are as many of each place.
    same_lanes : (all lanes moved : List A) → Climbs lanes → AllByRecursion (λ lane. seat all (place lane) ≡ Some lane) lanes
        → AllByRecursion (λ lane. seat all (place lane) ≡ Some lane) moved → Rises moved → ((k : ℕ) → sum_by (one_at k) moved ≡ sum_by (one_at k) lanes) → moved ≡ lanes
    same_lanes all [] [] climbs own other up counts = refl
    same_lanes all [] (first ∷ moved) climbs own other up counts =
        absurd (omega (arith, sum_by-cons (one_at (place first)) first moved, one_at-own first (place first) refl, counts (place first)))
    same_lanes all (lane ∷ lanes) [] climbs own other up counts =
        absurd (omega (arith, sum_by-cons (one_at (place lane)) lane lanes, one_at-own lane (place lane) refl, counts (place lane)))
    same_lanes all (lane ∷ lanes) (first ∷ moved) climbs own other up counts =
        ap (λ l. l ∷ moved) same ∙ ap (λ ls. lane ∷ ls) (same_lanes all lanes moved climbs.1 own.1 other.1 up.1 rest)
      where
        placed : place first ≡ place lane
        placed = decided (nat_lt (place first) (place lane)) (nat_lt (place lane) (place first)) refl refl
          where
            decided : (b c : Bool) → nat_lt (place first) (place lane) ≡ b → nat_lt (place lane) (place first) ≡ c → place first ≡ place lane
            decided true c below is =
                let less = ltb-true _ _ below in
                let none = none_below (place first) (lane ∷ lanes) (less, all_weaker (λ l. place lane < place l) (λ l. place first < place l) (λ l h. omega (arith, h, less)) lanes climbs.0) in
                absurd (omega (arith, sum_by-cons (one_at (place first)) first moved, one_at-own first (place first) refl, none, counts (place first)))
            decided false true not_below above =
                let more = ltb-true _ _ above in
                let none = none_below (place lane) (first ∷ moved) (more, all_weaker (λ l. place first ≤ place l) (λ l. place lane < place l) (λ l h. omega (arith, h, more)) moved up.0) in
                absurd (omega (arith, sum_by-cons (one_at (place lane)) lane lanes, one_at-own lane (place lane) refl, none, counts (place lane)))
            decided false false not_below not_above = omega (arith, ltb-false _ _ not_below, ltb-false _ _ not_above)

        same : first ≡ lane
        same = ap (λ o. unwrap_or o first) (sym other.0 ∙ ap (seat all) placed ∙ own.0)

        rest : (k : ℕ) → sum_by (one_at k) moved ≡ sum_by (one_at k) lanes
        rest k = omega (arith, sum_by-cons (one_at k) first moved, sum_by-cons (one_at k) lane lanes, ap (one_at k) same, counts k)

    -- lanes whose places rise, moved until their places don't fall, are the lanes in order
    moved-same : (lanes moved : List A) → Climbs lanes → IsPermutation lanes moved → Rises moved → moved ≡ lanes
    moved-same lanes moved climbs same up =
        let own = seated lanes climbs in
        same_lanes lanes lanes moved climbs own (all_moved (λ lane. seat lanes (place lane) ≡ Some lane) lanes moved same own) up (λ k. sum_by-IsPermutation (one_at k) lanes moved same)

    -- what has its places from one on has each lane at its place
    each-placed : (IsOne : A → Type 0) (first : ℕ) (ordered : List A) → HavePlacesFrom place IsOne first ordered → (i : ℕ) (lane : A) → slice_get ordered i ≡ Some lane → place lane ≡ first + i
    each-placed IsOne first [] are i lane at = absurd cc
    each-placed IsOne first (other ∷ ordered) are zero lane at = let same : other ≡ lane = cc in omega (arith, are.0, ap place same)
    each-placed IsOne first (other ∷ ordered) are (suc i) lane at = omega (arith, each-placed IsOne (first + 1) ordered are.2 i lane at)

    -- and the other way round
    placed-each : (IsOne : A → Type 0) (first : ℕ) (ordered : List A) → AllByRecursion IsOne ordered → ((i : ℕ) (lane : A) → slice_get ordered i ≡ Some lane → place lane ≡ first + i) → HavePlacesFrom place IsOne first ordered
    placed-each IsOne first [] each placed = tt
    placed-each IsOne first (lane ∷ ordered) each placed =
        (omega (arith, placed 0 lane refl), each.0, placed-each IsOne (first + 1) ordered each.1 (λ i other at. omega (arith, placed (suc i) other at)))

    each-one : (IsOne : A → Type 0) (first : ℕ) (ordered : List A) → HavePlacesFrom place IsOne first ordered → AllByRecursion IsOne ordered
    each-one IsOne first [] are = tt
    each-one IsOne first (lane ∷ ordered) are = (are.1, each-one IsOne (first + 1) ordered are.2)

    module _ (first : ℕ) (lanes ordered : List A) (stand : StandFrom place first lanes ordered) where
      -- what holds of each lane holds of each in order
      pub all-stand : (P : A → Type 0) → AllByRecursion P lanes → AllByRecursion P ordered
      all-stand P all = all_moved P lanes ordered stand.same all

      -- in order they are as many
      pub length-stand : length ordered ≡ length lanes
      length-stand = length_permutation lanes ordered stand.same

      -- in order such lanes have their places
      pub stand-places : (IsOne : A → Type 0) → AllByRecursion IsOne lanes → HavePlacesFrom place IsOne first ordered
      stand-places IsOne each = placed-each IsOne first ordered (all-stand IsOne each) stand.placed

      climbs-stand : Climbs ordered
      climbs-stand = climbs-from (λ lane. ⊤) first ordered (placed-each (λ lane. ⊤) first ordered (all_tt ordered) stand.placed)

      -- lanes moved until their places don't fall stand in order
      stand-risen : (moved : List A) → IsPermutation lanes moved → Rises moved → moved ≡ ordered
      stand-risen moved same up = moved-same ordered moved climbs-stand (IsPermutation-trans _ _ _ (IsPermutation-sym _ _ stand.same) same) up

      -- a sort by place gives the lanes in order
      pub stand-sorted : (sorted : List A) → IsPermutation lanes sorted → IsNonDecreasingBy place sorted → sorted ≡ ordered
      stand-sorted sorted same up = stand-risen sorted same (rises-from_sort sorted up)

    -- lanes stand in one order at most
    pub stand-once : (first : ℕ) (lanes one other : List A) → StandFrom place first lanes one → StandFrom place first lanes other → one ≡ other
    stand-once first lanes one other stand again = stand-risen first lanes other again one stand.same (rises-climbing one (climbs-stand first lanes one stand))

    -- lanes that have their places in an order are such ones, and stand in it
    pub places-stand : (IsOne : A → Type 0) (first : ℕ) (lanes ordered : List A) → HavePlacesFrom place IsOne first ordered → IsPermutation lanes ordered → AllByRecursion IsOne lanes × StandFrom place first lanes ordered
    places-stand IsOne first lanes ordered are same = (
      all_moved IsOne ordered lanes (IsPermutation-sym _ _ same) (each-one IsOne first ordered are),
      record { same = same; placed = each-placed IsOne first ordered are },
    )

    -- lanes that have their places stand as they are
    pub stand-own : (IsOne : A → Type 0) (first : ℕ) (lanes : List A) → HavePlacesFrom place IsOne first lanes → AllByRecursion IsOne lanes × StandFrom place first lanes lanes
    stand-own IsOne first lanes are = places-stand IsOne first lanes lanes are (IsPermutation-refl lanes)
