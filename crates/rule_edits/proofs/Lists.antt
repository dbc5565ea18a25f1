-- Lists under a view of their elements.
use Rattle.std.proofs.Common.{◌≡◌, ◌+◌, ◌≤◌, ◌<◌, Bool, true, false, cond, ◌||◌, List, [], ◌∷◌, ◌++◌, map, length, get_or, take, refl, ap, ◌∙◌, sym, arith}
use Rattle.std.specs.List.{filter, list_any, AllByRecursion}

-- some view of the elements passes a test exactly where some element does so as viewed
pub any_map : {X Y : Type 0} (p : Y → Bool) (f : X → Y) (xs : List X) → list_any p (map f xs) ≡ list_any (λ x. p (f x)) xs
any_map p f [] = refl
any_map p f (x ∷ xs) = ap (λ b. p (f x) || b) (any_map p f xs)

-- the views of the elements that are left are the views that are left
pub filter-map : {X Y : Type 0} (p : Y → Bool) (f : X → Y) (xs : List X) → map f (filter (λ x. p (f x)) xs) ≡ filter p (map f xs)
filter-map p f [] = refl
filter-map {X} {Y} p f (x ∷ xs) =
    elim (p (f x)) as (λ b. map f (cond b (x ∷ filter (λ x. p (f x)) xs) (filter (λ x. p (f x)) xs)) ≡ cond b (f x ∷ filter p (map f xs)) (filter p (map f xs))) [
      | true ↦ ap (λ (ys : List Y). f x ∷ ys) (filter-map p f xs)
      | false ↦ filter-map p f xs
    ]

-- some element of two lists together passes a test exactly where one of either list does
pub any-append : {X : Type 0} (p : X → Bool) (xs ys : List X) → list_any p (xs ++ ys) ≡ (list_any p xs || list_any p ys)
any-append p [] ys = refl
any-append p (x ∷ xs) ys =
    elim (p x) as (λ b. (b || list_any p (xs ++ ys)) ≡ ((b || list_any p xs) || list_any p ys)) [ true ↦ refl | false ↦ any-append p xs ys ]

-- no more elements are left than there were
pub length-filter_le : {X : Type 0} (p : X → Bool) (xs : List X) → length (filter p xs) ≤ length xs
length-filter_le p [] = omega arith
length-filter_le {X} p (x ∷ xs) =
    let rest = length-filter_le p xs in
    elim (p x) as (λ b. length (cond b (x ∷ filter p xs) (filter p xs)) ≤ length (x ∷ xs)) [ true ↦ omega arith | false ↦ omega arith ]

-- what holds of each element holds of each that is left
pub all-filter : {X : Type 0} (P : X → Type 0) (p : X → Bool) (xs : List X) → AllByRecursion P xs → AllByRecursion P (filter p xs)
all-filter P p [] all = tt
all-filter P p (x ∷ xs) all =
    elim (p x) as (λ b. AllByRecursion P (cond b (x ∷ filter p xs) (filter p xs))) [ true ↦ (all.0, all-filter P p xs all.1) | false ↦ all-filter P p xs all.1 ]

-- what holds of each element, and is kept by a change, holds of each changed one
pub all-map : {X : Type 0} (P : X → Type 0) (f : X → X) → ((x : X) → P x → P (f x)) → (xs : List X) → AllByRecursion P xs → AllByRecursion P (map f xs)
all-map P f step [] all = tt
all-map P f step (x ∷ xs) all = (step x all.0, all-map P f step xs all.1)

-- tests that agree leave the same elements
pub filter_same_test : {X : Type 0} (p q : X → Bool) → ((x : X) → p x ≡ q x) → (xs : List X) → filter p xs ≡ filter q xs
filter_same_test p q same [] = refl
filter_same_test {X} p q same (x ∷ xs) = rw (same x) (ap (λ (ys : List X). cond (q x) (x ∷ ys) ys) (filter_same_test p q same xs))

-- how many pass the test among the elements so far, of which the next one passes it
pub count_next : {X Y : Type 0} (test : Y → Bool) (f : X → Y) (all : List X) (so_far : List X) (x : X)
    → map (λ y. y) so_far ≡ take (length so_far) all → length so_far < length all → x ≡ get_or all (length so_far) x → test (f x) ≡ true
    → length (filter test (map f so_far)) + 1 ≤ length (filter test (map f all))
count_next test f [] so_far x same within is passes = absurd (omega arith)
count_next test f (y ∷ all) [] x same within is passes =
    let here : test (f y) ≡ true = ap (λ z. test (f z)) (sym is) ∙ passes in
    rw here (omega arith)
count_next test f (y ∷ all) (z ∷ so_far) x same within is passes =
    let first : z ≡ y = cc in
    let others : map (λ u. u) so_far ≡ take (length so_far) all = cc in
    let rest = count_next test f all so_far x others (omega arith) is passes in
    rw first (elim (test (f y)) as (λ b. length (cond b (f y ∷ filter test (map f so_far)) (filter test (map f so_far))) + 1 ≤ length (cond b (f y ∷ filter test (map f all)) (filter test (map f all)))) [ true ↦ omega arith | false ↦ rest ])

-- of two lists together as many pass a test as of the one and of the other
pub count_append : {X : Type 0} (test : X → Bool) (xs ys : List X) → length (filter test (xs ++ ys)) ≡ length (filter test xs) + length (filter test ys)
count_append test [] ys = omega arith
count_append test (x ∷ xs) ys =
    let rest = count_append test xs ys in
    elim (test x) as (λ b. length (cond b (x ∷ filter test (xs ++ ys)) (filter test (xs ++ ys))) ≡ length (cond b (x ∷ filter test xs) (filter test xs)) + length (filter test ys)) [ true ↦ omega arith | false ↦ rest ]
