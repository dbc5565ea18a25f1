-- The first element that passes a test, by its place.
use Rattle.std.proofs.Common.{◌≡◌, ℕ, zero, suc, ◌<◌, Bool, true, false, List, [], ◌∷◌, Option, None, Some, length, get_or, map, refl, ap, arith, cond, IsSomeAnd, MatchOption, nat_eq}
use Rattle.std.specs.List.{remove}
use Rattle.std.specs.Option.{option_map}
use Rattle.memory_files.specs.Memory.{MemoryBytes, MemoryShelf, NamedSource, OpensFirst, pairs_of, take_source}
use Rattle.fw_base.specs.Pairs.{Pair, take_first, TakesOut}
use Rattle.std.specs.Cmp.Lexicographic.{pointwise}

-- the element at the first place that passes is the one taken out
pub take_first-at : {X : Type 0} (test : X → Bool) (xs : List X) (i : ℕ) (d : X) → i < length xs
    → ((k : ℕ) → k < i → test (get_or xs k d) ≡ false) → test (get_or xs i d) ≡ true
    → take_first test xs ≡ Some (get_or xs i d, remove xs i)
take_first-at test [] i d within before here = absurd (omega arith)
take_first-at test (x ∷ xs) zero d within before here = rw here refl
take_first-at test (x ∷ xs) (suc i) d within before here =
    let first : test x ≡ false = before 0 (omega arith) in
    let rest : take_first test xs ≡ Some (get_or xs i d, remove xs i) =
    take_first-at test xs i d (omega arith) (λ k h. before (suc k) (omega arith)) here in
    rw (first, rest) refl

-- where no element passes, none is taken out
pub take_first-none : {X : Type 0} (test : X → Bool) (xs : List X) → ((k : ℕ) (d : X) → k < length xs → test (get_or xs k d) ≡ false) → take_first test xs ≡ None
take_first-none test [] before = refl
take_first-none test (x ∷ xs) before =
    let first : test x ≡ false = before 0 x (omega arith) in
    let rest : take_first test xs ≡ None = take_first-none test xs (λ k d h. before (suc k) d (omega arith)) in
    rw (first, rest) refl

-- a test of what f makes of the elements
pub take_first-map : {X Y : Type 0} (f : X → Y) (test : Y → Bool) (xs : List X)
    → take_first test (map f xs) ≡ option_map (λ (found : X × List X). let r : Y × List Y = (f found.0, map f found.1) in r) (take_first (λ x. test (f x)) xs)
take_first-map f test [] = refl
take_first-map {X = X} {Y = Y} f test (x ∷ xs) =
    rw (take_first-map f test xs) (cases (test (f x)))
  where
    mapped : X × List X → Y × List Y
    mapped found = (f found.0, map f found.1)

    kept : X × List X → X × List X
    kept found = (found.0, x ∷ found.1)

    kept-mapped : Y × List Y → Y × List Y
    kept-mapped found = (found.0, f x ∷ found.1)

    cases : (b : Bool) → cond b (Some (f x, map f xs)) (option_map kept-mapped (option_map mapped (take_first (λ y. test (f y)) xs)))
        ≡ option_map mapped (cond b (Some (x, xs)) (option_map kept (take_first (λ y. test (f y)) xs)))
    cases true = refl
    cases false = elim (take_first (λ y. test (f y)) xs) as (λ r. option_map kept-mapped (option_map mapped r) ≡ option_map mapped (option_map kept r)) [ None ↦ refl | Some r ↦ refl ]

-- what a library over memory hands out, in the words of every library
pub takes_out : (old new : MemoryShelf) (name : List ℕ) (reader : MemoryBytes) → OpensFirst old new name reader
    → TakesOut (Some (pairs_of old.sources)) (Some (pairs_of new.sources)) name (Some reader.left)
takes_out old new name reader gives =
    rw (take_first-map (λ (source : NamedSource). let p : Pair = (source.0, source.1.left) in p) (λ (p : Pair). pointwise nat_eq p.0 name) old.sources)
    (given (take_source name old.sources) gives.1)
  where
    as_pair : NamedSource → Pair
    as_pair source = (source.0, source.1.left)

    as_pairs : NamedSource × List NamedSource → Pair × List Pair
    as_pairs found = (as_pair found.0, map as_pair found.1)

    given : (taken : Option (NamedSource × List NamedSource)) → IsSomeAnd taken (λ found. (reader ≡ found.0.1) × (new ≡ record old { sources = found.1 }))
        → MatchOption (option_map as_pairs taken) ⊥ (λ found. (◌≡◌ {A = Option (List ℕ)} (Some reader.left) (Some found.0.1)) × (◌≡◌ {A = Option (List Pair)} (Some (pairs_of new.sources)) (Some found.1)))
    given None h = absurd h
    given (Some found) h = (ap (λ (m : MemoryBytes). Some m.left) h.0, ap (λ (l : MemoryShelf). Some (pairs_of l.sources)) h.1)
