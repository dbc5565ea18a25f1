-- What stands at the place where a search for a key ends, and what an insertion or a removal there leaves.
use Rattle.std.proofs.Common.{◌≡◌, ℕ, zero, suc, ◌+◌, ◌<◌, ◌≤◌, Bool, true, false, cond, List, [], ◌∷◌, None, Some, IsSome, length, get_or, set, is_some, Result, Ok, Err, refl, sym, ap, ◌∙◌, arith}
use Rattle.std.specs.declared.cmp.Ordering.{Ordering}
use Rattle.std.specs.declared.cmp.Ordering.TheVariants.{Less, Equal, Greater}
use Rattle.std.specs.BTreeMap.{insert_entry, is_at}
use Rattle.std.specs.Cmp.{IsTotalOrder, alike_right}
use Rattle.std.specs.List.{AllByRecursion, insert, remove}
use Rattle.std.specs.List.Sorted.{IsBinarySearchResult, IsSearchInRange, IsSortedBy, IsStrictlySortedBy}
use Rattle.std.specs.Map.{keys_of, lookup, remove_entry}
use Rattle.std.specs.Bool.{Decides}
use Rattle.std.specs.Ordering.{match_ordering, ordering_reverse, is_eq, is_lt, eq_by_cmp}
use Rattle.std.specs.Set.{is_member}
use Rattle.std.proofs.lemmas.List.Sorted.{searchable_from_sorted}
use Rattle.std.proofs.lemmas.Map.Made.{is_member-Decides, is_some-lookup}
use Rattle.fw_base.proofs.Lists.{all_weaker}
use Rattle.lookup_tables.specs.Entries.{AreLower, HasKey, IsGap, IsInOrder, IsPlace, IsPlaceOf, value_of, with_entry, without_key}

-- an empty table is in order
pub in_order-nil : {K : Type 0} (cmp : K → K → Ordering) → IsStrictlySortedBy cmp []
unfolding IsStrictlySortedBy
in_order-nil cmp = tt

module _ {K : Type 0} (cmp : K → K → Ordering) (o : IsTotalOrder cmp) where
  above : (x y : K) → cmp x y ≡ Less → cmp y x ≡ Greater
  above x y less = o.antisymm y x ∙ ap ordering_reverse less

  below : (x y : K) → cmp x y ≡ Greater → cmp y x ≡ Less
  below x y greater = o.antisymm y x ∙ ap ordering_reverse greater

  tied : (x y : K) → cmp x y ≡ Equal → cmp y x ≡ Equal
  tied x y equal = o.antisymm y x ∙ ap ordering_reverse equal

module _ {K V : Type 0} (cmp : K → K → Ordering) (o : IsTotalOrder cmp) where
  all-at : (P : K → Type 0) (es : List (K × V)) (i : ℕ) (d : K × V) → AllByRecursion P (keys_of es) → i < length es → P (get_or es i d).0
  all-at P [] i d all within = absurd (omega arith)
  all-at P (e ∷ es) zero d all within = all.0
  all-at P (e ∷ es) (suc i) d all within = all-at P es i d all.1 (omega arith)

  -- no key is below the one before it
  never-falling : (es : List (K × V)) → IsInOrder cmp es → IsSortedBy (λ a b. is_lt (cmp a.0 b.0)) es
  unfolding IsStrictlySortedBy
  never-falling [] sorted k d low within = absurd (omega arith)
  never-falling (e ∷ es) sorted zero d low within = ap is_lt (above cmp o e.0 (get_or es 0 d).0 (all-at (λ k. cmp e.0 k ≡ Less) es 0 d sorted.0 (omega arith)))
  never-falling (e ∷ es) sorted (suc k) d low within = let next : suc k + 1 ≡ suc (k + 1) = omega arith in rw next (never-falling es sorted.1 k d (omega arith) (omega arith))

  -- in order, each key before an equal one is below it
  lower-place : (es : List (K × V)) (key : K) (i : ℕ) → IsInOrder cmp es → i < length es → ((d : K × V) → cmp (get_or es i d).0 key ≡ Equal) → AreLower cmp es key i
  unfolding IsStrictlySortedBy
  lower-place [] key i sorted within equal k d before = absurd (omega arith)
  lower-place (e ∷ es) key zero sorted within equal k d before = absurd (omega arith)
  lower-place (e ∷ es) key (suc i) sorted within equal zero d before =
      sym (alike_right o (get_or es i d).0 key e.0 (equal d)) ∙ all-at (λ k. cmp e.0 k ≡ Less) es i d sorted.0 (omega arith)
  lower-place (e ∷ es) key (suc i) sorted within equal (suc k) d before = lower-place es key i sorted.1 (omega arith) equal k d (omega arith)

  -- what a binary search by the keys answers
  pub IsPlaceOf-searched : (es : List (K × V)) (key : K) (r : Result ℕ ℕ) → IsInOrder cmp es → IsSearchInRange r (length es)
      → IsBinarySearchResult (λ e. cmp e.0 key) es r → IsPlaceOf cmp es key r
  IsPlaceOf-searched es key (Ok i) sorted within equal = record { within = within; lower = lower-place es key i sorted within equal; equal = equal }
  IsPlaceOf-searched es key (Err i) sorted within parted =
      let (lower, higher) = parted (searchable_from_sorted o (λ (e : K × V). e.0) es key (never-falling es sorted)) in
      record { within = within; lower = λ k d before. lower k d (omega arith) before; higher = λ d inside. higher i d (omega arith) inside }

  insert-at : (es : List (K × V)) (key : K) (v : V) (i : ℕ) → AreLower cmp es key i → i ≤ length es
      → ((d : K × V) → i < length es → cmp (get_or es i d).0 key ≡ Greater) → insert es i (key, v) ≡ insert_entry cmp es key v
  insert-at [] key v zero lower within higher = refl
  insert-at [] key v (suc i) lower within higher = absurd (omega arith)
  insert-at (e ∷ es) key v zero lower within higher =
      let first : cmp key e.0 ≡ Less = below cmp o e.0 key (higher e (omega arith)) in
      rw first refl
  insert-at (e ∷ es) key v (suc i) lower within higher =
      let first : cmp key e.0 ≡ Greater = above cmp o e.0 key (lower 0 e (omega arith)) in
      let rest = insert-at es key v i (λ k d h. lower (suc k) d (omega arith)) (omega arith) (λ d h. higher d (omega arith)) in
      rw first (ap (λ (l : List (K × V)). e ∷ l) rest)

  -- inserting an entry where its missing key would stand puts it in the table
  pub insert-gap : (es : List (K × V)) (key : K) (v : V) (i : ℕ) → IsGap cmp es key i → insert es i (key, v) ≡ with_entry cmp es key v
  insert-gap es key v i gap = insert-at es key v i gap.lower gap.within gap.higher

  remove-at : (es : List (K × V)) (key : K) (i : ℕ) → AreLower cmp es key i → i < length es
      → ((d : K × V) → cmp (get_or es i d).0 key ≡ Equal) → remove es i ≡ remove_entry (is_at (cmp key)) es
  remove-at [] key i lower within equal = absurd (omega arith)
  remove-at (e ∷ es) key zero lower within equal =
      let first : cmp key e.0 ≡ Equal = tied cmp o e.0 key (equal e) in
      rw first refl
  remove-at (e ∷ es) key (suc i) lower within equal =
      let first : cmp key e.0 ≡ Greater = above cmp o e.0 key (lower 0 e (omega arith)) in
      let rest = remove-at es key i (λ k d h. lower (suc k) d (omega arith)) (omega arith) (λ d. equal d) in
      rw first (ap (λ (l : List (K × V)). e ∷ l) rest)

  -- removing the entry where its key stands takes it out of the table
  pub remove-place : (es : List (K × V)) (key : K) (i : ℕ) → IsPlace cmp es key i → remove es i ≡ without_key cmp es key
  remove-place es key i place = remove-at es key i place.lower place.within place.equal

  value-at : (es : List (K × V)) (key : K) (i : ℕ) (d : K × V) → AreLower cmp es key i → i < length es
      → cmp (get_or es i d).0 key ≡ Equal → lookup (is_at (cmp key)) es ≡ Some (get_or es i d).1
  value-at [] key i d lower within equal = absurd (omega arith)
  value-at (e ∷ es) key zero d lower within equal =
      let first : cmp key e.0 ≡ Equal = tied cmp o e.0 key equal in
      rw first refl
  value-at (e ∷ es) key (suc i) d lower within equal =
      let first : cmp key e.0 ≡ Greater = above cmp o e.0 key (lower 0 e (omega arith)) in
      rw first (value-at es key i d (λ k d h. lower (suc k) d (omega arith)) (omega arith) equal)

  -- the value of a key is that of the entry where it stands
  pub value_of-place : (es : List (K × V)) (key : K) (i : ℕ) (d : K × V) → IsPlace cmp es key i → value_of cmp es key ≡ Some (get_or es i d).1
  value_of-place es key i d place = value-at es key i d place.lower place.within (place.equal d)

  none-above : (es : List (K × V)) (key : K) → AllByRecursion (λ k. cmp key k ≡ Less) (keys_of es) → lookup (is_at (cmp key)) es ≡ None
  none-above [] key all = refl
  none-above (e ∷ es) key all = let first : cmp key e.0 ≡ Less = all.0 in rw first (none-above es key all.1)

  none-at : (es : List (K × V)) (key : K) (i : ℕ) → IsStrictlySortedBy cmp (keys_of es) → AreLower cmp es key i
      → ((d : K × V) → i < length es → cmp (get_or es i d).0 key ≡ Greater) → lookup (is_at (cmp key)) es ≡ None
  unfolding IsStrictlySortedBy
  none-at [] key i sorted lower higher = refl
  none-at (e ∷ es) key zero sorted lower higher =
      let first : cmp key e.0 ≡ Less = below cmp o e.0 key (higher e (omega arith)) in
      rw first (none-above es key (all_weaker (λ k. cmp e.0 k ≡ Less) (λ k. cmp key k ≡ Less) (λ k less. o.trans key e.0 k first less) (keys_of es) sorted.0))
  none-at (e ∷ es) key (suc i) sorted lower higher =
      let first : cmp key e.0 ≡ Greater = above cmp o e.0 key (lower 0 e (omega arith)) in
      rw first (none-at es key i sorted.1 (λ k d h. lower (suc k) d (omega arith)) (λ d h. higher d (omega arith)))

  -- a key that is missing has no value
  pub value_of-gap : (es : List (K × V)) (key : K) (i : ℕ) → IsInOrder cmp es → IsGap cmp es key i → value_of cmp es key ≡ None
  value_of-gap es key i sorted gap = none-at es key i sorted gap.lower gap.higher

  all-insert : (P : K → Type 0) (es : List (K × V)) (key : K) (v : V) → AllByRecursion P (keys_of es) → P key → AllByRecursion P (keys_of (insert_entry cmp es key v))
  all-insert P [] key v all one = (one, tt)
  all-insert P (e ∷ es) key v all one =
      elim (cmp key e.0) as (λ r. AllByRecursion P (keys_of (match_ordering r ((key, v) ∷ e ∷ es) ((e.0, v) ∷ es) (e ∷ insert_entry cmp es key v)))) [
        | Less ↦ (one, all)
        | Equal ↦ all
        | Greater ↦ (all.0, all-insert P es key v all.1 one)
      ]

  -- the keys are in order with an entry put in
  pub in_order-insert : (es : List (K × V)) (key : K) (v : V) → IsInOrder cmp es → IsInOrder cmp (with_entry cmp es key v)
  unfolding IsStrictlySortedBy
  in_order-insert [] key v sorted = (tt, tt)
  in_order-insert (e ∷ es) key v sorted =
      elim (cmp key e.0) as (λ r. cmp key e.0 ≡ r → IsStrictlySortedBy cmp (keys_of (match_ordering r ((key, v) ∷ e ∷ es) ((e.0, v) ∷ es) (e ∷ insert_entry cmp es key v)))) [
        | Less ↦ λ less. ((less, all_weaker (λ k. cmp e.0 k ≡ Less) (λ k. cmp key k ≡ Less) (λ k more. o.trans key e.0 k less more) (keys_of es) sorted.0), sorted)
        | Equal ↦ λ equal. sorted
        | Greater ↦ λ greater. (all-insert (λ k. cmp e.0 k ≡ Less) es key v sorted.0 (below cmp o key e.0 greater), in_order-insert es key v sorted.1)
      ] refl

  all-remove : (P : K → Type 0) (test : K → Bool) (es : List (K × V)) → AllByRecursion P (keys_of es) → AllByRecursion P (keys_of (remove_entry test es))
  all-remove P test [] all = tt
  all-remove P test (e ∷ es) all =
      elim (test e.0) as (λ b. AllByRecursion P (keys_of (cond b es (e ∷ remove_entry test es)))) [ true ↦ all.1 | false ↦ (all.0, all-remove P test es all.1) ]

  -- the keys are in order with an entry taken out
  pub in_order-remove : (es : List (K × V)) (key : K) → IsInOrder cmp es → IsInOrder cmp (without_key cmp es key)
  unfolding IsStrictlySortedBy
  in_order-remove [] key sorted = tt
  in_order-remove (e ∷ es) key sorted =
      elim (is_at (cmp key) e.0) as (λ b. IsStrictlySortedBy cmp (keys_of (cond b es (e ∷ remove_entry (is_at (cmp key)) es)))) [
        | true ↦ sorted.1
        | false ↦ (all-remove (λ k. cmp e.0 k ≡ Less) (is_at (cmp key)) es sorted.0, in_order-remove es key sorted.1)
      ]

  none-removed : (es : List (K × V)) (test : K → Bool) → lookup test es ≡ None → remove_entry test es ≡ es
  none-removed [] test none = refl
  none-removed (e ∷ es) test none =
      elim (test e.0) as (λ b. cond b (Some e.1) (lookup test es) ≡ None → cond b es (e ∷ remove_entry test es) ≡ e ∷ es) [
        | true ↦ λ found. cc
        | false ↦ λ rest. ap (λ (l : List (K × V)). e ∷ l) (none-removed es test rest)
      ] none

  -- where the key isn't there, nothing goes
  pub without_key-gap : (es : List (K × V)) (key : K) (i : ℕ) → IsInOrder cmp es → IsGap cmp es key i → without_key cmp es key ≡ es
  without_key-gap es key i sorted gap = none-removed es (is_at (cmp key)) (value_of-gap es key i sorted gap)

  module _ (same : (x y : K) → Decides (is_eq (cmp x y)) (x ≡ y)) where
    listed : (es : List (K × V)) (key : K) → is_some (value_of cmp es key) ≡ is_member (eq_by_cmp cmp) (keys_of es) key
    listed es key = is_some-lookup (is_at (cmp key)) es

    -- a key is listed exactly where it has a value
    pub HasKey-value : (es : List (K × V)) (key : K) → IsSome (value_of cmp es key) → HasKey es key
    HasKey-value es key some = (is_member-Decides same (keys_of es) key).0 (sym (listed es key) ∙ some)

    -- a key that is listed has a value
    pub value-HasKey : (es : List (K × V)) (key : K) → HasKey es key → IsSome (value_of cmp es key)
    value-HasKey es key has = listed es key ∙ (is_member-Decides same (keys_of es) key).1 has

  replace-at : (es : List (K × V)) (key : K) (v : V) (i : ℕ) (d : K × V) → AreLower cmp es key i → i < length es
      → ((d : K × V) → cmp (get_or es i d).0 key ≡ Equal) → set es i ((get_or es i d).0, v) ≡ insert_entry cmp es key v
  replace-at [] key v i d lower within equal = absurd (omega arith)
  replace-at (e ∷ es) key v zero d lower within equal =
      let first : cmp key e.0 ≡ Equal = tied cmp o e.0 key (equal e) in
      rw first refl
  replace-at (e ∷ es) key v (suc i) d lower within equal =
      let first : cmp key e.0 ≡ Greater = above cmp o e.0 key (lower 0 e (omega arith)) in
      let rest = replace-at es key v i d (λ k d h. lower (suc k) d (omega arith)) (omega arith) equal in
      rw first (ap (λ (l : List (K × V)). e ∷ l) rest)

  -- the entry that is there takes the value
  pub replace-place : (es : List (K × V)) (key : K) (v : V) (i : ℕ) (d : K × V) → IsPlace cmp es key i → set es i ((get_or es i d).0, v) ≡ with_entry cmp es key v
  replace-place es key v i d place = replace-at es key v i d place.lower place.within place.equal
