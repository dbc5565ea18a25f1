-- A key for which nothing is kept.
use Rattle.std.proofs.Common.{◌≡◌, ℕ, zero, suc, ◌-◌, ◌<◌, Bool, true, false, List, [], ◌∷◌, take, Option, Some, None, IfNone, refl, sym, arith}
use Rattle.std.specs.Map.{lookup, lookup_entry}
use Rattle.lru.specs.LruCache.{LruCache, promoted, put_entries}
use Rattle.verdict_cache.specs.Key.{same_key}
use Rattle.verdict_cache.specs.Cache.{Kept, kept_value_of, with_key_first, WasMissed}
use Rattle.verdict_cache.specs.declared.key.Key.{Key}

module _ {K V : Type 0} (test : K → Bool) where
  lookup_entry-none : (es : List (K × V)) → lookup test es ≡ None → lookup_entry test es ≡ None
  lookup_entry-none [] h = refl
  lookup_entry-none (e ∷ es) h = (elim (test e.0) as (λ y. test e.0 ≡ y → lookup_entry test (e ∷ es) ≡ None) [
    | true ↦ λ t. let h' = rw t at h in cc
    | false ↦ λ t. rw t (lookup_entry-none es (rw t at h))
  ]) refl

  -- nothing comes to the front
  promoted-none : (es : List (K × V)) → lookup test es ≡ None → promoted test es ≡ es
  promoted-none es h = rw (lookup_entry-none es h) refl

before : {X : Type 0} (n : ℕ) (x : X) (xs : List X) → 0 < n → x ∷ take (n - 1) xs ≡ take n (x ∷ xs)
before zero x xs h = absurd (omega arith)
before (suc n) x xs h = let e : suc n - 1 ≡ n = omega arith in rw e refl

module _ {V : Type 0} where
  -- what `put` does with a key that isn't there
  pub put_entries-none : (c : LruCache Key V) (key : Key) (value : V) → 0 < c.cap → lookup (same_key key) c.entries ≡ None
      → put_entries same_key c key value ≡ take c.cap ((key, value) ∷ c.entries)
  put_entries-none c key value some h = rw (lookup_entry-none (same_key key) c.entries h) (before c.cap (key, value) c.entries some)

  -- where a look finds nothing, the key isn't there after it either
  pub missed : (result : Option V) (number : ℕ) (key : Key) (kept : Kept V)
      → kept.number ≡ Some number → result ≡ kept_value_of key kept
      → IfNone result (WasMissed number key (with_key_first key kept))
  missed (Some value) number key kept given is = tt
  missed None number key kept given is = record {
    given = given;
    missing = rw (promoted-none (same_key key) kept.pairs (sym is)) (sym is);
  }
