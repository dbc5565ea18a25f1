-- The value of a key, where an entry was put in or taken out.
use Rattle.std.proofs.Common.{◌≡◌, ◌≢◌, ℕ, zero, suc, ◌<◌, true, false, cond, List, [], ◌∷◌, Option, None, Some, length, get_or, refl, sym, ap, ◌∙◌, arith}
use Rattle.std.specs.declared.cmp.Ordering.{Ordering}
use Rattle.std.specs.declared.cmp.Ordering.TheVariants.{Less, Equal, Greater}
use Rattle.std.specs.Bool.{Decides}
use Rattle.std.specs.BTreeMap.{insert_entry, is_at}
use Rattle.std.specs.Map.{lookup, remove_entry}
use Rattle.std.specs.Ordering.{match_ordering, is_eq}
use Rattle.lookup_tables.specs.Entries.{value_of, with_entry, without_key}

module _ {K : Type 0} (cmp : K → K → Ordering) (same : (x y : K) → Decides (is_eq (cmp x y)) (x ≡ y)) where
  apart : (x y : K) → x ≢ y → is_at (cmp x) y ≡ false
  apart x y other = elim (is_at (cmp x) y) as (λ b. is_at (cmp x) y ≡ b → b ≡ false) [ true ↦ λ is. absurd (other ((same x y).0 is)) | false ↦ λ is. refl ] refl

module _ {K V : Type 0} (cmp : K → K → Ordering) (same : (x y : K) → Decides (is_eq (cmp x y)) (x ≡ y)) where
  -- a key that isn't put in keeps its value
  pub value_of-other : (es : List (K × V)) (key q : K) (v : V) → q ≢ key → value_of cmp (with_entry cmp es key v) q ≡ value_of cmp es q
  value_of-other [] key q v other = rw (apart cmp same q key other) refl
  value_of-other (e ∷ es) key q v other =
      elim (cmp key e.0) as (λ r. cmp key e.0 ≡ r → lookup (is_at (cmp q)) (match_ordering r ((key, v) ∷ e ∷ es) ((e.0, v) ∷ es) (e ∷ insert_entry cmp es key v)) ≡ cond (is_at (cmp q) e.0) (Some e.1) (lookup (is_at (cmp q)) es)) [
        | Less ↦ λ is. rw (apart cmp same q key other) refl
        | Equal ↦ λ is.
            let key_is : key ≡ e.0 = (same key e.0).0 (ap is_eq is) in
            let differs : is_at (cmp q) e.0 ≡ false = apart cmp same q e.0 (λ q_is. other (q_is ∙ sym key_is)) in
            rw differs refl
        | Greater ↦ λ is. ap (λ (o : Option V). cond (is_at (cmp q) e.0) (Some e.1) o) (value_of-other es key q v other)
      ] refl

  -- the key that is put in has its value
  pub value_of-put : (es : List (K × V)) (key : K) (v : V) → value_of cmp (with_entry cmp es key v) key ≡ Some v
  value_of-put [] key v = rw ((same key key).1 refl) refl
  value_of-put (e ∷ es) key v =
      elim (cmp key e.0) as (λ r. cmp key e.0 ≡ r → lookup (is_at (cmp key)) (match_ordering r ((key, v) ∷ e ∷ es) ((e.0, v) ∷ es) (e ∷ insert_entry cmp es key v)) ≡ Some v) [
        | Less ↦ λ is. rw ((same key key).1 refl) refl
        | Equal ↦ λ is. let here : is_at (cmp key) e.0 ≡ true = ap is_eq is in rw here refl
        | Greater ↦ λ is. let here : is_at (cmp key) e.0 ≡ false = ap is_eq is in rw here (value_of-put es key v)
      ] refl

  -- a key that isn't taken out keeps its value
  pub value_of-left : (es : List (K × V)) (key q : K) → q ≢ key → value_of cmp (without_key cmp es key) q ≡ value_of cmp es q
  value_of-left [] key q other = refl
  value_of-left (e ∷ es) key q other =
      elim (is_at (cmp key) e.0) as (λ b. is_at (cmp key) e.0 ≡ b → lookup (is_at (cmp q)) (cond b es (e ∷ remove_entry (is_at (cmp key)) es)) ≡ cond (is_at (cmp q) e.0) (Some e.1) (lookup (is_at (cmp q)) es)) [
        | true ↦ λ is.
            let key_is : key ≡ e.0 = (same key e.0).0 is in
            let differs : is_at (cmp q) e.0 ≡ false = apart cmp same q e.0 (λ q_is. other (q_is ∙ sym key_is)) in
            rw differs refl
        | false ↦ λ is. ap (λ (o : Option V). cond (is_at (cmp q) e.0) (Some e.1) o) (value_of-left es key q other)
      ] refl

  -- a key with a value is listed with it
  pub value_of-listed : (es : List (K × V)) (key : K) (v : V) → value_of cmp es key ≡ Some v → (place : ℕ) × (place < length es) × ((d : K × V) → get_or es place d ≡ (key, v))
  value_of-listed [] key v is = cc
  value_of-listed (e ∷ es) key v is =
      elim (is_at (cmp key) e.0) as (λ b. is_at (cmp key) e.0 ≡ b → cond b (Some e.1) (lookup (is_at (cmp key)) es) ≡ Some v → (place : ℕ) × (place < suc (length es)) × ((d : K × V) → get_or (e ∷ es) place d ≡ (key, v))) [
        | true ↦ λ here found.
            let key_is : key ≡ e.0 = (same key e.0).0 here in
            let value_is : e.1 ≡ v = cc in
            (0, omega arith, λ d. ap (λ (k : K). with_value k e.1) (sym key_is) ∙ ap (with_value key) value_is)
        | false ↦ λ there found.
            let (place, within, at) = value_of-listed es key v found in
            (suc place, omega arith, at)
      ] refl is
    where
      with_value : K → V → K × V
      with_value k w = (k, w)

  -- one without a value isn't listed
  pub value_of-missing : (es : List (K × V)) (key : K) → value_of cmp es key ≡ None → (place : ℕ) (d : K × V) → place < length es → (get_or es place d).0 ≢ key
  value_of-missing [] key none place d within = absurd (omega arith)
  value_of-missing (e ∷ es) key none zero d within =
      elim (is_at (cmp key) e.0) as (λ b. is_at (cmp key) e.0 ≡ b → cond b (Some e.1) (lookup (is_at (cmp key)) es) ≡ None → e.0 ≢ key) [
        | true ↦ λ here found. cc
        | false ↦ λ there found is. let yes = (same key e.0).1 (sym is) in cc
      ] refl none
  value_of-missing (e ∷ es) key none (suc place) d within =
      elim (is_at (cmp key) e.0) as (λ b. cond b (Some e.1) (lookup (is_at (cmp key)) es) ≡ None → (get_or es place d).0 ≢ key) [
        | true ↦ λ found. cc
        | false ↦ λ found. value_of-missing es key found place d (omega arith)
      ] none
