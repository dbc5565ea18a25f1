-- Whether a key is in a table.
use Rattle.std.proofs.Common.{◌≡◌, ℕ, true, false, is_some, List, [], ◌∷◌, refl, ap, ◌∙◌, sym}
use Rattle.std.specs.Bool.{Decides}
use Rattle.std.specs.BTreeMap.{insert_entry, is_at}
use Rattle.std.specs.Cmp.{IsTotalOrder}
use Rattle.std.specs.declared.cmp.Ordering.{Ordering}
use Rattle.std.specs.declared.cmp.Ordering.TheVariants.{Less, Equal, Greater}
use Rattle.std.specs.Map.{keys_of}
use Rattle.std.specs.Ordering.{match_ordering, is_eq}
use Rattle.std.proofs.lemmas.Cmp.{nat_list_cmp_total, tied_itself}
use Rattle.std.proofs.lemmas.Map.Made.{is_member-Decides, is_some-lookup}
use Rattle.lookup_tables.specs.Entries.{HasKey, value_of, with_entry}
use Rattle.lookup_tables.specs.Tables.{NamedTables, name_cmp}
use Rattle.lookup_tables.specs.declared.table.Table.{Table}

module _ {K V : Type 0} (cmp : K → K → Ordering) (same : (x y : K) → Decides (is_eq (cmp x y)) (x ≡ y)) where
  decides : (es : List (K × V)) (key : K) → Decides (is_some (value_of cmp es key)) (HasKey es key)
  decides es key =
      let member = is_member-Decides same (keys_of es) key in
      let found = is_some-lookup (is_at (cmp key)) es in
      (λ some. member.0 (sym found ∙ some), λ has. found ∙ member.1 has)

  -- a key that is listed has a value
  pub there : (es : List (K × V)) (key : K) → HasKey es key → is_some (value_of cmp es key) ≡ true
  there es key has = (decides es key).1 has

  -- a key that isn't listed has no value
  pub not_there : (es : List (K × V)) (key : K) → (HasKey es key → ⊥) → is_some (value_of cmp es key) ≡ false
  not_there es key none =
      elim (is_some (value_of cmp es key)) as (λ b. is_some (value_of cmp es key) ≡ b → b ≡ false) [ true ↦ λ is. absurd (none ((decides es key).0 is)) | false ↦ λ is. refl ] refl

module _ {K V : Type 0} (cmp : K → K → Ordering) (o : IsTotalOrder cmp) where
  twice : (es : List (K × V)) (key : K) (v w : V) → with_entry cmp (with_entry cmp es key v) key w ≡ with_entry cmp es key w
  twice [] key v w = rw (tied_itself o key) refl
  twice (e ∷ es) key v w =
      let rest = twice es key v w in
      elim (cmp key e.0) as (λ r. cmp key e.0 ≡ r → insert_entry cmp (match_ordering r ((key, v) ∷ e ∷ es) ((e.0, v) ∷ es) (e ∷ insert_entry cmp es key v)) key w ≡ match_ordering r ((key, w) ∷ e ∷ es) ((e.0, w) ∷ es) (e ∷ insert_entry cmp es key w)) [
        | Less ↦ λ is. rw (tied_itself o key) refl
        | Equal ↦ λ is. rw is refl
        | Greater ↦ λ is. rw is (ap (λ (l : List (K × V)). e ∷ l) rest)
      ] refl

-- a table that is put in a second time
pub put_twice : (tables : NamedTables) (name : List ℕ) (table other : Table) → with_entry name_cmp (with_entry name_cmp tables name table) name other ≡ with_entry name_cmp tables name other
put_twice tables name table other = twice name_cmp nat_list_cmp_total tables name table other
