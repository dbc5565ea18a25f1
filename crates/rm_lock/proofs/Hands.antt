-- The editions in the operator's hand, which are exchanged one by one.
use Rattle.std.proofs.Common.{◌≡◌, ℕ, zero, suc, ◌+◌, ◌<◌, Some, List, [], ◌∷◌, ◌++◌, append_assoc, length, length-append, refl, sym, ◌∙◌, ap, arith}
use Rattle.std.specs.Prelude.{slice_get, slice_set, take}
use Rattle.atomic_table.specs.Table.{rest}
use Rattle.rm_table.specs.declared.padded_slot.Slot.TheVariants.{Edition}
use Rattle.rm_table.specs.Moves.{Hand, editions_from, rest_from}

module _ {A : Type 0} where
  get_behind : (xs : List A) (x : A) (ys : List A) (n : ℕ) → length xs ≡ n → slice_get (xs ++ x ∷ ys) n ≡ Some x
  get_behind [] x ys zero e = refl
  get_behind [] x ys (suc n) e = absurd (omega arith)
  get_behind (z ∷ xs) x ys zero e = absurd (omega arith)
  get_behind (z ∷ xs) x ys (suc n) e = get_behind xs x ys n (omega arith)

  set_behind : (xs : List A) (x y : A) (ys : List A) (n : ℕ) → length xs ≡ n → slice_set (xs ++ x ∷ ys) n y ≡ xs ++ y ∷ ys
  set_behind [] x y ys zero e = refl
  set_behind [] x y ys (suc n) e = absurd (omega arith)
  set_behind (z ∷ xs) x y ys zero e = absurd (omega arith)
  set_behind (z ∷ xs) x y ys (suc n) e = ap (λ (zs : List A). z ∷ zs) (set_behind xs x y ys n (omega arith))

  split_first : (xs : List A) → 0 < length xs → (x : A) × (ys : List A) × (xs ≡ x ∷ ys)
  split_first [] h = absurd (omega arith)
  split_first (x ∷ xs) h = (x, xs, refl)

  -- an item of a list's beginning
  pub get_prefix : (xs ys : List A) (i : ℕ) (x : A) → xs ≡ take (length xs) ys → slice_get xs i ≡ Some x → slice_get ys i ≡ Some x
  get_prefix [] ys i x e at = absurd cc
  get_prefix (z ∷ xs) [] i x e at = absurd cc
  get_prefix (z ∷ xs) (y ∷ ys) zero x e at = let same : z ≡ y = cc in cc
  get_prefix (z ∷ xs) (y ∷ ys) (suc i) x e at = let tails : xs ≡ take (length xs) ys = cc in get_prefix xs ys i x tails at

module _ {E B : Type 0} where
  -- what stands behind the editions
  pub editions_before : (from : ℕ) (es : List E) (xs ys : Hand E B) → editions_from from es xs ++ ys ≡ editions_from from es (xs ++ ys)
  editions_before from [] xs ys = refl
  editions_before from (e ∷ es) xs ys = ap (λ (h : Hand E B). (from, Edition (Some e)) ∷ h) (editions_before (from + 1) es xs ys)

  -- one edition more behind the others
  editions_further : (from n : ℕ) (es : List E) (e : E) (xs : Hand E B) → from + length es ≡ n → editions_from from es ((n, Edition (Some e)) ∷ xs) ≡ editions_from from (es ++ e ∷ []) xs
  editions_further from n [] e xs is = ap (λ (k : ℕ). (k, Edition (Some e)) ∷ xs) (let d : n ≡ from = omega arith in d)
  editions_further from n (d ∷ es) e xs is = ap (λ (h : Hand E B). (from, Edition (Some d)) ∷ h) (editions_further (from + 1) n es e xs (omega arith))

  -- the editions are gone, and what stood behind them is left
  pub rest_behind : (from n : ℕ) (es : List E) (xs : Hand E B) → length es ≡ n → rest_from n (editions_from from es xs) ≡ xs
  rest_behind from zero [] xs is = refl
  rest_behind from (suc n) [] xs is = absurd (omega arith)
  rest_behind from zero (e ∷ es) xs is = absurd (omega arith)
  rest_behind from (suc n) (e ∷ es) xs is = rest_behind (from + 1) n es xs (omega arith)

  abbrev top_of : E → Hand E B → E
  top_of e [] = e
  top_of e ((k, Edition (Some d)) ∷ h) = d
  top_of e (x ∷ h) = e

  -- So many are exchanged: in the list stand the old ones that are gone and the new ones that are left, in the hand the old ones that are kept and
  -- the new ones that were put.
  pub record Exchanging (done : ℕ) (olds news items : List E) (hand : Hand E B) : Type 0 where
    pub gone : List E
    pub kept : List E
    pub put : List E
    pub left : List E
    pub olds_are : olds ≡ gone ++ kept
    pub news_are : news ≡ put ++ left
    pub gone_count : length gone ≡ done
    pub put_count : length put ≡ done
    pub items_are : items ≡ gone ++ left
    pub hand_is : hand ≡ editions_from (done + 1) kept (editions_from 1 put [])

  -- before the first exchange the old editions are in the hand, and the new ones in their list
  pub exchanging_none : (olds news : List E) (hand : Hand E B) → hand ≡ editions_from 1 olds [] → Exchanging 0 olds news news hand
  exchanging_none olds news hand is = record { gone = []; kept = olds; put = []; left = news; olds_are = refl; news_are = refl; gone_count = refl; put_count = refl; items_are = refl; hand_is = is }

  kept_more : (done : ℕ) (olds news items : List E) (hand : Hand E B) (x : Exchanging done olds news items hand) → done < length olds → 0 < length x.kept
  kept_more done olds news items hand x more = let a = ap (λ (zs : List E). length zs) x.olds_are in let b = length-append x.gone x.kept in let c = x.gone_count in omega arith

  left_more : (done : ℕ) (olds news items : List E) (hand : Hand E B) (x : Exchanging done olds news items hand) → done < length news → 0 < length x.left
  left_more done olds news items hand x more = let a = ap (λ (zs : List E). length zs) x.news_are in let b = length-append x.put x.left in let c = x.put_count in omega arith

  -- the next edition lies on top
  pub next_kept : (done : ℕ) (olds news items : List E) (hand : Hand E B) → done < length olds → Exchanging done olds news items hand → (e : E) × (hand ≡ (done + 1, Edition (Some e)) ∷ rest hand)
  next_kept done olds news items hand more x =
      let k = split_first x.kept (kept_more done olds news items hand x more) in
      let is : hand ≡ (done + 1, Edition (Some k.0)) ∷ editions_from (done + 1 + 1) k.1 (editions_from 1 x.put []) = x.hand_is ∙ ap (λ (es : List E). editions_from (done + 1) es (editions_from 1 x.put [])) k.2 in
      (k.0, is ∙ ap (λ (h : Hand E B). (done + 1, Edition (Some k.0)) ∷ h) (sym (ap (λ (h : Hand E B). rest h) is)))

  -- one more
  pub exchanging_one : (done : ℕ) (olds news items items2 : List E) (hand hand2 : Hand E B) (old new : E) → done < length olds → done < length news → hand ≡ (done + 1, Edition (Some old)) ∷ rest hand → slice_get items done ≡ Some new
      → hand2 ≡ rest hand ++ (done + 1, Edition (Some new)) ∷ [] → items2 ≡ slice_set items done old → Exchanging done olds news items hand → Exchanging (done + 1) olds news items2 hand2
  exchanging_one done olds news items items2 hand hand2 old new more fresh was at now set x =
      let k = split_first x.kept (kept_more done olds news items hand x more) in
      let l = split_first x.left (left_more done olds news items hand x fresh) in
      let hand_was : hand ≡ (done + 1, Edition (Some k.0)) ∷ editions_from (done + 1 + 1) k.1 (editions_from 1 x.put []) = x.hand_is ∙ ap (λ (es : List E). editions_from (done + 1) es (editions_from 1 x.put [])) k.2 in
      let old_is : old ≡ k.0 = ap (λ (h : Hand E B). top_of old h) (sym was ∙ hand_was) in
      let items_were : items ≡ x.gone ++ l.0 ∷ l.1 = x.items_are ∙ ap (λ (zs : List E). x.gone ++ zs) l.2 in
      let found : slice_get items done ≡ Some l.0 = ap (λ (zs : List E). slice_get zs done) items_were ∙ get_behind x.gone l.0 l.1 done x.gone_count in
      let new_is : new ≡ l.0 = let e = sym at ∙ found in cc in
      record {
        gone = x.gone ++ k.0 ∷ [];
        kept = k.1;
        put = x.put ++ l.0 ∷ [];
        left = l.1;
        olds_are = x.olds_are ∙ ap (λ (zs : List E). x.gone ++ zs) k.2 ∙ sym (append_assoc x.gone (k.0 ∷ []) k.1);
        news_are = x.news_are ∙ ap (λ (zs : List E). x.put ++ zs) l.2 ∙ sym (append_assoc x.put (l.0 ∷ []) l.1);
        gone_count = length-append x.gone (k.0 ∷ []) ∙ ap (λ (n : ℕ). n + 1) x.gone_count;
        put_count = length-append x.put (l.0 ∷ []) ∙ ap (λ (n : ℕ). n + 1) x.put_count;
        items_are = set ∙ ap (λ (e : E). slice_set items done e) old_is ∙ ap (λ (zs : List E). slice_set zs done k.0) items_were ∙ set_behind x.gone l.0 k.0 l.1 done x.gone_count ∙ sym (append_assoc x.gone (k.0 ∷ []) l.1);
        hand_is =
            now ∙ ap (λ (e : E). rest hand ++ (done + 1, Edition (Some e)) ∷ []) new_is
            ∙ ap (λ (h : Hand E B). rest h ++ (done + 1, Edition (Some l.0)) ∷ []) hand_was
            ∙ editions_before (done + 1 + 1) k.1 (editions_from 1 x.put []) ((done + 1, Edition (Some l.0)) ∷ [])
            ∙ ap (λ (h : Hand E B). editions_from (done + 1 + 1) k.1 h) (editions_before 1 x.put [] ((done + 1, Edition (Some l.0)) ∷ []) ∙ editions_further 1 (done + 1) x.put l.0 [] (let c = x.put_count in omega arith));
      }

  -- the editions in a hand
  abbrev editions_in : Hand E B → List E
  editions_in [] = []
  editions_in ((k, Edition (Some e)) ∷ h) = e ∷ editions_in h
  editions_in (x ∷ h) = editions_in h

  -- a hand of editions tells which they are
  pub same_editions : (from : ℕ) (es ds : List E) (xs : Hand E B) → xs ≡ editions_from from es [] → xs ≡ editions_from from ds [] → es ≡ ds
  same_editions from es ds xs one other = sym (collects from es) ∙ ap (λ (h : Hand E B). editions_in h) (sym one ∙ other) ∙ collects from ds
    where
      collects : (from : ℕ) (es : List E) → editions_in (editions_from {E = E} {B = B} from es []) ≡ es
      collects from [] = refl
      collects from (e ∷ es) = ap (λ (ds : List E). e ∷ ds) (collects (from + 1) es)
