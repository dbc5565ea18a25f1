-- Functions changed at one place, words of the table, and the core that functions stand for.
use Rattle.std.proofs.Common.{◌≡◌, ◌≢◌, ℕ, zero, suc, ◌+◌, ◌-◌, ◌<◌, ◌≤◌, ◌⊎◌, inl, inr, Bool, false, Option, Some, None, List, [], ◌∷◌, ◌++◌, map, length, length-set, refl, sym, ◌∙◌, ap, arith, subst, eq-eqb, ne_eqb, ⊎_elim}
use Rattle.std.proofs.lemmas.Option.{get_or_from_slice_get}
use Rattle.std.specs.Prelude.{All, IsSome, slice_index, slice_index_or, slice_set, slice_get, if◌then◌else◌}
use Rattle.std.proofs.lemmas.Bool.Decides.{eqb_tells}
use Rattle.std.proofs.lemmas.List.{set-get_or, get_or-set_same, get_or-set_other}
use mathlib.Core.Option as at
use lib.ListN.{get_elem?}
use Rattle.rm_core.specs.declared.processor_state.ProcessorState.{ProcessorState}
use Rattle.rm_core.specs.CoreState.{processor_of, with_processor, IsProcessor}
use Rattle.rm_core.proofs.Changes.{processor_of-at, processor_of-within, IsProcessor-from, with_processor-some}
use Rattle.rm_table.specs.Layout.{index_of_word, number_index, behind_index, book_index, tracker_index, token_index}
use Rattle.rm_table.specs.Meanings.{with_value_at, values_from}
use Rattle.rm_table.specs.Rule.{WholeState, core_of, LockWords}

-- the value that there is
pub some_of : {A : Type 0} (o : Option A) → IsSome o → (a : A) × (o ≡ Some a)
some_of (Some a) is = (a, refl)
some_of None is = absurd cc

module _ {A : Type 0} where
  -- the value that was put stands at its place
  pub put_here : (f : ℕ → A) (p : ℕ) (a : A) → with_value_at f p a p ≡ a
  unfolding with_value_at
  put_here f p a = ap (λ (b : Bool). if b then a else f p) (eq-eqb p p refl)

  -- a value at another place stays
  pub put_else : (f : ℕ → A) (p : ℕ) (a : A) (k : ℕ) → k ≢ p → with_value_at f p a k ≡ f k
  unfolding with_value_at
  put_else f p a k other = ap (λ (b : Bool). if b then a else f k) (ne_eqb k p other)

  -- what holds of the new value at its place and of each other value at its own
  pub at_put : (P : ℕ → A → Type 0) (f : ℕ → A) (p : ℕ) (a : A) → P p a → ((k : ℕ) → k ≢ p → P k (f k)) → (k : ℕ) → P k (with_value_at f p a k)
  at_put P f p a here rest_of k =
      elim (eqb_tells k p) as (λ _. P k (with_value_at f p a k)) [
        | inl same ↦
            let e : with_value_at f p a k ≡ a = ap (with_value_at f p a) same.1 ∙ put_here f p a in
            subst (λ (x : A). P k x) (sym e) (subst (λ (n : ℕ). P n a) (sym same.1) here)
        | inr other ↦ subst (λ (x : A). P k x) (sym (put_else f p a k other.1)) (rest_of k other.1)
      ]

  -- a property of the values that the new value keeps
  pub put_keeps : {X : Type 0} (g : A → X) (f : ℕ → A) (p : ℕ) (a : A) → g a ≡ g (f p) → (k : ℕ) → g (with_value_at f p a k) ≡ g (f k)
  put_keeps g f p a same = at_put (λ k x. g x ≡ g (f k)) f p a same (λ k other. refl)

  -- at each place within a list stands an element
  pub get_there : (xs : List A) (j : ℕ) → j < length xs → (x : A) × (get_elem? xs j ≡ at.some x)
  get_there [] j h = absurd (omega arith)
  get_there (x ∷ xs) zero h = (x, refl)
  get_there (x ∷ xs) (suc j) h = get_there xs j (omega arith)

  -- an element that is found stands within the list
  pub get_within : (xs : List A) (j : ℕ) (x : A) → get_elem? xs j ≡ at.some x → j < length xs
  get_within [] j x e = absurd (at.some-ne-none x (sym e))
  get_within (y ∷ ys) zero x e = omega arith
  get_within (y ∷ ys) (suc j) x e = let h = get_within ys j x e in omega arith

  -- what `slice_get` finds, `get_elem?` finds too
  pub slice_at : (xs : List A) (j : ℕ) (x : A) → slice_get xs j ≡ Some x → get_elem? xs j ≡ at.some x
  slice_at [] j x e = absurd cc
  slice_at (y ∷ ys) zero x e = let same : y ≡ x = cc in ap (λ (z : A). at.some z) same
  slice_at (y ∷ ys) (suc j) x e = slice_at ys j x e

  -- what `get_elem?` finds, `slice_get` finds too
  pub at_slice : (xs : List A) (j : ℕ) (x : A) → get_elem? xs j ≡ at.some x → slice_get xs j ≡ Some x
  at_slice [] j x e = absurd (at.some-ne-none x (sym e))
  at_slice (y ∷ ys) zero x e = ap (λ (z : A). Some z) (at.some-injective y x e)
  at_slice (y ∷ ys) (suc j) x e = at_slice ys j x e

  -- the values at n numbers are n
  pub length-values : (f : ℕ → A) (from n : ℕ) → length (values_from f from n) ≡ n
  length-values f from zero = refl
  length-values f from (suc n) = let h = length-values f (suc from) n in omega arith

  -- value j of those from a number on is the value at the number j further
  pub values_at : (f : ℕ → A) (from n j : ℕ) → j < n → slice_get (values_from f from n) j ≡ Some (f (from + j))
  values_at f from zero j h = absurd (omega arith)
  values_at f from (suc n) zero h = let e : from ≡ from + 0 = omega arith in ap (λ (k : ℕ). Some (f k)) e
  values_at f from (suc n) (suc j) h = let e : suc from + j ≡ from + suc j = omega arith in values_at f (suc from) n j (omega arith) ∙ ap (λ (k : ℕ). Some (f k)) e

  -- a value put before `from` changes nothing
  values-below : (f : ℕ → A) (from n p : ℕ) (a : A) → p < from → values_from (with_value_at f p a) from n ≡ values_from f from n
  values-below f from zero p a h = refl
  values-below f from (suc n) p a h =
      let one : with_value_at f p a from ≡ f from = put_else f p a from (λ clash. absurd (omega arith)) in
      let others : values_from (with_value_at f p a) (suc from) n ≡ values_from f (suc from) n = values-below f (suc from) n p a (omega arith) in
      cc

  -- a value that is put at a place is set in the list of values
  values-put : (f : ℕ → A) (from n p j : ℕ) (a : A) → p ≡ from + j → values_from (with_value_at f p a) from n ≡ slice_set (values_from f from n) j a
  values-put f from zero p j a e = refl
  values-put f from (suc n) p zero a e =
      let same : from ≡ p = omega arith in
      let one : with_value_at f p a from ≡ a = ap (with_value_at f p a) same ∙ put_here f p a in
      let others : values_from (with_value_at f p a) (suc from) n ≡ values_from f (suc from) n = values-below f (suc from) n p a (omega arith) in
      cc
  values-put f from (suc n) p (suc j) a e =
      let one : with_value_at f p a from ≡ f from = put_else f p a from (λ clash. absurd (omega arith)) in
      let others : values_from (with_value_at f p a) (suc from) n ≡ slice_set (values_from f (suc from) n) j a = values-put f (suc from) n p j a (omega arith) in
      cc

  -- a change of each value changes each in the list
  pub values-map : (g : A → A) (f : ℕ → A) (from n : ℕ) → values_from (λ k. g (f k)) from n ≡ map g (values_from f from n)
  values-map g f from zero = refl
  values-map g f from (suc n) = ap (λ (ys : List A). g (f from) ∷ ys) (values-map g f (suc from) n)

  -- functions that agree have the same list of values
  pub values_like : (f g : ℕ → A) (from n : ℕ) → ((k : ℕ) → f k ≡ g k) → values_from f from n ≡ values_from g from n
  values_like f g from zero same = refl
  values_like f g from (suc n) same = let one = same from in let others : values_from f (suc from) n ≡ values_from g (suc from) n = values_like f g (suc from) n same in cc

  -- what holds at each number holds of each value
  pub all_values : (P : A → Type 0) (f : ℕ → A) (from n : ℕ) → ((k : ℕ) → from ≤ k → k < from + n → P (f k)) → All P (values_from f from n)
  all_values P f from n each j d within =
      let inside : j < n = let e = length-values f from n in omega arith in
      let is : slice_get (values_from f from n) j ≡ Some (f (from + j)) = values_at f from n j inside in
      subst P (sym (get_or_from_slice_get (values_from f from n) j (f (from + j)) d is)) (each (from + j) (omega arith) (omega arith))

-- the words, at one word changed
module _ {n number behind holder : ℕ} {tracker token : ℕ → ℕ} {ws : List ℕ} where
  -- a word that is stored as it was leaves all that the words say
  pub words_unchanged : (i : ℕ) → LockWords n number behind holder tracker token ws → LockWords n number behind holder tracker token (slice_set ws i (slice_index ws i))
  words_unchanged i w = subst (λ (xs : List ℕ). LockWords n number behind holder tracker token xs) (sym (set-get_or ws i 0)) w

  -- words that show some trackers and tokens show any that agree with these
  pub words_like : (tracker' token' : ℕ → ℕ) → ((k : ℕ) → tracker' k ≡ tracker k) → ((k : ℕ) → token' k ≡ token k) → LockWords n number behind holder tracker token ws → LockWords n number behind holder tracker' token' ws
  words_like tracker' token' t u w = record {
    size = w.size;
    number_is = w.number_is;
    behind_is = w.behind_is;
    book_is = w.book_is;
    trackers = λ k low high. w.trackers k low high ∙ sym (t k);
    tokens = λ k low high. w.tokens k low high ∙ sym (u k);
    between = w.between;
  }

  -- another published number in its word leaves what the others say
  pub words_number : (x : ℕ) → LockWords n number behind holder tracker token ws → LockWords n x behind holder tracker token (slice_set ws number_index x)
  words_number x w = record {
    size = length-set ws number_index x ∙ w.size;
    number_is = get_or-set_same ws number_index x 0 (let s = w.size in omega arith);
    behind_is = get_or-set_other ws number_index behind_index x 0 (λ clash. absurd (omega arith)) ∙ w.behind_is;
    book_is = get_or-set_other ws number_index book_index x 0 (λ clash. absurd (omega arith)) ∙ w.book_is;
    trackers = λ k low high. get_or-set_other ws number_index (tracker_index k) x 0 (λ clash. absurd (omega arith)) ∙ w.trackers k low high;
    tokens = λ k low high. get_or-set_other ws number_index (token_index n k) x 0 (λ clash. absurd (omega arith)) ∙ w.tokens k low high;
    between = λ word k inside low high. get_or-set_other ws number_index (index_of_word word + k) x 0 (λ clash. absurd (omega arith)) ∙ w.between word k inside low high;
  }

  -- another holder of the lock behind in its word leaves what the others say
  pub words_behind : (x : ℕ) → LockWords n number behind holder tracker token ws → LockWords n number x holder tracker token (slice_set ws behind_index x)
  words_behind x w = record {
    size = length-set ws behind_index x ∙ w.size;
    number_is = get_or-set_other ws behind_index number_index x 0 (λ clash. absurd (omega arith)) ∙ w.number_is;
    behind_is = get_or-set_same ws behind_index x 0 (let s = w.size in omega arith);
    book_is = get_or-set_other ws behind_index book_index x 0 (λ clash. absurd (omega arith)) ∙ w.book_is;
    trackers = λ k low high. get_or-set_other ws behind_index (tracker_index k) x 0 (λ clash. absurd (omega arith)) ∙ w.trackers k low high;
    tokens = λ k low high. get_or-set_other ws behind_index (token_index n k) x 0 (λ clash. absurd (omega arith)) ∙ w.tokens k low high;
    between = λ word k inside low high. get_or-set_other ws behind_index (index_of_word word + k) x 0 (λ clash. absurd (omega arith)) ∙ w.between word k inside low high;
  }

  -- another holder of the book in its word leaves what the others say
  pub words_book : (x : ℕ) → LockWords n number behind holder tracker token ws → LockWords n number behind x tracker token (slice_set ws book_index x)
  words_book x w = record {
    size = length-set ws book_index x ∙ w.size;
    number_is = get_or-set_other ws book_index number_index x 0 (λ clash. absurd (omega arith)) ∙ w.number_is;
    behind_is = get_or-set_other ws book_index behind_index x 0 (λ clash. absurd (omega arith)) ∙ w.behind_is;
    book_is = get_or-set_same ws book_index x 0 (let s = w.size in omega arith);
    trackers = λ k low high. get_or-set_other ws book_index (tracker_index k) x 0 (λ clash. absurd (omega arith)) ∙ w.trackers k low high;
    tokens = λ k low high. get_or-set_other ws book_index (token_index n k) x 0 (λ clash. absurd (omega arith)) ∙ w.tokens k low high;
    between = λ word k inside low high. get_or-set_other ws book_index (index_of_word word + k) x 0 (λ clash. absurd (omega arith)) ∙ w.between word k inside low high;
  }

  -- another tracker of one processor in its word leaves what the others say
  pub words_tracker : (p x : ℕ) (tracker' : ℕ → ℕ) → 0 < p → p ≤ n → tracker' p ≡ x → ((k : ℕ) → k ≢ p → tracker' k ≡ tracker k) → LockWords n number behind holder tracker token ws → LockWords n number behind holder tracker' token (slice_set ws (tracker_index p) x)
  words_tracker p x tracker' above within here rest_of w = record {
    size = length-set ws (tracker_index p) x ∙ w.size;
    number_is = get_or-set_other ws (tracker_index p) number_index x 0 (λ clash. absurd (omega arith)) ∙ w.number_is;
    behind_is = get_or-set_other ws (tracker_index p) behind_index x 0 (λ clash. absurd (omega arith)) ∙ w.behind_is;
    book_is = get_or-set_other ws (tracker_index p) book_index x 0 (λ clash. absurd (omega arith)) ∙ w.book_is;
    trackers = λ k low high. elim (eqb_tells k p) as (λ _. slice_index (slice_set ws (tracker_index p) x) (tracker_index k) ≡ tracker' k) [
      | inl same ↦
          ap (λ (j : ℕ). slice_index (slice_set ws (tracker_index p) x) (tracker_index j)) same.1
          ∙ get_or-set_same ws (tracker_index p) x 0 (let s = w.size in omega arith)
          ∙ sym here
          ∙ ap tracker' (sym same.1)
      | inr other ↦ get_or-set_other ws (tracker_index p) (tracker_index k) x 0 (λ clash. other.1 (omega arith)) ∙ w.trackers k low high ∙ sym (rest_of k other.1)
    ];
    tokens = λ k low high. get_or-set_other ws (tracker_index p) (token_index n k) x 0 (λ clash. absurd (omega arith)) ∙ w.tokens k low high;
    between = λ word k inside low high. get_or-set_other ws (tracker_index p) (index_of_word word + k) x 0 (λ clash. absurd (omega arith)) ∙ w.between word k inside low high;
  }

  -- another token of one processor in its word leaves what the others say
  pub words_token : (p x : ℕ) (token' : ℕ → ℕ) → 0 < p → p ≤ n → token' p ≡ x → ((k : ℕ) → k ≢ p → token' k ≡ token k) → LockWords n number behind holder tracker token ws → LockWords n number behind holder tracker token' (slice_set ws (token_index n p) x)
  words_token p x token' above within here rest_of w = record {
    size = length-set ws (token_index n p) x ∙ w.size;
    number_is = get_or-set_other ws (token_index n p) number_index x 0 (λ clash. absurd (omega arith)) ∙ w.number_is;
    behind_is = get_or-set_other ws (token_index n p) behind_index x 0 (λ clash. absurd (omega arith)) ∙ w.behind_is;
    book_is = get_or-set_other ws (token_index n p) book_index x 0 (λ clash. absurd (omega arith)) ∙ w.book_is;
    tokens = λ k low high. elim (eqb_tells k p) as (λ _. slice_index (slice_set ws (token_index n p) x) (token_index n k) ≡ token' k) [
      | inl same ↦
          ap (λ (j : ℕ). slice_index (slice_set ws (token_index n p) x) (token_index n j)) same.1
          ∙ get_or-set_same ws (token_index n p) x 0 (let s = w.size in omega arith)
          ∙ sym here
          ∙ ap token' (sym same.1)
      | inr other ↦ get_or-set_other ws (token_index n p) (token_index n k) x 0 (λ clash. other.1 (omega arith)) ∙ w.tokens k low high ∙ sym (rest_of k other.1)
    ];
    trackers = λ k low high. get_or-set_other ws (token_index n p) (tracker_index k) x 0 (λ clash. absurd (omega arith)) ∙ w.trackers k low high;
    between = λ word k inside low high. get_or-set_other ws (token_index n p) (index_of_word word + k) x 0 (λ clash. absurd (omega arith)) ∙ w.between word k inside low high;
  }

-- the lock's core that a Core shows
module _ {E B T L I : Type 0} (c : WholeState E B T L I) where
  -- the lock's core has the processor of each place up to their count
  pub there : (k : ℕ) → 0 < k → k ≤ c.count → processor_of (core_of c) k ≡ Some (c.state k)
  there k low high =
      let e : 1 + (k - 1) ≡ k = omega arith in
      processor_of-at (core_of c) k low ∙ values_at c.state 1 c.count (k - 1) (omega arith) ∙ ap (λ (j : ℕ). Some (c.state j)) e

  -- what holds of a processor's state holds of that processor in the lock's core
  pub is_there : (P : ProcessorState → Type 0) (k : ℕ) → 0 < k → k ≤ c.count → P (c.state k) → IsProcessor (core_of c) k P
  is_there P k low high holds = IsProcessor-from (core_of c) k P (c.state k) (there k low high) holds

  -- the processor that there is, and its place
  pub found_there : (k : ℕ) (p : ProcessorState) → processor_of (core_of c) k ≡ Some p → (0 < k) × (k ≤ c.count) × (c.state k ≡ p)
  found_there k p is =
      let within : (0 < k) × (k ≤ length (values_from c.state 1 c.count)) = processor_of-within (core_of c) k p is in
      let high : k ≤ c.count = omega (arith, length-values c.state 1 c.count) in
      let same : Some (c.state k) ≡ Some p = sym (there k within.0 high) ∙ is in
      (within.0, high, cc)

  -- a change of one processor
  pub core-put : (p : ℕ) (change : ProcessorState → ProcessorState) → 0 < p → p ≤ c.count → core_of (record c { state = with_value_at c.state p (change (c.state p)) }) ≡ with_processor (core_of c) p change
  core-put p change low high =
      let same : values_from (with_value_at c.state p (change (c.state p))) 1 c.count ≡ slice_set (values_from c.state 1 c.count) (p - 1) (change (c.state p)) = values-put c.state 1 c.count p (p - 1) (change (c.state p)) (omega arith) in
      ap (λ (ps : List ProcessorState). record (core_of c) { processors = ps }) same ∙ sym (with_processor-some (core_of c) p change (c.state p) (there p low high))

module _ {A : Type 0} where
  -- an element that is found is what stands at its place
  pub index_from : (xs : List A) (i : ℕ) (x d : A) → get_elem? xs i ≡ at.some x → slice_index_or xs i d ≡ x
  index_from [] i x d e = absurd (at.some-ne-none x (sym e))
  index_from (y ∷ ys) zero x d e = at.some-injective y x e
  index_from (y ∷ ys) (suc i) x d e = index_from ys i x d e

  -- the values at one number more end with the value at the last
  values-snoc : (f : ℕ → A) (from n : ℕ) → values_from f from (suc n) ≡ values_from f from n ++ f (from + n) ∷ []
  values-snoc f from zero = let e : from ≡ from + 0 = omega arith in ap (λ (k : ℕ). f k ∷ []) e
  values-snoc f from (suc n) = let e : suc from + n ≡ from + suc n = omega arith in
      ap (λ (ys : List A). f from ∷ ys) (values-snoc f (suc from) n ∙ ap (λ (k : ℕ). values_from f (suc from) n ++ f k ∷ []) e)

  -- one more value at the end
  pub pushed_values : (f : ℕ → A) (items : List A) (place : ℕ) (x : A) → 1 ≤ place → items ≡ values_from f 1 (place - 1) → x ≡ f place → items ++ x ∷ [] ≡ values_from f 1 (place + 1 - 1)
  pushed_values f items place x low is here =
      let n : suc (place - 1) ≡ place + 1 - 1 = omega arith in
      let at_end : 1 + (place - 1) ≡ place = omega arith in
      ap (λ (ys : List A). ys ++ x ∷ []) is ∙ ap (λ (y : A). values_from f 1 (place - 1) ++ y ∷ []) (here ∙ ap f (sym at_end)) ∙ sym (values-snoc f 1 (place - 1)) ∙ ap (λ (k : ℕ). values_from f 1 k) n

  -- item j of the values from 1 on is the value at j + 1
  pub values_found : (f : ℕ → A) (items : List A) (n j : ℕ) → items ≡ values_from f 1 n → j < n → slice_get items j ≡ Some (f (j + 1))
  values_found f items n j is inside =
      let e : 1 + j ≡ j + 1 = omega arith in
      ap (λ (ys : List A). slice_get ys j) is ∙ values_at f 1 n j inside ∙ ap (λ (k : ℕ). Some (f k)) e

  -- an element of a list with one more at its end stood there before, or is that one
  pub snoc_get : (xs : List A) (x y : A) (j : ℕ) → slice_get (xs ++ x ∷ []) j ≡ Some y → (slice_get xs j ≡ Some y) ⊎ ((j ≡ length xs) × (x ≡ y))
  snoc_get [] x y zero is = inr (refl, cc)
  snoc_get [] x y (suc j) is = absurd cc
  snoc_get (z ∷ zs) x y zero is = inl is
  snoc_get (z ∷ zs) x y (suc j) is = ⊎_elim (λ old. inl old) (λ new. inr (ap suc new.0, new.1)) (snoc_get zs x y j is)

  -- what holds of each item and of the new one
  pub pushed_items : {X : Type 0} (f : A → X) (items : List A) (slots : List X) (place n : ℕ) (x : A) → n ≡ length items → n + 1 ≡ place
      → ((j : ℕ) (e : A) → slice_get items j ≡ Some e → slice_get slots (j + 1) ≡ Some (f e)) → slice_get slots place ≡ Some (f x)
      → (j : ℕ) (e : A) → slice_get (items ++ x ∷ []) j ≡ Some e → slice_get slots (j + 1) ≡ Some (f e)
  pushed_items f items slots place n x size here all new j e is =
      ⊎_elim (λ old. all j e old)
      (λ last. let p : j + 1 ≡ place = let h = last.0 in omega arith in ap (λ (k : ℕ). slice_get slots k) p ∙ new ∙ ap (λ (y : A). Some (f y)) last.1)
      (snoc_get items x e j is)

  -- a value found in the one list, and known in the other, which is the same
  pub taken_is : (xs ys : List A) (i : ℕ) (x y : A) → xs ≡ ys → get_elem? xs i ≡ at.some x → slice_get ys i ≡ Some y → x ≡ y
  taken_is xs ys i x y same found known = let both : Some x ≡ Some y = sym (at_slice xs i x found) ∙ ap (λ (zs : List A). slice_get zs i) same ∙ known in cc

  -- an element of one list stands at the same place of an equal list
  pub taken_at : (xs ys : List A) (i : ℕ) (x : A) → xs ≡ ys → get_elem? xs i ≡ at.some x → slice_get ys i ≡ Some x
  taken_at xs ys i x same found = sym (ap (λ (zs : List A). slice_get zs i) same) ∙ at_slice xs i x found

-- a flag that was cleared is clear
cleared_here : (fs : List Bool) (i : ℕ) → slice_index_or (slice_set fs i false) i false ≡ false
cleared_here [] i = refl
cleared_here (f ∷ fs) zero = refl
cleared_here (f ∷ fs) (suc i) = cleared_here fs i

-- a flag that is cleared, or was
pub cleared : (fs : List Bool) (i k : ℕ) → (k ≢ i → slice_index_or fs k false ≡ false) → slice_index_or (slice_set fs i false) k false ≡ false
cleared fs i k others =
    elim (eqb_tells k i) as (λ _. slice_index_or (slice_set fs i false) k false ≡ false) [
      | inl same ↦ subst (λ (j : ℕ). slice_index_or (slice_set fs i false) j false ≡ false) (sym same.1) (cleared_here fs i)
      | inr other ↦ get_or-set_other fs i k false false other.1 ∙ others other.1
    ]
