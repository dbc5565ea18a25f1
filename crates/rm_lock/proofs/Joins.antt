-- The seats of all processors joined into the operator's, one by one.
use Rattle.std.proofs.Common.{◌≡◌, ◌≢◌, ◌⊎◌, inl, inr, ℕ, ◌+◌, ◌-◌, ◌<◌, true, Some, List, [], ◌∷◌, ◌++◌, length, length-set, refl, sym, ◌∙◌, ap, subst, arith}
use Rattle.std.specs.Prelude.{slice_get, slice_index_or, take}
use Rattle.std.proofs.lemmas.Option.{slice_get_read, slice_get_within}
use Rattle.rm_core.proofs.Changes.{get_set_here, get_set_else}
use Rattle.atomic_table.specs.Table.{Me}
use Rattle.atomic_table.specs.Seated.{TableId}
use Rattle.rm_table.specs.declared.padded_slot.Slot.{Slot}
use Rattle.rm_table.specs.declared.view.View.{View}
use Rattle.rm_table.specs.Meanings.{Meanings}
use Rattle.rm_table.specs.Moves.{joined_view, kept_at, AllSplit, AllJoined, NoneRevoked}
use Rattle.rm_table.specs.Ends.{ClosesWith}
use Rattle.rm_table.proofs.Base.{snoc_get}
use Rattle.rm_lock.proofs.Hands.{get_prefix}
use Rattle.rm_lock.specs.Tokens.{TokenState, IsAtRestBy}
use Rattle.rm_lock.specs.Ends.{unkept_view, EachOnce, ClosesAs, EndsFor}

module _ {E B T L I : Type 0} where
  -- since `old`, these tokens' seats were joined
  pub record Joining (old : Me (Slot E B) (View E B T L I)) (tokens : List (TokenState E B T L I)) (s : Me (Slot E B) (View E B T L I)) : Type 0 where
    pub same : unkept_view s.0 ≡ unkept_view old.0
    pub size : length s.0.kept ≡ length old.0.kept
    pub state : (s.0.closing ≡ true) ⊎ (AllSplit s.0 × (tokens ≡ []))
    pub kept : (j : ℕ) (p : TokenState E B T L I) → slice_get tokens j ≡ Some p → kept_at s.0 p.view.place ≡ Some (Some p.view.part)

  -- one more
  joining_one : (old : Me (Slot E B) (View E B T L I)) (tokens : List (TokenState E B T L I)) (p : TokenState E B T L I) (s new : Me (Slot E B) (View E B T L I)) → new ≡ (joined_view s.0 p.view, s.1) → p.view.place < length old.0.kept
      → ((j : ℕ) (q : TokenState E B T L I) → slice_get tokens j ≡ Some q → q.view.place ≢ p.view.place) → Joining old tokens s → Joining old (tokens ++ p ∷ []) new
  joining_one old tokens p s new is within apart j = subst (λ (z : Me (Slot E B) (View E B T L I)). Joining old (tokens ++ p ∷ []) z) (sym is) (record {
    same = j.same;
    size = length-set s.0.kept p.view.place (Some p.view.part) ∙ j.size;
    state = inl refl;
    kept = λ i q at. elim (snoc_get tokens p q i at) as (λ _. kept_at (joined_view s.0 p.view) q.view.place ≡ Some (Some q.view.part)) [
      | inl before ↦ get_set_else s.0.kept p.view.place q.view.place (Some p.view.part) (apart i q before) ∙ j.kept i q before
      | inr here ↦ subst (λ (r : TokenState E B T L I). kept_at (joined_view s.0 p.view) r.view.place ≡ Some (Some r.view.part)) here.1 (get_set_here s.0.kept p.view.place (Some p.view.part) (let size = j.size in omega arith))
    ];
  })

  joining_all : (old : Me (Slot E B) (View E B T L I)) (tokens : List (TokenState E B T L I)) (s : Me (Slot E B) (View E B T L I)) → 0 < old.0.count → EachOnce old.0.count tokens → Joining old tokens s → AllJoined s.0
  joining_all old tokens s some each j =
      let count : s.0.count ≡ old.0.count = ap (λ (v : View E B T L I). v.count) j.same in (
        by_state j.state,
        λ k low high. let e = each.all k low (omega arith) in (e.1.view.part, ap (λ (n : ℕ). kept_at s.0 n) (sym e.3) ∙ j.kept e.0 e.1 e.2),
      )
    where
      by_state : (s.0.closing ≡ true) ⊎ (AllSplit s.0 × (tokens ≡ [])) → s.0.closing ≡ true
      by_state (inl c) = c
      by_state (inr a) = let e = each.all 1 (omega arith) (omega arith) in let none = ap (λ (ts : List (TokenState E B T L I)). slice_get ts e.0) (sym a.1) ∙ e.2 in absurd cc

  -- the next token's seat is joined: no token before it has its place
  pub joins_next : (token : TokenState E B T L I) (table : TableId) (processors number : ℕ) (old : Me (Slot E B) (View E B T L I)) (all tokens : List (TokenState E B T L I)) (p : TokenState E B T L I) (its_table : TableId) (s spent new : Me (Slot E B) (View E B T L I))
      → record { table_id = table; view = old.0 } ≡ token → IsAtRestBy processors number old.0 old.1 → EachOnce token.view.count all → record { table_id = its_table; view = spent.0 } ≡ p → new ≡ (joined_view s.0 spent.0, s.1)
      → tokens ≡ take (length tokens) all → length tokens < length all → p ≡ slice_index_or all (length tokens) p → Joining old tokens s → Joining old (tokens ++ p ∷ []) new
  joins_next token table processors number old all tokens p its_table s spent new is rests each shown then so_far more at j =
      let e : EachOnce old.0.count all = subst (λ (u : TokenState E B T L I). EachOnce u.view.count all) (sym is) each in
      let here : slice_get all (length tokens) ≡ Some p = slice_get_read all (length all) (length tokens) p refl more at in
      let w = e.within (length tokens) p here in
      let size = rests.at_rest.kept_size in
      joining_one old tokens p s new (then ∙ ap (λ (u : TokenState E B T L I). (joined_view s.0 u.view, s.1)) shown) (let low = w.0 in let high = w.1 in omega arith)
      (λ i q there same. let before = slice_get_within tokens i q there in let i_is = e.once i (length tokens) q p (get_prefix tokens all i q so_far there) here same in absurd (omega arith)) j

  -- once each token's seat was joined, all processors are
  pub joined_everyone : (token : TokenState E B T L I) (table : TableId) (processors number : ℕ) (old : Me (Slot E B) (View E B T L I)) (all tokens : List (TokenState E B T L I)) (s : Me (Slot E B) (View E B T L I)) → record { table_id = table; view = old.0 } ≡ token → IsAtRestBy processors number old.0 old.1
      → EachOnce token.view.count all → tokens ≡ all → Joining old tokens s → AllJoined s.0
  joined_everyone token table processors number old all tokens s is rests each done j =
      let e : EachOnce old.0.count all = subst (λ (u : TokenState E B T L I). EachOnce u.view.count all) (sym is) each in
      joining_all old all s rests.at_rest.some e (subst (λ (ts : List (TokenState E B T L I)). Joining old ts s) done j)

  module _ (m : Meanings E B T L I) where
    ends_for : (old : Me (Slot E B) (View E B T L I)) (tokens : List (TokenState E B T L I)) (s : Me (Slot E B) (View E B T L I)) (book : B) (trackers : List ℕ) (editions : List E) → EachOnce old.0.count tokens → NoneRevoked old.0 → Joining old tokens s → ClosesWith m s.0 book trackers editions
        → (i : ℕ) (p : TokenState E B T L I) → slice_get tokens i ≡ Some p → EndsFor m s.0 book trackers p.view
    ends_for old tokens s book trackers editions each none j c i p at =
        let w = each.within i p at in
        let count : s.0.count ≡ old.0.count = ap (λ (v : View E B T L I). v.count) j.same in
        let kept = j.kept i p at in
        let up : p.view.place - 1 + 1 ≡ p.view.place = let low = w.0 in omega arith in
        record {
          tracker = c.begun (p.view.place - 1) p.view.part (let low = w.0 in let high = w.1 in omega arith) (ap (λ (n : ℕ). kept_at s.0 n) up ∙ kept);
          list = c.lists p.view.place p.view.part kept;
          begins = c.begins p.view.place p.view.part kept;
          held = c.held p.view.place p.view.part kept;
          refusal = c.refusals p.view.place p.view.part kept none_now;
          pairs = c.pairs p.view.place p.view.part kept;
        }
      where
        none_now : NoneRevoked s.0
        none_now = subst (λ (v : View E B T L I). NoneRevoked v) (sym j.same) none

    closes : (old : Me (Slot E B) (View E B T L I)) (tokens : List (TokenState E B T L I)) (s : Me (Slot E B) (View E B T L I)) (book : B) (trackers : List ℕ) (editions : List E) → EachOnce old.0.count tokens → NoneRevoked old.0 → Joining old tokens s → ClosesWith m s.0 book trackers editions
        → ClosesAs m s.0 tokens book trackers editions
    closes old tokens s book trackers editions each none j c = record {
      name = c.name;
      tag = c.tag;
      last = c.last;
      book_number = c.book_number;
      book_tag = c.book_tag;
      list_0 = c.list_0;
      ready = c.ready;
      tracker_count = c.tracker_count;
      edition_count = c.edition_count;
      published = c.published;
      each = ends_for old tokens s book trackers editions each none j c;
    }

    -- what is given back is said by what the operator knew before the joins
    closes_as : (old : Me (Slot E B) (View E B T L I)) (tokens : List (TokenState E B T L I)) (s : Me (Slot E B) (View E B T L I)) (book : B) (trackers : List ℕ) (editions : List E) → EachOnce old.0.count tokens → NoneRevoked old.0 → Joining old tokens s → ClosesWith m s.0 book trackers editions
        → ClosesAs m old.0 tokens book trackers editions
    closes_as old tokens s book trackers editions each none j c =
        let was : ClosesAs m (unkept_view s.0) tokens book trackers editions = again s.0 (closes old tokens s book trackers editions each none j c) in
        once_more (subst (λ (v : View E B T L I). ClosesAs m v tokens book trackers editions) j.same was)
      where
        again : (v : View E B T L I) → ClosesAs m v tokens book trackers editions → ClosesAs m (unkept_view v) tokens book trackers editions
        again v d = record { name = d.name; tag = d.tag; last = d.last; book_number = d.book_number; book_tag = d.book_tag; list_0 = d.list_0; ready = d.ready; tracker_count = d.tracker_count; edition_count = d.edition_count; published = d.published; each = λ i p at. let x = d.each i p at in record { tracker = x.tracker; list = x.list; begins = x.begins; held = x.held; refusal = x.refusal; pairs = x.pairs } }

        once_more : ClosesAs m (unkept_view old.0) tokens book trackers editions → ClosesAs m old.0 tokens book trackers editions
        once_more d = record { name = d.name; tag = d.tag; last = d.last; book_number = d.book_number; book_tag = d.book_tag; list_0 = d.list_0; ready = d.ready; tracker_count = d.tracker_count; edition_count = d.edition_count; published = d.published; each = λ i p at. let x = d.each i p at in record { tracker = x.tracker; list = x.list; begins = x.begins; held = x.held; refusal = x.refusal; pairs = x.pairs } }

    -- what a lock gives back at its end is what its tokens know
    pub closes_now : (token : TokenState E B T L I) (table : TableId) (processors number : ℕ) (old : Me (Slot E B) (View E B T L I)) (all tokens : List (TokenState E B T L I)) (s : Me (Slot E B) (View E B T L I)) (book : B) (trackers : List ℕ) (editions : List E) → record { table_id = table; view = old.0 } ≡ token
        → IsAtRestBy processors number old.0 old.1 → EachOnce token.view.count all → tokens ≡ all → Joining old tokens s → ClosesWith m s.0 book trackers editions → ClosesAs m token.view all book trackers editions
    closes_now token table processors number old all tokens s book trackers editions is rests each done j c =
        let e : EachOnce old.0.count all = subst (λ (u : TokenState E B T L I). EachOnce u.view.count all) (sym is) each in
        subst (λ (u : TokenState E B T L I). ClosesAs m u.view all book trackers editions) is (closes_as old all s book trackers editions e rests.at_rest.unrevoked (subst (λ (ts : List (TokenState E B T L I)). Joining old ts s) done j) c)
