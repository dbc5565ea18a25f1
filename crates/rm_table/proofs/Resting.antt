-- The operator's seat through opening and closing.
use Rattle.std.proofs.Common.{◌≡◌, ◌⊎◌, inl, inr, ℕ, zero, suc, ◌+◌, ◌<◌, ◌≤◌, true, false, Some, None, List, [], ◌∷◌, length, length-set, refl, sym, ◌∙◌, ap, subst, arith}
use Rattle.std.specs.Prelude.{slice_get, slice_set, replicate}
use Rattle.std.proofs.lemmas.List.{length-replicate}
use Rattle.std.proofs.lemmas.Bool.Decides.{eqb_tells}
use Rattle.rm_core.proofs.Changes.{get_set_here, get_set_else, same_of-replicate}
use Rattle.atomic_table.specs.Table.{Me}
use Rattle.rm_table.specs.declared.view.Role.TheVariants.{Operator}
use Rattle.rm_table.specs.declared.padded_slot.Slot.{Slot}
use Rattle.rm_table.specs.declared.part.Part.{Part}
use Rattle.rm_table.specs.declared.view.View.{View}
use Rattle.rm_table.specs.Meanings.{Meanings, with_value_at}
use Rattle.rm_table.specs.Moves.{Hand, KeepsPart, kept_at, split_off, joined_view, AllSplit, AllJoined, NoneRevoked, NoneDrained}
use Rattle.rm_table.specs.Ends.{first_part, first_view, OpensTable}
use Rattle.rm_table.specs.Rests.{IsAtRest, IsOpening, IsClosing, IsRejoined, OpensFrom, IsRejoinedFrom}
use Rattle.rm_table.proofs.Base.{at_put, length-values, values_at}
use Rattle.rm_table.proofs.Publishing.{flag_of-replicate}

module _ {E B T L I : Type 0} where
  -- a split leaves the parts of the others
  opening_splits : (next : ℕ) (parts : ℕ → Part E L I) (v : View E B T L I) (hand : Hand E B) → 0 < next → next ≤ v.count → IsOpening next parts v hand → IsOpening (next + 1) parts (split_off v next) hand
  opening_splits next parts v hand low high o = record {
    operator = o.operator;
    opening = o.opening;
    some = o.some;
    unpublished = o.unpublished;
    gone = λ k part below is. elim (eqb_tells k next) as (λ _. ⊥) [
      | inl same ↦
          let here = get_set_here v.kept next None (let s = o.kept_size in omega arith) in
          let e = ap (slice_get (slice_set v.kept next None)) (sym same.1) ∙ is in
          let clash = sym here ∙ e in absurd cc
      | inr other ↦ o.gone k part (let d = other.1 in omega arith) (sym (get_set_else v.kept next k None other.1) ∙ is)
    ];
    kept = λ k above within. get_set_else v.kept next k None (λ e. absurd (omega arith)) ∙ o.kept k (omega arith) within;
    kept_size = length-set v.kept next None ∙ o.kept_size;
    unheld = o.unheld;
    bookless = o.bookless;
    unrevoked = o.unrevoked;
    undrained = o.undrained;
    revoked_size = o.revoked_size;
    drained_size = o.drained_size;
    counts = o.counts;
    empty_hand = o.empty_hand;
  }

  -- once every seat is split off, the operator is at rest
  pub opening_ends : (next : ℕ) (v : View E B T L I) (hand : Hand E B) → v.count < next → OpensFrom next v hand → IsAtRest v hand
  opening_ends next v hand past opens = let o = opens.1 in record {
    some = o.some;
    unpublished = o.unpublished;
    operator = record { role = o.operator; split = (o.opening, λ k part is. elim (below k) as (λ _. ⊥) [ inl low ↦ (opens.1).gone k part low is | inr high ↦ let out = beyond v.kept k (let s = (opens.1).kept_size in omega arith) in let clash = sym out ∙ is in absurd cc ]) };
    kept_size = o.kept_size;
    unheld = o.unheld;
    bookless = o.bookless;
    unrevoked = o.unrevoked;
    undrained = o.undrained;
    revoked_size = o.revoked_size;
    drained_size = o.drained_size;
    counts = o.counts;
    empty_hand = o.empty_hand;
  }
    where
      below : (k : ℕ) → (k < next) ⊎ (next ≤ k)
      below k = tells k next
        where
          tells : (i j : ℕ) → (i < j) ⊎ (j ≤ i)
          tells i zero = inr (omega arith)
          tells zero (suc j) = inl (omega arith)
          tells (suc i) (suc j) = elim (tells i j) as (λ _. (suc i < suc j) ⊎ (suc j ≤ suc i)) [ inl a ↦ inl (omega arith) | inr b ↦ inr (omega arith) ]

      beyond : {A : Type 0} (xs : List A) (k : ℕ) → length xs ≤ k → slice_get xs k ≡ None
      beyond [] k h = refl
      beyond (x ∷ xs) zero h = absurd (omega arith)
      beyond (x ∷ xs) (suc k) h = beyond xs k (omega arith)

  -- the first join, and each later one: the part of the seat joined is kept beside those that were
  closing_joins : (next : ℕ) (parts : ℕ → Part E L I) (v w : View E B T L I) → v.role ≡ Operator → w.place ≡ next → next ≤ v.count → length v.kept ≡ v.count + 1 → ((k : ℕ) → next < k → k ≤ v.count → kept_at v k ≡ Some (Some (parts k))) → v.book ≡ None → NoneRevoked v → NoneDrained v
      → IsClosing next (with_value_at parts next w.part) (joined_view v w)
  closing_joins next parts v w operator place within size kept bookless unrevoked undrained = record {
    operator = operator;
    closing = refl;
    kept = at_put (λ k part. next ≤ k → k ≤ v.count → kept_at (joined_view v w) k ≡ Some (Some part)) parts next w.part
        (λ above inside. ap (λ (p : ℕ). slice_get (slice_set v.kept p (Some w.part)) next) place ∙ get_set_here v.kept next (Some w.part) (omega arith))
        (λ k other above inside. get_set_else v.kept w.place k (Some w.part) (λ e. other (e ∙ place)) ∙ kept k (grind (arith, other)) inside);
    kept_size = length-set v.kept w.place (Some w.part) ∙ size;
    bookless = bookless;
    unrevoked = unrevoked;
    undrained = undrained;
  }

  -- the same of a seat's state before and after the call
  pub opening_after : (place : ℕ) (parts : ℕ → Part E L I) (old new : Me (Slot E B) (View E B T L I)) → new ≡ (split_off old.0 place, old.1) → 0 < place → place ≤ old.0.count → IsOpening place parts old.0 old.1 → IsOpening (place + 1) parts new.0 new.1
  opening_after place parts old new is low high o = subst (λ (s : Me (Slot E B) (View E B T L I)). IsOpening (place + 1) parts s.0 s.1) (sym is) (opening_splits place parts old.0 old.1 low high o)

  -- once a place is split off, those from the next one on are left
  pub after_split : (place : ℕ) (old new : Me (Slot E B) (View E B T L I)) → new ≡ (split_off old.0 place, old.1) → 0 < place → place ≤ old.0.count → OpensFrom place old.0 old.1 → OpensFrom (place + 1) new.0 new.1
  after_split place old new is low high o = (o.0, opening_after place o.0 old new is low high o.1)

  -- the seat of the next place may be split off
  pub may_split : (place : ℕ) (v : View E B T L I) (hand : Hand E B) → place ≤ v.count → OpensFrom place v hand → KeepsPart v place
  may_split place v hand within o = (o.0 place, (o.1).kept place (omega arith) within)

  -- once every place is split off, none is joined again yet
  pub after_all_splits : (next : ℕ) (v : View E B T L I) (hand : Hand E B) → v.count < next → OpensFrom next v hand → IsRejoinedFrom next v hand
  after_all_splits next v hand past o = (o.0, inl (past, opening_ends next v hand past o))

  -- the operator, at rest or with some seats joined, may join another
  pub may_join : (next : ℕ) (v : View E B T L I) (hand : Hand E B) → IsRejoinedFrom next v hand → (v.role ≡ Operator) × ((v.closing ≡ true) ⊎ AllSplit v)
  may_join next v hand r = by_end r.1
    where
      by_end : IsRejoined next r.0 v hand → (v.role ≡ Operator) × ((v.closing ≡ true) ⊎ AllSplit v)
      by_end (inl rest) = (rest.1.operator.role, inr rest.1.operator.split)
      by_end (inr closing) = (closing.operator, inl closing.closing)

  joined_after : (place : ℕ) (parts : ℕ → Part E L I) (v w : View E B T L I) (hand : Hand E B) → w.place ≡ place → place ≤ v.count → IsRejoined (place + 1) parts v hand → IsClosing place (with_value_at parts place w.part) (joined_view v w)
  joined_after place parts v w hand is within (inl rest) = closing_joins place parts v w rest.1.operator.role is within rest.1.kept_size (λ k above inside. absurd (let past = rest.0 in omega arith)) rest.1.bookless rest.1.unrevoked rest.1.undrained
  joined_after place parts v w hand is within (inr c) = closing_joins place parts v w c.operator is within c.kept_size (λ k above inside. c.kept k (omega arith) inside) c.bookless c.unrevoked c.undrained

  -- a join adds the part of the seat joined
  rejoined_after : (place : ℕ) (parts : ℕ → Part E L I) (old new : Me (Slot E B) (View E B T L I)) (w : View E B T L I) → new ≡ (joined_view old.0 w, old.1) → w.place ≡ place → place ≤ old.0.count → IsRejoined (place + 1) parts old.0 old.1 → IsRejoined place (with_value_at parts place w.part) new.0 new.1
  rejoined_after place parts old new w is at within r = subst (λ (s : Me (Slot E B) (View E B T L I)). IsRejoined place (with_value_at parts place w.part) s.0 s.1) (sym is) (inr (joined_after place parts old.0 w old.1 at within r))

  -- once a place is joined, those from it on are
  pub after_join : (place : ℕ) (old new : Me (Slot E B) (View E B T L I)) (w : View E B T L I) → new ≡ (joined_view old.0 w, old.1) → w.place ≡ place → place ≤ old.0.count → IsRejoinedFrom (place + 1) old.0 old.1 → IsRejoinedFrom place new.0 new.1
  after_join place old new w is at within r = (with_value_at r.0 place w.part, rejoined_after place r.0 old new w is at within r.1)

  -- once the first place is joined, the operator keeps a part of each place
  pub rejoined_closing : (v : View E B T L I) (hand : Hand E B) → 0 < v.count → IsRejoinedFrom 1 v hand → (parts : ℕ → Part E L I) × IsClosing 1 parts v
  rejoined_closing v hand some r = by_end r.1
    where
      by_end : IsRejoined 1 r.0 v hand → (parts : ℕ → Part E L I) × IsClosing 1 parts v
      by_end (inl rest) = absurd (let past = rest.0 in omega arith)
      by_end (inr c) = (r.0, c)

  -- an operator that keeps a part of each place has joined every seat
  pub all_joined : (v : View E B T L I) (parts : ℕ → Part E L I) → IsClosing 1 parts v → AllJoined v
  all_joined v parts c = (c.closing, λ k low high. (parts k, c.kept k low high))

  -- the opening seat keeps each processor's first part
  pub opens_first : (m : Meanings E B T L I) (n : ℕ) (edition : E) (book : B) → 0 < n → IsOpening 1 (first_part m book) (first_view m n edition book) []
  opens_first m n edition book some = record {
    operator = refl;
    opening = refl;
    some = some;
    unpublished = refl;
    gone = λ k part below is. let zero_k : k ≡ 0 = omega arith in let e = ap (slice_get (first_view m n edition book).kept) (sym zero_k) ∙ is in absurd cc;
    kept = kept_at_first;
    kept_size = let e = length-values (λ place. Some (first_part m book place)) 1 n in omega arith;
    unheld = refl;
    bookless = refl;
    unrevoked = λ k low high. flag_of-replicate _ k;
    undrained = λ k low high. flag_of-replicate _ k;
    revoked_size = length-replicate (n + 1) false;
    drained_size = length-replicate (n + 1) false;
    counts = refl;
    empty_hand = refl;
  }
    where
      kept_at_first : (k : ℕ) → 1 ≤ k → k ≤ n → kept_at (first_view m n edition book) k ≡ Some (Some (first_part m book k))
      kept_at_first zero low high = absurd (omega arith)
      kept_at_first (suc k) low high =
          let e : 1 + k ≡ suc k = omega arith in
          values_at (λ place. Some (first_part m book place)) 1 n k (omega arith) ∙ ap (λ (p : ℕ). Some (Some (first_part m book p))) e

-- a seat with the view of the opening has split no place off
pub opens_me : {E B T L I : Type 0} (m : Meanings E B T L I) (n : ℕ) (edition : E) (book : B) (me : Me (Slot E B) (View E B T L I)) → 0 < n → me ≡ (first_view m n edition book, []) → OpensFrom 1 me.0 me.1
opens_me {E} {B} {T} {L} {I} m n edition book me some is = (first_part m book, subst (λ (s : Me (Slot E B) (View E B T L I)). IsOpening 1 (first_part m book) s.0 s.1) (sym is) (opens_first m n edition book some))

-- the first of some copies is the one that was copied
pub first_of-replicate : {A : Type 0} (a : A) (n : ℕ) → 0 < n → slice_get (replicate n a) 0 ≡ Some a
first_of-replicate a zero h = absurd (omega arith)
first_of-replicate a (suc n) h = refl

-- editions that are all one open a lock
pub opens_alike : {E B T L I : Type 0} (m : Meanings E B T L I) (n : ℕ) (edition : E) (book : B) → 0 < n → m.number edition ≡ m.book_number book → m.tag edition ≡ m.book_tag book → OpensTable m (replicate n edition) edition book
opens_alike m n edition book some number tag = record {
  some_there = let e = length-replicate n edition in omega arith;
  same = λ j e is. let alike = same_of-replicate edition e n j is in (ap m.number alike ∙ number, ap m.name alike, ap m.tag alike ∙ tag);
}

-- copies of one edition meet what opening asks of the editions
pub opens_copies : {E B T L I : Type 0} (m : Meanings E B T L I) (n : ℕ) (edition : E) (book : B) (editions : List E) → 0 < n → editions ≡ replicate n edition → m.number edition ≡ m.book_number book → m.tag edition ≡ m.book_tag book
    → (e : E) × (slice_get editions 0 ≡ Some e) × OpensTable m editions e book
opens_copies m n edition book editions some are number tag = rw are (edition, first_of-replicate edition n some, opens_alike m n edition book some number tag)
