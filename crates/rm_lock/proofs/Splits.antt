-- The seats of all processors split off the opening seat, one by one.
use Rattle.std.proofs.Common.{◌≡◌, ℕ, ◌+◌, ◌-◌, ◌<◌, ◌≤◌, Option, None, false, List, [], ◌∷◌, ◌++◌, refl, sym, ◌∙◌, ap, subst, arith}
use Rattle.std.specs.Prelude.{is_some}
use Rattle.atomic_table.specs.Table.{Me}
use Rattle.atomic_table.specs.Seated.{TableId}
use Rattle.rm_table.specs.declared.padded_slot.Slot.{Slot}
use Rattle.rm_table.specs.declared.view.View.{View}
use Rattle.rm_table.specs.declared.part.Part.{Part}
use Rattle.rm_table.specs.Meanings.{Meanings, values_from}
use Rattle.rm_table.specs.Moves.{kept_at, split_off, right_of, processor_view, KeepsPart}
use Rattle.rm_table.specs.Ends.{first_part, first_view}
use Rattle.rm_table.specs.Rests.{IsOpening, IsAtRest}
use Rattle.rm_table.proofs.Base.{pushed_values}
use Rattle.rm_table.proofs.Resting.{opening_after, opening_ends, opens_first}
use Rattle.rm_lock.specs.Tokens.{TokenState, greatest_pair_number, IsOutBy, IsAtRestBy}
use Rattle.rm_lock.specs.Ends.{unkept_view, new_token, OpensAs}

-- a place that isn't past the processors' count is within it as the seat knows it
pub may_count : (place count now before : ℕ) → place < count + 1 → now ≡ before → before ≡ count → place ≤ now
may_count place count now before low e n = omega arith

module _ {E B T L I : Type 0} where
  -- since `old`, the seats of the places below `next` were split off, and these are their tokens
  pub record Splitting (next : ℕ) (table : TableId) (parts : ℕ → Part E L I) (old s : Me (Slot E B) (View E B T L I)) (tokens : List (TokenState E B T L I)) : Type 0 where
    pub opening : IsOpening next parts s.0 s.1
    pub same : unkept_view s.0 ≡ unkept_view old.0
    pub tokens_are : tokens ≡ values_from (new_token table old.0 parts) 1 (next - 1)

  -- the seat of the next place is there to be split off
  pub may_be_split : (next : ℕ) (table : TableId) (parts : ℕ → Part E L I) (old s : Me (Slot E B) (View E B T L I)) (tokens : List (TokenState E B T L I)) → next ≤ s.0.count → Splitting next table parts old s tokens → KeepsPart s.0 next
  may_be_split next table parts old s tokens within p = (parts next, p.opening.kept next (omega arith) within)

  -- the seat that was split off
  split_seat_is : (next : ℕ) (parts : ℕ → Part E L I) (s seat : Me (Slot E B) (View E B T L I)) → seat ≡ (right_of s.0 next (kept_at s.0 next), []) → next ≤ s.0.count → IsOpening next parts s.0 s.1 → seat ≡ (processor_view s.0 next (parts next), [])
  split_seat_is next parts s seat is within o = is ∙ ap (λ (k : Option (Option (Part E L I))). (right_of s.0 next k, [])) (o.kept next (omega arith) within)

  -- a seat that was split off is out, and has been told of no number
  pub new_is_out : (next number : ℕ) (parts : ℕ → Part E L I) (s seat : Me (Slot E B) (View E B T L I)) → seat ≡ (right_of s.0 next (kept_at s.0 next), []) → next ≤ s.0.count → (parts next).held ≡ number → (parts next).pairs ≡ [] → (parts next).refusal ≡ None → IsOpening next parts s.0 s.1 → IsOutBy next number 0 false seat.0 seat.1
  new_is_out next number parts s seat is within held unseen unrefused o = subst (λ (z : Me (Slot E B) (View E B T L I)). IsOutBy next number 0 false z.0 z.1) (sym (split_seat_is next parts s seat is within o))
      (record { idle = record { processor = refl; out = refl; unheld = refl; bookless = refl; empty_hand = refl }; place_is = refl; number_is = held; told_is = ap (λ (pairs : List (ℕ × L)). greatest_pair_number pairs) unseen; refused_is = ap (λ (o : Option ℕ). is_some o) unrefused })

  -- one more
  pub splitting_one : (next : ℕ) (table at : TableId) (parts : ℕ → Part E L I) (old s new seat : Me (Slot E B) (View E B T L I)) (tokens : List (TokenState E B T L I)) → 0 < next → next ≤ s.0.count → at ≡ table → new ≡ (split_off s.0 next, s.1) → seat ≡ (right_of s.0 next (kept_at s.0 next), [])
      → Splitting next table parts old s tokens → Splitting (next + 1) table parts old new (tokens ++ record { table_id = at; view = seat.0 } ∷ [])
  splitting_one next table at parts old s new seat tokens low high here is split p = record {
    opening = opening_after next parts s new is low high p.opening;
    same = ap (λ (z : Me (Slot E B) (View E B T L I)). unkept_view z.0) is ∙ p.same;
    tokens_are = pushed_values (new_token table old.0 parts) tokens next (record { table_id = at; view = seat.0 }) low p.tokens_are
        (ap (λ (t : TableId). record { table_id = t; view = seat.0 }) here
        ∙ ap (λ (z : Me (Slot E B) (View E B T L I)). record { table_id = table; view = z.0 }) (split_seat_is next parts s seat split high p.opening)
        ∙ ap (λ (v : View E B T L I). record { table_id = table; view = processor_view v next (parts next) }) p.same);
  }

  -- once all seats are split off, the opening seat is the operator at rest
  pub split_rests : (next : ℕ) (table : TableId) (parts : ℕ → Part E L I) (old s : Me (Slot E B) (View E B T L I)) (tokens : List (TokenState E B T L I)) → old.0.count < next → Splitting next table parts old s tokens → IsAtRest s.0 s.1
  split_rests next table parts old s tokens past p = opening_ends next s.0 s.1 (let e = ap (λ (v : View E B T L I). v.count) p.same in omega arith) (parts, p.opening)

  -- all are split off
  pub all_tokens : (next count : ℕ) (table : TableId) (parts : ℕ → Part E L I) (old s : Me (Slot E B) (View E B T L I)) (tokens : List (TokenState E B T L I)) → next ≡ count + 1 → Splitting next table parts old s tokens → tokens ≡ values_from (new_token table old.0 parts) 1 count
  all_tokens next count table parts old s tokens past p = p.tokens_are ∙ ap (λ (n : ℕ). values_from (new_token table old.0 parts) 1 n) (let e : next - 1 ≡ count = omega arith in e)

  module _ (m : Meanings E B T L I) where
    -- the seat of a new lock has all processors' seats to split off
    pub first_opening : (n : ℕ) (edition : E) (book : B) (me : Me (Slot E B) (View E B T L I)) → 0 < n → me ≡ (first_view m n edition book, []) → IsOpening 1 (first_part m book) me.0 me.1
    first_opening n edition book me some is = subst (λ (s : Me (Slot E B) (View E B T L I)). IsOpening 1 (first_part m book) s.0 s.1) (sym is) (opens_first m n edition book some)

    -- the operator of a new lock is between two writes, at the book's number
    pub first_at_rest : (n processors : ℕ) (edition : E) (book : B) (v : View E B T L I) (hand : List (ℕ × Slot E B)) (number : ℕ) → n ≡ processors → processors ≤ 64 → m.book_number book ≡ number → IsAtRest v hand → unkept_view v ≡ unkept_view (first_view m n edition book) → IsAtRestBy processors number v hand
    first_at_rest n processors edition book v hand number all few is rests same = record {
      at_rest = rests;
      begun = let first : v.opened ≡ m.book_number book = ap (λ (w : View E B T L I). w.opened) same in let now : v.number ≡ m.book_number book = ap (λ (w : View E B T L I). w.number) same in omega arith;
      few = few;
      count_is = ap (λ (w : View E B T L I). w.count) same ∙ all;
      number_is = ap (λ (w : View E B T L I). w.number) same ∙ is;
    }

    -- a new lock has a token for each processor in order, and the operator's
    pub opens_as : (n : ℕ) (edition : E) (book : B) (table at : TableId) (me : Me (Slot E B) (View E B T L I)) (v : View E B T L I) (tokens : List (TokenState E B T L I)) → (processors : ℕ) → processors ≡ n → me ≡ (first_view m n edition book, []) → at ≡ table → unkept_view v ≡ unkept_view me.0
        → tokens ≡ values_from (new_token table me.0 (first_part m book)) 1 processors → OpensAs m n edition book table tokens (record { table_id = at; view = v })
    opens_as n edition book table at me v tokens processors all is here same tokens_are = record {
      processors = tokens_are ∙ ap (λ (k : ℕ). values_from (new_token table me.0 (first_part m book)) 1 k) all ∙ ap (λ (s : Me (Slot E B) (View E B T L I)). values_from (new_token table s.0 (first_part m book)) 1 n) is;
      lock = here;
      knows = same ∙ ap (λ (s : Me (Slot E B) (View E B T L I)). unkept_view s.0) is;
    }
