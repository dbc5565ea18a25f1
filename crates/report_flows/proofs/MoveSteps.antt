-- One more record, counted for its move.
use Rattle.std.proofs.Common.{◌≡◌, ◌≢◌, ℕ, ◌+◌, ◌<◌, true, false, List, [], ◌∷◌, ◌++◌, Option, None, Some, length, refl, sym, ap, ◌∙◌, subst, arith, inl, inr, nat_eq}
use Rattle.std.specs.Prelude.{IfSome}
use Rattle.std.proofs.lemmas.Bool.{cases_Bool, cases_lt, and_parts, eqb-true, eq-eqb}
use Rattle.std.proofs.lemmas.Map.Keys.{apart_from_distinct}
use Rattle.report_moves.specs.Moves.{AreToldOnce, is_same_move}
use Rattle.report_moves.specs.declared.moves.Move.{Move}
use Rattle.report_flows.specs.declared.flow.AnyFlow.{AnyFlow}
use Rattle.report_flows.specs.Counting.{Row, Entries, AreCounted, CountsAt, CountsFlow, IsBelow, IsCounted, IsPlaceOf, entries_at, is_move_of, is_of, move_at, no_move, pair_of}
use Rattle.report_flows.proofs.FlowSteps.{none_counted, counted_here, counted_elsewhere, below_next}

module _ (moves : List Move) (capture : ℕ) where
  -- a move of the capture is one of a record's where it has the record's outcomes
  move_of_row : (move : Move) (row : Row) → move.capture ≡ capture → is_of (pair_of move) row ≡ is_move_of capture row.0 move
  move_of_row move row here = rw (eq-eqb move.capture capture here) refl

  -- two moves of one capture and of the same outcomes are the same
  same_moves : (move other : Move) (pair : ℕ × ℕ) → is_move_of capture pair move ≡ true → is_move_of capture pair other ≡ true → is_same_move move other ≡ true
  same_moves move other pair one two =
      let (c, p) = and_parts (nat_eq move.capture capture) _ one in
      let (d, q) = and_parts (nat_eq other.capture capture) _ two in
      let (e, f) = and_parts (nat_eq move.was pair.0) _ p in
      let (g, h) = and_parts (nat_eq other.was pair.0) _ q in
      let captures : move.capture ≡ other.capture = eqb-true _ _ c ∙ sym (eqb-true _ _ d) in
      let olds : move.was ≡ other.was = eqb-true _ _ e ∙ sym (eqb-true _ _ g) in
      let news : move.is ≡ other.is = eqb-true _ _ f ∙ sym (eqb-true _ _ h) in
      rw (eq-eqb _ _ captures, eq-eqb _ _ olds, eq-eqb _ _ news) refl

  -- so they stand at one place
  one_place : AreToldOnce moves → (pair : ℕ × ℕ) (k place : ℕ) → k < length moves → place < length moves
      → is_move_of capture pair (move_at moves k) ≡ true → is_move_of capture pair (move_at moves place) ≡ true → k ≡ place
  one_place once pair k place within there one two = elim (cases_lt k place) [
    | inl below ↦
        let clash = apart_from_distinct is_same_move moves k place no_move once below there in
        let same = same_moves (move_at moves k) (move_at moves place) pair one two in
        absurd (cc)
    | inr above ↦ elim (cases_lt place k) [
      | inl below ↦
          let clash = apart_from_distinct is_same_move moves place k no_move once below within in
          let same = same_moves (move_at moves place) (move_at moves k) pair two one in
          absurd (cc)
      | inr other ↦ omega (arith, above, other)
    ]
  ]

  -- a record is counted for the move that it is of, and for no other
  pub record_counted : AreToldOnce moves → (rows : List Row) (row : Row) (found : Option ℕ) (old mid new : List Entries) → IsPlaceOf moves capture row.0 found
      → AreCounted moves capture rows old mid → CountsAt mid new found row.1 (length rows + 1) → AreCounted moves capture (rows ++ row ∷ []) old new
  record_counted once rows row None old mid new place before counts =
      subst (AreCounted moves capture (rows ++ row ∷ []) old) (sym counts) (record {
        count = before.count;
        here = λ k within here.
            counted_elsewhere (pair_of (move_at moves k)) rows (entries_at mid k) (entries_at mid k) row (before.here k within here)
            (move_of_row (move_at moves k) row here ∙ place k within) refl;
        others = before.others;
      })
  record_counted once rows row (Some p) old mid new place before counts = record {
    count = counts.0 ∙ before.count;
    here = λ k within here. elim (cases_Bool (is_of (pair_of (move_at moves k)) row)) [
      | inl is ↦
          let at : k ≡ p = one_place once row.0 k p within place.0 (sym (move_of_row (move_at moves k) row here) ∙ is) place.1 in
          let step = subst (λ n. CountsFlow (entries_at mid n) (entries_at new n) row.1 (length rows + 1)) (sym at) counts.1 in
          counted_here (pair_of (move_at moves k)) rows (entries_at mid k) (entries_at new k) row (before.here k within here) is step
      | inr isn't ↦
          let other : k ≢ p = λ same.
          let found : is_of (pair_of (move_at moves k)) row ≡ true =
          move_of_row (move_at moves k) row here ∙ ap (λ n. is_move_of capture row.0 (move_at moves n)) same ∙ place.1
          in
          let clash : false ≡ true = sym isn't ∙ found in absurd (cc)
          in
          counted_elsewhere (pair_of (move_at moves k)) rows (entries_at mid k) (entries_at new k) row (before.here k within here) isn't (counts.2 k other)
    ];
    others = λ k apart.
        let other : k ≢ p = λ same.
        apart (ap (λ n. (move_at moves n).capture) same ∙ eqb-true _ _ (and_parts (nat_eq (move_at moves p).capture capture) _ place.1).0)
        in
        counts.2 k other ∙ before.others k apart;
  }

  -- before the first record nothing is counted
  pub none_counted_yet : (old : List Entries) → ((place : ℕ) → (move_at moves place).capture ≡ capture → entries_at old place ≡ []) → AreCounted moves capture [] old old
  none_counted_yet old none = record {
    count = refl;
    here = λ k within here. subst (IsCounted (pair_of (move_at moves k)) []) (sym (none k here)) (none_counted (pair_of (move_at moves k)) []);
    others = λ k apart. refl;
  }

  -- fewer records of the next one's flow were counted for its move than there are records and one
  pub below_at : (rows : List Row) (pair : ℕ × ℕ) (found : Option ℕ) (flow : Option AnyFlow) (old mid : List Entries) → IsPlaceOf moves capture pair found
      → AreCounted moves capture rows old mid → IfSome found (λ place. IsBelow flow (length rows + 1) (entries_at mid place))
  below_at rows pair None flow old mid place counted = tt
  below_at rows pair (Some p) flow old mid place counted =
      below_next (pair_of (move_at moves p)) rows (entries_at mid p)
      (counted.here p place.0 (eqb-true _ _ (and_parts (nat_eq (move_at moves p).capture capture) _ place.1).0)) flow
