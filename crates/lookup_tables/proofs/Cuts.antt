-- Pieces that are cut, joined and changed.
use Rattle.std.proofs.Common.{◌≡◌, ◌≢◌, ℕ, ◌+◌, ◌-◌, ◌^◌, ◌<◌, ◌≤◌, ◌⊎◌, Bool, true, false, ◌||◌, nat_eq, List, Option, length, get_or, refl, sym, ap, subst, ◌∙◌, inl, inr, arith}
use Rattle.std.proofs.lemmas.Bool.{cases_order}
use Rattle.std.proofs.lemmas.List.{get_or_default}
use Rattle.std.proofs.lemmas.Bool.Decides.{nat_tests}
use Rattle.fw_base.specs.Prefix.{Network}
use Rattle.lookup_tables.specs.Change.{decider_after_change, AreChanged}
use Rattle.lookup_tables.specs.Piece.{decider}
use Rattle.lookup_tables.specs.Pieces.{piece_at, no_piece, first_of, IsIn, IsDivision, Tells, HaveEnds}
use Rattle.lookup_tables.specs.declared.change.Change.{Change}
use Rattle.lookup_tables.specs.declared.piece.Piece.{Piece}

-- a piece that begins at the address stands behind the place
pub record IsCut (old new : List Piece) (place address : ℕ) : Type 0 where
  pub many : length new ≡ length old + 1
  pub low : (k : ℕ) → k < place + 1 → piece_at new k ≡ piece_at old k
  pub begins : first_of new (place + 1) ≡ address
  pub like : decider (piece_at new (place + 1)) ≡ decider (piece_at old place)
  pub high : (k : ℕ) → place + 1 < k → piece_at new k ≡ piece_at old (k - 1)

first_same : (old new : List Piece) (j k : ℕ) → piece_at new j ≡ piece_at old k → first_of new j ≡ first_of old k
first_same old new j k same = ap (λ (p : Piece). p.first.0) same

decider_same : (old new : List Piece) (j k : ℕ) → piece_at new j ≡ piece_at old k → decider (piece_at new j) ≡ decider (piece_at old k)
decider_same old new j k same = ap decider same

-- a later piece begins no earlier
never_lower : (pieces : List Piece) (j k : ℕ) → IsDivision pieces → j ≤ k → k < length pieces → first_of pieces j ≤ first_of pieces k
never_lower pieces j k h le within =
    elim (cases_order j k) [
      | inl same ↦ let is = ap (first_of pieces) same in omega arith
      | inr (inl less) ↦ let up = h.rising j k less within in omega arith
      | inr (inr more) ↦ absurd (omega arith)
    ]

module _ (old new : List Piece) (place address : ℕ) (cut : IsCut old new place address) (h : IsDivision old) (here : IsIn old address place) (less : first_of old place < address) (fits : address < 2 ^ 32) where
  -- with one piece cut in two the pieces have all addresses still
  pub cut_division : IsDivision new
  cut_division = record {
    low = below;
    some = omega (arith, cut.many);
    start = first_same old new 0 0 (cut.low 0 (omega arith)) ∙ h.start;
    rising = rising;
  }
    where
      low : (k : ℕ) → k ≤ place → first_of new k ≡ first_of old k
      low k le = first_same old new k k (cut.low k (omega arith))

      high : (k : ℕ) → place + 1 < k → first_of new k ≡ first_of old (k - 1)
      high k above = first_same old new k (k - 1) (cut.high k above)

      to_cut : (j : ℕ) → j ≤ place → first_of new j < address
      to_cut j le = let is = low j le in let up = never_lower old j place h le here.within in omega arith

      from_cut : (k : ℕ) → place + 1 < k → k < length new → address < first_of new k
      from_cut k above within =
          let is = high k above in
          let many = cut.many in
          let next = here.ends (omega arith) in
          let up = never_lower old (place + 1) (k - 1) h (omega arith) (omega arith) in
          omega arith

      below : (k : ℕ) → k < length new → first_of new k < 2 ^ 32
      below k within =
          let many = cut.many in
          let inside = here.within in
          elim (cases_order k (place + 1)) [
            | inl at ↦ let is = ap (first_of new) at in let begins = cut.begins in omega arith
            | inr (inl under) ↦ let is = low k (omega arith) in let bound = h.low k (omega arith) in omega arith
            | inr (inr above) ↦ let is = high k above in let bound = h.low (k - 1) (omega arith) in omega arith
          ]

      rising : (j k : ℕ) → j < k → k < length new → first_of new j < first_of new k
      rising j k before within =
          let many = cut.many in
          elim (cases_order k (place + 1)) [
            | inl at ↦ let is = ap (first_of new) at in let begins = cut.begins in let low_j = to_cut j (omega arith) in omega arith
            | inr (inl below) ↦ let is_j = low j (omega arith) in let is_k = low k (omega arith) in let up = h.rising j k before (omega arith) in omega arith
            | inr (inr above) ↦ elim (cases_order j (place + 1)) [
              | inl at ↦ let is = ap (first_of new) at in let begins = cut.begins in let high_k = from_cut k above within in omega arith
              | inr (inl below) ↦ let low_j = to_cut j (omega arith) in let high_k = from_cut k above within in omega arith
              | inr (inr behind) ↦ let is_j = high j behind in let is_k = high k above in let up = h.rising (j - 1) (k - 1) (omega arith) (omega arith) in omega arith
            ]
          ]

  -- with one piece cut in two each piece is decided as each of its addresses still
  pub cut_tells : (f : ℕ → Option (Network × ℕ)) → Tells f old → Tells f new
  cut_tells f t = record { each = told }
    where
      told : (a k : ℕ) → a < 2 ^ 32 → IsIn new a k → decider (piece_at new k) ≡ f a
      told a k low is =
          let many = cut.many in
          elim (cases_order k (place + 1)) [
            | inl at ↦
                let begins = ap (first_of new) at ∙ cut.begins in
                let next = λ (inside : place + 1 < length old).
                let up = is.ends (omega arith) in
                let there = first_same old new (k + 1) (k + 1 - 1) (cut.high (k + 1) (omega arith)) in
                let same : first_of old (k + 1 - 1) ≡ first_of old (place + 1) = ap (first_of old) (let e : k + 1 - 1 ≡ place + 1 = omega arith in e) in
                let bound : a < first_of old (place + 1) = omega arith in bound in
                let started : address ≤ a = let from = is.begins in omega arith in
                ap (λ (n : ℕ). decider (piece_at new n)) at ∙ cut.like ∙ t.each a place low (record { within = here.within; begins = omega arith; ends = next })
            | inr (inl below) ↦
                let same = cut.low k (omega arith) in
                let first = first_same old new k k same in
                let next = λ (inside : k + 1 < length old).
                let up = is.ends (omega arith) in
                let bound : a < first_of old (k + 1) = next_low a k below inside up in bound in
                decider_same old new k k same ∙ t.each a k low (record { within = omega (arith, here.within); begins = omega (arith, is.begins); ends = next })
            | inr (inr above) ↦
                let same = cut.high k above in
                let first = first_same old new k (k - 1) same in
                let next = λ (inside : k - 1 + 1 < length old).
                let up = is.ends (omega arith) in
                let there = first_same old new (k + 1) (k + 1 - 1) (cut.high (k + 1) (omega arith)) in
                let e : k + 1 - 1 ≡ k - 1 + 1 = omega arith in
                let same_next = ap (first_of old) e in
                let bound : a < first_of old (k - 1 + 1) = omega arith in bound in
                decider_same old new k (k - 1) same ∙ t.each a (k - 1) low (record { within = (let inside = is.within in omega arith); begins = omega (arith, is.begins); ends = next })
          ]
        where
          next_low : (a k : ℕ) → k < place + 1 → k + 1 < length old → a < first_of new (k + 1) → a < first_of old (k + 1)
          next_low a k below inside up =
              elim (cases_order k place) [
                | inl at ↦
                    let e : k + 1 ≡ place + 1 = omega arith in
                    let begins = ap (first_of new) e ∙ cut.begins in
                    let same_next = ap (first_of old) e in
                    let beyond = here.ends (omega arith) in
                    omega arith
                | inr (inl lower) ↦ let there = first_same old new (k + 1) (k + 1) (cut.low (k + 1) (omega arith)) in omega arith
                | inr (inr higher) ↦ absurd (omega arith)
              ]

  -- with one piece cut where a piece may begin, each piece begins where one may
  pub cut_ends : (e : ℕ → Bool) → HaveEnds e old → e address ≡ true → HaveEnds e new
  cut_ends e t here_end = record { each = each }
    where
      each : (k : ℕ) → k < length new → e (first_of new k) ≡ true
      each k within =
          let many = cut.many in
          elim (cases_order k (place + 1)) [
            | inl at ↦ ap e (ap (first_of new) at ∙ cut.begins) ∙ here_end
            | inr (inl below) ↦ ap e (first_same old new k k (cut.low k (omega arith))) ∙ t.each k (omega (arith, here.within))
            | inr (inr above) ↦ ap e (first_same old new k (k - 1) (cut.high k above)) ∙ t.each (k - 1) (omega arith)
          ]

-- the piece at the place is gone, and the one before it has its addresses
pub record IsJoined (old new : List Piece) (place : ℕ) : Type 0 where
  pub above : 0 < place
  pub within : place < length old
  pub many : length new + 1 ≡ length old
  pub low : (k : ℕ) → k < place → piece_at new k ≡ piece_at old k
  pub high : (k : ℕ) → place ≤ k → piece_at new k ≡ piece_at old (k + 1)
  pub like : decider (piece_at old place) ≡ decider (piece_at old (place - 1))

module _ (old new : List Piece) (place : ℕ) (joined : IsJoined old new place) (h : IsDivision old) where
  -- where the piece stood before
  from : ℕ → ℕ → Type 0
  from k j = (first_of new k ≡ first_of old j) × (decider (piece_at new k) ≡ decider (piece_at old j)) × (j ≤ k + 1) × (k ≤ j)

  low_is : (k : ℕ) → k < place → first_of new k ≡ first_of old k
  low_is k below = first_same old new k k (joined.low k below)

  high_is : (k : ℕ) → place ≤ k → first_of new k ≡ first_of old (k + 1)
  high_is k above = first_same old new k (k + 1) (joined.high k above)

  side : (k : ℕ) → (k < place) ⊎ (place ≤ k)
  side k = elim (cases_order k place) [ inl at ↦ inr (omega arith) | inr (inl below) ↦ inl below | inr (inr above) ↦ inr (omega arith) ]

  -- with two pieces joined the pieces have all addresses still
  pub join_division : IsDivision new
  join_division = record {
    low = λ k within. let many = joined.many in elim (side k) [
      | inl below ↦ let is = low_is k below in let bound = h.low k (omega arith) in omega arith
      | inr above ↦ let is = high_is k above in let bound = h.low (k + 1) (omega arith) in omega arith
    ];
    some = (let many = joined.many in let within = joined.within in let above = joined.above in omega arith);
    start = low_is 0 joined.above ∙ h.start;
    rising = λ j k before within.
        let many = joined.many in
        elim (side k) [
          | inl below ↦ let is_j = low_is j (omega arith) in let is_k = low_is k below in let up = h.rising j k before (omega (arith, joined.within)) in omega arith
          | inr above ↦ let is_k = high_is k above in elim (side j) [
            | inl lower ↦ let is_j = low_is j lower in let up = h.rising j (k + 1) (omega arith) (omega arith) in omega arith
            | inr higher ↦ let is_j = high_is j higher in let up = h.rising (j + 1) (k + 1) (omega arith) (omega arith) in omega arith
          ]
        ];
  }

  -- with two pieces joined each piece is decided as each of its addresses still
  pub join_tells : (f : ℕ → Option (Network × ℕ)) → Tells f old → Tells f new
  join_tells f t = record { each = told }
    where
      told : (a k : ℕ) → a < 2 ^ 32 → IsIn new a k → decider (piece_at new k) ≡ f a
      told a k low is =
          let many = joined.many in
          let gone = joined.within in
          let within = is.within in
          elim (side k) [
            | inr above ↦
                let first = high_is k above in
                decider_same old new k (k + 1) (joined.high k above) ∙ t.each a (k + 1) low (record {
                  within = omega arith;
                  begins = omega (arith, is.begins);
                  ends = λ inside. let up = is.ends (omega arith) in let there = high_is (k + 1) (omega arith) in omega arith;
                })
            | inl below ↦
                let first = low_is k below in
                let begins = is.begins in
                elim (cases_order (k + 1) place) [
                  | inr (inl lower) ↦ decider_same old new k k (joined.low k below) ∙ t.each a k low (record {
                    within = omega arith;
                    begins = omega arith;
                    ends = λ inside. let up = is.ends (omega arith) in let there = low_is (k + 1) lower in omega arith;
                  })
                  | inl at ↦ either a k low at begins (decider_same old new k k (joined.low k below)) first (λ inside. let up = is.ends (omega arith) in let there = high_is (k + 1) (omega arith) in omega arith)
                  | inr (inr higher) ↦ absurd (omega arith)
                ]
          ]
        where
          cut_side : (a b : ℕ) → (a < b) ⊎ (b ≤ a)
          cut_side a b = elim (cases_order a b) [ inl at ↦ inr (omega arith) | inr (inl below) ↦ inl below | inr (inr above) ↦ inr (omega arith) ]

          either : (a k : ℕ) → a < 2 ^ 32 → k + 1 ≡ place → first_of new k ≤ a → decider (piece_at new k) ≡ decider (piece_at old k) → first_of new k ≡ first_of old k
              → (k + 1 + 1 < length old → a < first_of old (k + 1 + 1)) → decider (piece_at new k) ≡ f a
          either a k low at begins same first next =
              let gone = joined.within in
              elim (cut_side a (first_of old (k + 1))) [
                | inl before ↦ same ∙ t.each a k low (record { within = omega arith; begins = omega arith; ends = λ inside. before })
                | inr behind ↦
                    let k_is : k ≡ place - 1 = omega arith in
                    same ∙ ap (λ (n : ℕ). decider (piece_at old n)) k_is ∙ sym joined.like ∙ ap (λ (n : ℕ). decider (piece_at old n)) (sym at)
                    ∙ t.each a (k + 1) low (record { within = omega arith; begins = behind; ends = next })
              ]

-- the pieces from the place of the start on, to before that of the end, have the addresses of the range
pub record IsRange (pieces : List Piece) (start end low high : ℕ) : Type 0 where
  pub within : start < length pieces
  pub begins : first_of pieces start ≡ low
  pub reaches : end ≤ length pieces
  pub ends : end < length pieces → first_of pieces end ≡ high
  pub whole : end ≡ length pieces → 2 ^ 32 ≤ high

-- pieces that are changed have all addresses still
pub change_division : (change : Change) (old new : List Piece) (start end : ℕ) → AreChanged change old new start end → IsDivision old → IsDivision new
change_division change old new start end c h = record {
  low = λ k within. let many = c.many in let is = c.firsts k in let bound = h.low k (omega arith) in omega arith;
  some = let many = c.many in let some = h.some in omega arith;
  start = c.firsts 0 ∙ h.start;
  rising = λ j k before within. let many = c.many in let is_j = c.firsts j in let is_k = c.firsts k in let up = h.rising j k before (omega arith) in omega arith;
}

-- pieces that are changed begin where one may still
pub change_ends : (change : Change) (old new : List Piece) (start end : ℕ) → AreChanged change old new start end → (e : ℕ → Bool) → HaveEnds e old → HaveEnds e new
change_ends change old new start end c e t = record { each = λ k within. let many = c.many in ap e (c.firsts k) ∙ t.each k (omega arith) }

-- within the range the change, elsewhere what was
pub change_tells : (change : Change) (old new : List Piece) (start end low high : ℕ) → AreChanged change old new start end → IsDivision old → IsRange old start end low high
    → (f g : ℕ → Option (Network × ℕ)) → Tells f old
    → ((a : ℕ) → a < 2 ^ 32 → low ≤ a → a < high → g a ≡ decider_after_change change (f a))
    → ((a : ℕ) → a < 2 ^ 32 → (low ≤ a → a < high → ⊥) → g a ≡ f a)
    → Tells g new
change_tells change old new start end low high c h r f g t inside outside = record { each = told }
  where
    was_in : (a k : ℕ) → IsIn new a k → IsIn old a k
    was_in a k is = record {
      within = let many = c.many in let within = is.within in omega arith;
      begins = let same = c.firsts k in let begins = is.begins in omega arith;
      ends = λ more. let many = c.many in let same = c.firsts (k + 1) in let up = is.ends (omega arith) in omega arith;
    }

    told : (a k : ℕ) → a < 2 ^ 32 → IsIn new a k → decider (piece_at new k) ≡ g a
    told a k below is =
        let was = was_in a k is in
        let before = t.each a k below was in
        let in_old = was.within in
        let begins = was.begins in
        elim (cases_order k start) [
          | inr (inl early) ↦
              let next = was.ends (let w = r.within in omega arith) in
              let up = never_lower old (k + 1) start h (omega arith) r.within in
              let at = r.begins in
              c.before k early ∙ before ∙ sym (outside a below (λ from to. absurd (omega arith)))
          | inl at_start ↦ later a k below was before (omega arith)
          | inr (inr late) ↦ later a k below was before (omega arith)
        ]
      where
        later : (a k : ℕ) → a < 2 ^ 32 → IsIn old a k → decider (piece_at old k) ≡ f a → start ≤ k → decider (piece_at new k) ≡ g a
        later a k below was before from_start =
            let in_old = was.within in
            let begins = was.begins in
            let up = never_lower old start k h from_start in_old in
            let at = r.begins in
            elim (cases_order k end) [
              | inr (inl early) ↦
                  let to : a < high = elim (cases_order end (length old)) [
                    | inl whole ↦ let all = r.whole whole in omega arith
                    | inr (inl short) ↦
                        let next = was.ends (omega arith) in
                        let up_to = never_lower old (k + 1) end h (omega arith) short in
                        let at_end = r.ends short in
                        omega arith
                    | inr (inr beyond) ↦ let reaches = r.reaches in absurd (omega arith)
                  ] in
                  c.inside k from_start early ∙ ap (decider_after_change change) before ∙ sym (inside a below (omega arith) to)
              | inl at_end ↦ behind a k below was before (omega arith)
              | inr (inr late) ↦ behind a k below was before (omega arith)
            ]
          where
            behind : (a k : ℕ) → a < 2 ^ 32 → IsIn old a k → decider (piece_at old k) ≡ f a → end ≤ k → decider (piece_at new k) ≡ g a
            behind a k below was before from_end =
                let in_old = was.within in
                let begins = was.begins in
                let short : end < length old = omega arith in
                let at_end = r.ends short in
                let up = never_lower old end k h from_end in_old in
                c.behind k from_end ∙ before ∙ sym (outside a below (λ from to. absurd (omega arith)))

-- only the piece that the address is in may begin at it
module _ (pieces : List Piece) (place address : ℕ) (h : IsDivision pieces) (here : IsIn pieces address place) where
  only_here : (k : ℕ) → k < length pieces → first_of pieces k ≡ address → k ≡ place
  only_here k within is =
      let begins = here.begins in
      elim (cases_order k place) [
        | inl same ↦ same
        | inr (inl less) ↦ let up = h.rising k place less here.within in absurd (omega arith)
        | inr (inr more) ↦ let next = here.ends (omega arith) in let up = never_lower pieces (place + 1) k h (omega arith) within in absurd (omega arith)
      ]

  or_split : (b c : Bool) → (b || c) ≡ true → (b ≡ true) ⊎ (c ≡ true)
  or_split true c is = inl refl
  or_split false c is = inr is

  -- where no piece is joined, each begins where one may, if that one does
  pub ends_kept : (e : ℕ → Bool) → HaveEnds (λ a. e a || nat_eq a address) pieces → (first_of pieces place ≡ address → e address ≡ true) → HaveEnds e pieces
  ends_kept e t at = record {
    each = λ k within. elim (or_split (e (first_of pieces k)) (nat_eq (first_of pieces k) address) (t.each k within)) [
      | inl may ↦ may
      | inr same ↦
          let is : first_of pieces k ≡ address = grind (arith, nat_tests) in
          let k_is = only_here k within is in
          ap e is ∙ at (ap (first_of pieces) (sym k_is) ∙ is)
    ];
  }

  -- where that one is joined, no other begins at the address
  pub ends_joined : (new : List Piece) → IsJoined pieces new place → (e : ℕ → Bool) → HaveEnds (λ a. e a || nat_eq a address) pieces → HaveEnds e new
  ends_joined new joined e t = record { each = each }
    where
      other : (j : ℕ) → j < length pieces → j ≢ place → e (first_of pieces j) ≡ true
      other j within not =
          elim (or_split (e (first_of pieces j)) (nat_eq (first_of pieces j) address) (t.each j within)) [
            | inl may ↦ may
            | inr same ↦ let is : first_of pieces j ≡ address = grind (arith, nat_tests) in absurd (not (only_here j within is))
          ]

      each : (k : ℕ) → k < length new → e (first_of new k) ≡ true
      each k within =
          let many = joined.many in
          elim (cases_order k place) [
            | inr (inl below) ↦ ap e (first_same pieces new k k (joined.low k below)) ∙ other k (omega arith) (λ is. absurd (omega arith))
            | inl at ↦ ap e (first_same pieces new k (k + 1) (joined.high k (omega arith))) ∙ other (k + 1) (omega arith) (λ is. absurd (omega arith))
            | inr (inr above) ↦ ap e (first_same pieces new k (k + 1) (joined.high k (omega arith))) ∙ other (k + 1) (omega arith) (λ is. absurd (omega arith))
          ]

  -- the piece and the one before it are decided alike, if their addresses are
  pub alike_before : (f : ℕ → Option (Network × ℕ)) → Tells f pieces → address < 2 ^ 32 → 0 < place → first_of pieces place ≡ address → f (address - 1) ≡ f address → decider (piece_at pieces place) ≡ decider (piece_at pieces (place - 1))
  alike_before f t low above at same =
      let inside = here.within in
      let up = h.rising (place - 1) place (omega arith) inside in
      let step : place - 1 + 1 ≡ place = omega arith in
      let before : IsIn pieces (address - 1) (place - 1) = record { within = omega arith; begins = omega arith; ends = λ more. let next = ap (first_of pieces) step in omega arith } in
      t.each address place low here ∙ sym same ∙ sym (t.each (address - 1) (place - 1) (omega arith) before)

-- firsts never fall
pub never_falling : (pieces : List Piece) → IsDivision pieces → (j k : ℕ) (d : Piece) → j ≤ k → k < length pieces → (get_or pieces j d).first.0 ≤ (get_or pieces k d).first.0
never_falling pieces h j k d le within =
    let up = never_lower pieces j k h le within in
    rw (get_or_default pieces j d no_piece (omega arith), get_or_default pieces k d no_piece within) up

-- what a search by halves finds
pub found_in : (pieces : List Piece) (address point : ℕ) → IsDivision pieces → point ≤ length pieces → ((k : ℕ) → k < point → first_of pieces k ≤ address)
    → ((k : ℕ) → point ≤ k → k < length pieces → address < first_of pieces k) → (1 ≤ point) × IsIn pieces address (point - 1)
found_in pieces address point h bound before behind =
    let some : 1 ≤ point = elim (cases_order 0 point) [
      | inl none ↦ let start = h.start in let all = behind 0 (omega arith) h.some in absurd (omega arith)
      | inr (inl more) ↦ omega arith
      | inr (inr less) ↦ absurd (omega arith)
    ] in
    let step : point - 1 + 1 ≡ point = omega arith in (
      some,
      record {
        within = omega arith;
        begins = before (point - 1) (omega arith);
        ends = λ more. let same = ap (first_of pieces) step in let up = behind point (omega arith) (omega arith) in omega arith;
      },
    )

-- a change up to one place is a change up to an equal one
pub changed_to : (change : Change) (old new : List Piece) (start end other : ℕ) → end ≡ other → AreChanged change old new start end → AreChanged change old new start other
changed_to change old new start end other same c = subst (λ (e : ℕ). AreChanged change old new start e) same c
