-- What a table keeps of its pieces, and what callers see of it.
use Rattle.std.proofs.Common.{◌≡◌, ◌≢◌, ℕ, zero, suc, ◌+◌, ◌*◌, ◌^◌, ◌<◌, ◌≤◌, Bool, true, false, cond, not, ◌||◌, nat_eq, List, [], ◌∷◌, None, Some, MatchOption, All, length, refl, sym, ap, ◌∙◌, inl, inr, arith}
use Rattle.std.specs.List.{filter, list_any}
use Rattle.std.specs.List.Sorted.{IsStrictlySortedBy}
use Rattle.std.specs.Option.{option_map}
use Rattle.std.proofs.lemmas.Bool.{cases_order}
use Rattle.std.proofs.lemmas.Bool.Decides.{nat_tests}
use Rattle.fw_base.specs.Prefix.{Network, Covers, size_of}
use Rattle.lookup_tables.specs.AddrTable.{AddrEntries, address_answer, answer_within, IsLongest}
use Rattle.lookup_tables.specs.Piece.{decider}
use Rattle.lookup_tables.specs.Pieces.{piece_at, first_of, IsIn, IsDivision, Tells, HaveEnds, ArePiecesOf, AreEntries, IsTable, is_end, deciding_entry, decided_within}
use Rattle.lookup_tables.specs.declared.piece.Piece.{Piece}
use Rattle.lookup_tables.proofs.Deciders.{answer_is, decider_is, IsDecider, NoneDecides}

-- as many as there are numbers among which all of them are

is_among : ℕ → List ℕ → Bool
is_among x ys = list_any (nat_eq x) ys

others : ℕ → List ℕ → List ℕ
unfolding is_among
others x ys = filter (λ y. not (nat_eq x y)) ys

others_fewer : (x : ℕ) (ys : List ℕ) → length (others x ys) ≤ length ys
unfolding others
others_fewer x [] = omega arith
others_fewer x (y ∷ ys) =
    let rest = others_fewer x ys in
    elim (nat_eq x y) as (λ b. length (cond (not b) (y ∷ filter (λ y. not (nat_eq x y)) ys) (filter (λ y. not (nat_eq x y)) ys)) ≤ suc (length ys)) [ true ↦ omega arith | false ↦ omega arith ]

others_less : (x : ℕ) (ys : List ℕ) → is_among x ys ≡ true → length (others x ys) < length ys
unfolding is_among others
others_less x [] among = cc
others_less x (y ∷ ys) among =
    elim (nat_eq x y) as (λ b. (b || list_any (nat_eq x) ys) ≡ true → length (cond (not b) (y ∷ filter (λ y. not (nat_eq x y)) ys) (filter (λ y. not (nat_eq x y)) ys)) < suc (length ys)) [
      | true ↦ λ here. let fewer = others_fewer x ys in omega arith
      | false ↦ λ there. let rest = others_less x ys there in omega arith
    ] among

others_keep : (x z : ℕ) (ys : List ℕ) → z ≢ x → is_among z ys ≡ true → is_among z (others x ys) ≡ true
unfolding is_among others
others_keep x z [] other among = cc
others_keep x z (y ∷ ys) other among =
    elim (nat_eq x y) as (λ b. nat_eq x y ≡ b → (nat_eq z y || list_any (nat_eq z) ys) ≡ true → list_any (nat_eq z) (cond (not b) (y ∷ filter (λ y. not (nat_eq x y)) ys) (filter (λ y. not (nat_eq x y)) ys)) ≡ true) [
      | true ↦ λ is found.
          let differs : nat_eq z y ≡ false = grind (arith, nat_tests) in
          others_keep x z ys other (rw differs at found)
      | false ↦ λ is. elim (nat_eq z y) as (λ b. (b || list_any (nat_eq z) ys) ≡ true → (b || list_any (nat_eq z) (filter (λ y. not (nat_eq x y)) ys)) ≡ true) [
        | true ↦ λ here. refl
        | false ↦ λ there. others_keep x z ys other there
      ]
    ] refl among

pigeons : (n : ℕ) (xs : ℕ → ℕ) (ys : List ℕ) → ((i j : ℕ) → i < j → j < n → xs i < xs j) → ((i : ℕ) → i < n → is_among (xs i) ys ≡ true) → n ≤ length ys
pigeons zero xs ys rising among = omega arith
pigeons (suc n) xs ys rising among =
    let rest = pigeons n xs (others (xs n) ys) (λ i j less within. rising i j less (omega arith))
    (λ i within. others_keep (xs n) (xs i) ys (λ same. let up = rising i n within (omega arith) in absurd (omega arith)) (among i (omega arith))) in
    let less = others_less (xs n) ys (among n (omega arith)) in
    omega arith

-- where the prefixes begin, and where they end
ends_of : AddrEntries → List ℕ
ends_of [] = []
ends_of (e ∷ es) = e.0.address ∷ (e.0.address + size_of e.0.bits) ∷ ends_of es

ends_many : (es : AddrEntries) → length (ends_of es) ≡ 2 * length es
unfolding ends_of
ends_many [] = refl
ends_many (e ∷ es) = let rest = ends_many es in omega arith

among_ends : (es : AddrEntries) (x : ℕ) → list_any (λ e. nat_eq x e.0.address || nat_eq x (e.0.address + size_of e.0.bits)) es ≡ true → is_among x (ends_of es) ≡ true
unfolding ends_of is_among
among_ends [] x is = is
among_ends (e ∷ es) x is =
    elim (nat_eq x e.0.address) as (λ b. ((b || nat_eq x (e.0.address + size_of e.0.bits)) || list_any (λ e. nat_eq x e.0.address || nat_eq x (e.0.address + size_of e.0.bits)) es) ≡ true
    → (b || (nat_eq x (e.0.address + size_of e.0.bits) || list_any (nat_eq x) (ends_of es))) ≡ true) [
      | true ↦ λ h. refl
      | false ↦ elim (nat_eq x (e.0.address + size_of e.0.bits)) as (λ b. (b || list_any (λ e. nat_eq x e.0.address || nat_eq x (e.0.address + size_of e.0.bits)) es) ≡ true → (b || list_any (nat_eq x) (ends_of es)) ≡ true) [
        | true ↦ λ h. refl
        | false ↦ λ h. among_ends es x h
      ]
    ] is

zero_or_end : (es : AddrEntries) (x : ℕ) → is_end es x ≡ true → is_among x (0 ∷ ends_of es) ≡ true
unfolding is_among
zero_or_end es x is =
    elim (nat_eq x 0) as (λ b. (b || list_any (λ e. nat_eq x e.0.address || nat_eq x (e.0.address + size_of e.0.bits)) es) ≡ true → (b || list_any (nat_eq x) (ends_of es)) ≡ true) [
      | true ↦ λ h. refl
      | false ↦ λ h. among_ends es x h
    ] is

-- there is at most one piece more than the prefixes have ends
pub few : (es : AddrEntries) (pieces : List Piece) → IsDivision pieces → HaveEnds (is_end es) pieces → length pieces ≤ 2 * length es + 1
few es pieces h t =
    let at_most = pigeons (length pieces) (first_of pieces) (0 ∷ ends_of es) h.rising (λ i within. zero_or_end es (first_of pieces i) (t.each i within)) in
    let many = ends_many es in
    omega arith

value_of_decider : (p : Piece) → option_map (λ (b : Network × ℕ). b.1) (decider p) ≡ p.value
value_of_decider p = elim p.value as (λ o. option_map (λ (b : Network × ℕ). b.1) (option_map (λ value. (p.prefix, value)) o) ≡ o) [ None ↦ refl | Some v ↦ refl ]

-- the answer of the piece that the address is in
pub answer_in : (es : AddrEntries) (pieces : List Piece) → AreEntries es → Tells (deciding_entry es) pieces → (a place : ℕ) → a < 2 ^ 32 → IsIn pieces a place → (piece_at pieces place).value ≡ address_answer es a
answer_in es pieces is t a place low here =
    sym (value_of_decider (piece_at pieces place)) ∙ ap (option_map (λ (b : Network × ℕ). b.1)) (t.each a place low here) ∙ answer_is es is.networks a 32

-- the pieces that a table keeps are those of its entries, as callers see them
pub pieces_of : (es : AddrEntries) (pieces : List Piece) → IsTable es pieces → ArePiecesOf es pieces
pieces_of es pieces t =
    elim (cases_order 0 (length es)) [
      | inl nothing ↦
          let none : pieces ≡ [] = t.kept.none (sym nothing) in
          let no_piece : length pieces ≡ 0 = ap length none in
          record {
            none = λ is. none;
            some = λ more. absurd (omega arith);
            start = λ more. absurd (omega arith);
            rising = λ j k less within. absurd (omega arith);
            few = omega arith;
            answers = λ a k low here. let inside = here.within in absurd (omega arith);
          }
      | inr (inl more) ↦
          let division = t.kept.division more in
          record {
            none = λ is. absurd (omega arith);
            some = λ some. division.some;
            start = λ some. division.start;
            rising = division.rising;
            few = few es pieces division t.kept.ends;
            answers = answer_in es pieces t.lawful (t.kept.tells more);
          }
      | inr (inr less) ↦ absurd (omega arith)
    ]

-- without entries and without pieces a table keeps what it has to
pub table_of_none : IsTable [] []
unfolding IsStrictlySortedBy
table_of_none = record {
  lawful = record { ordered = tt; networks = λ k d within. absurd (omega arith) };
  kept = record {
    none = λ is. refl;
    division = λ some. absurd (omega arith);
    tells = λ some. absurd (omega arith);
    ends = record { each = λ k within. absurd (omega arith) };
  };
}

-- the value of the piece that an address is in is the table's answer
pub table_answer : (es : AddrEntries) (pieces : List Piece) → IsTable es pieces → (a place : ℕ) → a < 2 ^ 32 → IsIn pieces a place → (piece_at pieces place).value ≡ address_answer es a
table_answer es pieces t a place low here =
    elim (cases_order 0 (length es)) [
      | inl nothing ↦ let none = ap length (t.kept.none (sym nothing)) in let inside = here.within in absurd (omega arith)
      | inr (inl more) ↦ answer_in es pieces t.lawful (t.kept.tells more) a place low here
      | inr (inr less) ↦ absurd (omega arith)
    ]

-- an empty table decides nothing
none_within : (a bits : ℕ) → answer_within [] a bits ≡ None
unfolding answer_within
none_within a zero = refl
none_within a (suc bits) = none_within a bits

-- a table without pieces answers nothing
pub table_answer_none : (es : AddrEntries) (pieces : List Piece) → IsTable es pieces → length pieces ≡ 0 → (a : ℕ) → None ≡ address_answer es a
table_answer_none [] pieces t nothing a = sym (none_within a 32)
table_answer_none (e ∷ es) pieces t nothing a = let division = t.kept.division (omega arith) in let some = division.some in absurd (omega arith)

-- the answer is that of the longest prefix
pub answer_longest : (es : AddrEntries) → AreEntries es → (a : ℕ) → MatchOption (address_answer es a) (All (λ entry. Covers entry.0 a → ⊥) es) (λ value. (prefix : Network) × IsLongest es a (prefix, value))
answer_longest es h a =
    rw (sym (answer_is es h.networks a 32))
    (elim (decided_within es a 32) as (λ o. MatchOption o (NoneDecides es a 32) (IsDecider es a 32) → MatchOption (option_map (λ (b : Network × ℕ). b.1) o) (All (λ entry. Covers entry.0 a → ⊥) es) (λ value. (prefix : Network) × IsLongest es a (prefix, value))) [
      | None ↦ λ none k d within. none k d within (let is = h.networks k d within in is.within)
      | Some b ↦ λ best. (
        b.0,
        record {
          listed = (best.place, best.within, best.at b);
          covers = best.covers;
          longest = λ k d within. best.longest k d within (let is = h.networks k d within in is.within);
        },
      )
    ] (decider_is es h.networks a 32))
