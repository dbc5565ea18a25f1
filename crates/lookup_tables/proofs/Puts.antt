-- The pieces where a prefix is put in.
use Rattle.std.proofs.Common.{◌≡◌, ℕ, zero, suc, ◌+◌, ◌^◌, ◌<◌, ◌≤◌, Bool, true, false, cond, ◌||◌, nat_eq, List, [], ◌∷◌, None, length, get_or, refl, sym, ap, ◌∙◌, inl, inr, arith}
use Rattle.std.specs.declared.cmp.Ordering.{Ordering}
use Rattle.std.specs.declared.cmp.Ordering.TheVariants.{Less, Equal, Greater}
use Rattle.std.specs.Bool.{Decides}
use Rattle.std.specs.BTreeMap.{insert_entry, is_at}
use Rattle.std.specs.List.{list_any}
use Rattle.std.specs.Map.{remove_entry}
use Rattle.std.specs.Ordering.{match_ordering, is_eq}
use Rattle.std.proofs.lemmas.Bool.{cases_order}
use Rattle.std.proofs.lemmas.Bool.Decides.{nat_tests}
use Rattle.fw_base.specs.Prefix.{Network, IsNetwork, size_of}
use Rattle.lookup_tables.specs.AddrTable.{AddrEntries, network_cmp}
use Rattle.lookup_tables.specs.Change.{AreChanged}
use Rattle.lookup_tables.specs.Entries.{value_of, with_entry, without_key, IsInOrder}
use Rattle.lookup_tables.specs.Piece.{decider}
use Rattle.lookup_tables.specs.Pieces.{piece_at, first_of, IsDivision, Tells, HaveEnds, AreKept, AreEntries, is_end, deciding_entry, decided_within}
use Rattle.lookup_tables.specs.declared.change.Change.TheVariants.{Put}
use Rattle.lookup_tables.specs.declared.piece.Piece.{Piece}
use Rattle.lookup_tables.proofs.Cuts.{IsRange, change_division, change_ends, change_tells}
use Rattle.lookup_tables.proofs.Decided.{put_elsewhere, put_within}
use Rattle.lookup_tables.proofs.Networks.{network_same}
use Rattle.lookup_tables.proofs.Ranges.{network-covers, covers-network, covers-range, range-covers, size_above}

module _ {K V : Type 0} (cmp : K → K → Ordering) (P : K → Type 0) where
  -- what holds of the key of each entry
  abbrev pub EachKey : List (K × V) → Type 0
  EachKey es = (k : ℕ) (d : K × V) → k < length es → P (get_or es k d).0

  first_and : (e : K × V) (es : List (K × V)) → P e.0 → EachKey es → EachKey (e ∷ es)
  first_and e es one all zero d within = one
  first_and e es one all (suc k) d within = all k d (omega arith)

  rest_of : (e : K × V) (es : List (K × V)) → EachKey (e ∷ es) → EachKey es
  rest_of e es all k d within = all (suc k) d (omega arith)

  -- what each key is, where one more is put in
  pub each_put : (es : List (K × V)) (key : K) (v : V) → EachKey es → P key → EachKey (with_entry cmp es key v)
  each_put [] key v all one = first_and (key, v) [] one all
  each_put (e ∷ es) key v all one =
      let rest = rest_of e es all in
      let here = all 0 e (omega arith) in
      elim (cmp key e.0) as (λ r. EachKey (match_ordering r ((key, v) ∷ e ∷ es) ((e.0, v) ∷ es) (e ∷ insert_entry cmp es key v))) [
        | Less ↦ first_and (key, v) (e ∷ es) one all
        | Equal ↦ first_and (e.0, v) es here rest
        | Greater ↦ first_and e (insert_entry cmp es key v) here (each_put es key v rest one)
      ]

  -- and where one is taken out
  pub each_left : (es : List (K × V)) (key : K) → EachKey es → EachKey (without_key cmp es key)
  each_left [] key all = all
  each_left (e ∷ es) key all =
      let rest = rest_of e es all in
      let here = all 0 e (omega arith) in
      elim (is_at (cmp key) e.0) as (λ b. EachKey (cond b es (e ∷ remove_entry (is_at (cmp key)) es))) [
        | true ↦ rest
        | false ↦ first_and e (remove_entry (is_at (cmp key)) es) here (each_left es key rest)
      ]

module _ {K V : Type 0} (cmp : K → K → Ordering) (same : (x y : K) → Decides (is_eq (cmp x y)) (x ≡ y)) (q : K → Bool) where
  any_key : List (K × V) → Bool
  any_key es = list_any (λ e. q e.0) es

  -- a test that some key passes, where one more is put in
  pub any_put : (es : List (K × V)) (key : K) (v : V) → list_any (λ e. q e.0) es ≡ true → list_any (λ e. q e.0) (with_entry cmp es key v) ≡ true
  any_put [] key v is = cc
  any_put (e ∷ es) key v is =
      elim (cmp key e.0) as (λ r. list_any (λ e. q e.0) (match_ordering r ((key, v) ∷ e ∷ es) ((e.0, v) ∷ es) (e ∷ insert_entry cmp es key v)) ≡ true) [
        | Less ↦ or_right (q key) _ is
        | Equal ↦ is
        | Greater ↦ elim (q e.0) as (λ b. (b || list_any (λ e. q e.0) es) ≡ true → (b || list_any (λ e. q e.0) (insert_entry cmp es key v)) ≡ true) [ true ↦ λ here. refl | false ↦ λ there. any_put es key v there ] is
      ]
    where
      or_right : (b c : Bool) → c ≡ true → (b || c) ≡ true
      or_right true c h = refl
      or_right false c h = h

  -- some key passes a test that the key put in passes
  pub any_put_here : (es : List (K × V)) (key : K) (v : V) → q key ≡ true → list_any (λ e. q e.0) (with_entry cmp es key v) ≡ true
  any_put_here [] key v is = rw is refl
  any_put_here (e ∷ es) key v is =
      elim (cmp key e.0) as (λ r. cmp key e.0 ≡ r → list_any (λ e. q e.0) (match_ordering r ((key, v) ∷ e ∷ es) ((e.0, v) ∷ es) (e ∷ insert_entry cmp es key v)) ≡ true) [
        | Less ↦ λ less. rw is refl
        | Equal ↦ λ equal. let here : q e.0 ≡ true = ap q (sym ((same key e.0).0 (ap is_eq equal))) ∙ is in rw here refl
        | Greater ↦ λ greater. elim (q e.0) as (λ b. (b || list_any (λ e. q e.0) (insert_entry cmp es key v)) ≡ true) [ true ↦ refl | false ↦ any_put_here es key v is ]
      ] refl

  -- what passes is left, or is the one that is taken out
  pub any_left : (es : List (K × V)) (key : K) → list_any (λ e. q e.0) es ≡ true → (list_any (λ e. q e.0) (without_key cmp es key) || q key) ≡ true
  any_left [] key is = cc
  any_left (e ∷ es) key is =
      elim (is_at (cmp key) e.0) as (λ b. is_at (cmp key) e.0 ≡ b → (list_any (λ e. q e.0) (cond b es (e ∷ remove_entry (is_at (cmp key)) es)) || q key) ≡ true) [
        | true ↦ λ here.
            let key_is : q e.0 ≡ q key = ap q (sym ((same key e.0).0 here)) in
            swap (q e.0) (list_any (λ e. q e.0) es) (q key) key_is is
        | false ↦ λ there. elim (q e.0) as (λ b. (b || list_any (λ e. q e.0) es) ≡ true → ((b || list_any (λ e. q e.0) (remove_entry (is_at (cmp key)) es)) || q key) ≡ true) [
          | true ↦ λ passes. refl
          | false ↦ λ more. any_left es key more
        ] is
      ] refl
    where
      swap : (a b c : Bool) → a ≡ c → (a || b) ≡ true → (b || c) ≡ true
      swap true true c same is = refl
      swap true false c same is = sym same
      swap false true c same is = refl
      swap false false c same is = cc

-- the prefix begins at the address, or its range ends before it
abbrev pub ends_at : ℕ → Network → Bool
ends_at a n = nat_eq a n.address || nat_eq a (n.address + size_of n.bits)

-- where a piece may begin one may still once a prefix is put in
pub end_put : (es : AddrEntries) (n : Network) (v a : ℕ) → is_end es a ≡ true → is_end (with_entry network_cmp es n v) a ≡ true
end_put es n v a is =
    elim (nat_eq a 0) as (λ b. (b || list_any (λ e. ends_at a e.0) es) ≡ true → (b || list_any (λ e. ends_at a e.0) (with_entry network_cmp es n v)) ≡ true) [
      | true ↦ λ zero_is. refl
      | false ↦ λ any. any_put network_cmp network_same (ends_at a) es n v any
    ] is

-- at both ends of the prefix that is put in a piece may begin
pub end_put_here : (es : AddrEntries) (n : Network) (v a : ℕ) → ends_at a n ≡ true → is_end (with_entry network_cmp es n v) a ≡ true
end_put_here es n v a is =
    elim (nat_eq a 0) as (λ b. (b || list_any (λ e. ends_at a e.0) (with_entry network_cmp es n v)) ≡ true) [
      | true ↦ refl
      | false ↦ any_put_here network_cmp network_same (ends_at a) es n v is
    ]

-- with a prefix put in the entries are in order, and no host bit is set
pub entries_put : (es : AddrEntries) (n : Network) (v : ℕ) → AreEntries es → IsNetwork n → IsInOrder network_cmp (with_entry network_cmp es n v) → AreEntries (with_entry network_cmp es n v)
entries_put es n v h is ordered = record { ordered = ordered; networks = each_put network_cmp IsNetwork es n v h.networks is }

-- with a prefix put in there is an entry
pub length_put : (es : AddrEntries) (n : Network) (v : ℕ) → 0 < length (with_entry network_cmp es n v)
length_put [] n v = omega arith
length_put (e ∷ es) n v =
    elim (network_cmp n e.0) as (λ r. 0 < length (match_ordering r ((n, v) ∷ e ∷ es) ((e.0, v) ∷ es) (e ∷ insert_entry network_cmp es n v))) [ Less ↦ omega arith | Equal ↦ omega arith | Greater ↦ omega arith ]

-- the pieces that were cut at both ends of the prefix, and then changed
pub put_kept : (es : AddrEntries) (n : Network) (v : ℕ) (cut new : List Piece) (start end : ℕ) → AreEntries es → IsNetwork n → value_of network_cmp es n ≡ None
    → IsDivision cut → Tells (deciding_entry es) cut → HaveEnds (is_end (with_entry network_cmp es n v)) cut
    → IsRange cut start end n.address (n.address + size_of n.bits) → AreChanged (Put n v) cut new start end
    → AreKept (with_entry network_cmp es n v) new
put_kept es n v cut new start end h is fresh division tells ends range changed =
    record {
      none = λ nothing. let some = length_put es n v in absurd (omega arith);
      division = λ some. change_division (Put n v) cut new start end changed division;
      tells = λ some. change_tells (Put n v) cut new start end n.address (n.address + size_of n.bits) changed division range (deciding_entry es) (deciding_entry (with_entry network_cmp es n v)) tells
          (λ a low from to. put_within es n v fresh a 32 is.within (network-covers n a is (range-covers n a is from to)))
          (λ a low outside. put_elsewhere es n v a 32 (λ within same. let (from, to) = covers-range n a is (covers-network n a same) in outside from to));
      ends = change_ends (Put n v) cut new start end changed (is_end (with_entry network_cmp es n v)) ends;
    }

none_decides : (a bits : ℕ) → decided_within [] a bits ≡ None
unfolding decided_within
none_decides a zero = refl
none_decides a (suc bits) = none_decides a bits

-- the pieces before the prefix is put in, of which there is one at least
pub begun : (es : AddrEntries) (old new : List Piece) → AreKept es old → (0 < length old → new ≡ old) → (old ≡ [] → (length new ≡ 1) × (decider (piece_at new 0) ≡ None)) → IsDivision new
    → Tells (deciding_entry es) new × HaveEnds (is_end es) new
begun [] old new kept same fresh division =
    let (one, none) = fresh (kept.none refl) in (
      record { each = λ a place low here. let inside = here.within in let at : place ≡ 0 = omega arith in ap (λ (k : ℕ). decider (piece_at new k)) at ∙ none ∙ sym (none_decides a 32) },
      record { each = λ place inside. let at : place ≡ 0 = omega arith in ap (is_end []) (ap (first_of new) at ∙ division.start) },
    )
begun (e ∷ es) old new kept same fresh division =
    let before = kept.division (omega arith) in
    let is = same before.some in
    (rw is (kept.tells (omega arith)), rw is kept.ends)

-- cut at the prefix's first address
pub record AreReady (es : AddrEntries) (n : Network) (v : ℕ) (pieces : List Piece) (start : ℕ) : Type 0 where
  pub division : IsDivision pieces
  pub tells : Tells (deciding_entry es) pieces
  pub ends : HaveEnds (is_end (with_entry network_cmp es n v)) pieces
  pub within : start < length pieces
  pub begins : first_of pieces start ≡ n.address

module _ (es : AddrEntries) (n : Network) (v : ℕ) (h : AreEntries es) (is : IsNetwork n) (fresh : value_of network_cmp es n ≡ None) (pieces new : List Piece) (start : ℕ) (ready : AreReady es n v pieces start) where
  -- a prefix up to the last address is put in by a change of all pieces from its start on
  pub put_to_last : 2 ^ 32 ≤ n.address + size_of n.bits → (start ≤ length pieces → AreChanged (Put n v) pieces new start (length pieces)) → AreKept (with_entry network_cmp es n v) new
  put_to_last high change =
      let within = ready.within in
      put_kept es n v pieces new start (length pieces) h is fresh ready.division ready.tells ready.ends
      (record { within = within; begins = ready.begins; reaches = omega arith; ends = λ short. absurd (omega arith); whole = λ same. high }) (change (omega arith))

  -- a prefix that ends before the last address is put in by a change of the pieces up to its end
  pub put_to_end : (cut : List Piece) (end : ℕ) → IsDivision cut → Tells (deciding_entry es) cut → HaveEnds (is_end (with_entry network_cmp es n v)) cut → end < length cut → first_of cut end ≡ n.address + size_of n.bits
      → ((k : ℕ) → k < length pieces → first_of pieces k < n.address + size_of n.bits → first_of cut k ≡ first_of pieces k) → length pieces ≤ length cut
      → (start ≤ end → AreChanged (Put n v) cut new start end) → AreKept (with_entry network_cmp es n v) new
  put_to_end cut end division tells ends within at before longer change =
      let some = size_above n.bits in
      let inside = ready.within in
      let first = ready.begins in
      let stays = before start inside (omega arith) in
      let up : start ≤ end = elim (cases_order start end) [
        | inl same ↦ omega arith
        | inr (inl less) ↦ omega arith
        | inr (inr more) ↦ let rises = division.rising end start more (omega arith) in absurd (omega arith)
      ] in
      put_kept es n v cut new start end h is fresh division tells ends
      (record { within = omega arith; begins = stays ∙ first; reaches = omega arith; ends = λ short. at; whole = λ same. absurd (omega arith) }) (change up)

-- a prefix's own address is one of its two ends
pub begins_end : (n : Network) (a : ℕ) → a ≡ n.address → ends_at a n ≡ true
begins_end n a is = let same : nat_eq a n.address ≡ true = grind (arith, nat_tests) in rw same refl

-- the address behind a prefix's range is one of its two ends
pub ends_end : (n : Network) (a : ℕ) → a ≡ n.address + size_of n.bits → ends_at a n ≡ true
ends_end n a is =
    let same : nat_eq a (n.address + size_of n.bits) ≡ true = grind (arith, nat_tests) in
    elim (nat_eq a n.address) as (λ b. (b || nat_eq a (n.address + size_of n.bits)) ≡ true) [ true ↦ refl | false ↦ same ]

-- each piece begins where one may once the prefix is there
pub ends_more : (es : AddrEntries) (n : Network) (v : ℕ) (pieces : List Piece) → HaveEnds (is_end es) pieces → HaveEnds (is_end (with_entry network_cmp es n v)) pieces
ends_more es n v pieces t = record { each = λ place within. end_put es n v (first_of pieces place) (t.each place within) }

-- where there are pieces they have all addresses
pub kept_division : (es : AddrEntries) (pieces : List Piece) → AreKept es pieces → 0 < length pieces → IsDivision pieces
kept_division [] pieces kept some = let none = ap length (kept.none refl) in absurd (omega arith)
kept_division (e ∷ es) pieces kept some = kept.division (omega arith)
