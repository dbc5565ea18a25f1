-- The pieces where a prefix is taken out.
use Rattle.std.proofs.Common.{◌≡◌, ℕ, ◌+◌, ◌-◌, ◌*◌, ◌/◌, ◌^◌, ◌<◌, ◌≤◌, ◌⊎◌, Bool, true, false, ◌||◌, nat_eq, List, [], ◌∷◌, Option, None, Some, IsSome, length, get_or, refl, sym, ap, ◌∙◌, inl, inr, arith}
use Rattle.std.specs.List.{list_any}
use Rattle.std.proofs.lemmas.Bool.{cases_order}
use Rattle.std.proofs.lemmas.Bool.Decides.{nat_tests}
use Rattle.fw_base.specs.Prefix.{Network, Covers, IsNetwork, network, size_of}
use Rattle.lookup_tables.specs.AddrTable.{AddrEntries, network_cmp}
use Rattle.lookup_tables.specs.Change.{AreChanged, decider_after_change}
use Rattle.lookup_tables.specs.Entries.{value_of, without_key, IsInOrder}
use Rattle.lookup_tables.specs.Pieces.{first_of, IsIn, IsDivision, Tells, HaveEnds, AreKept, AreEntries, is_end, deciding_entry, decided_within}
use Rattle.lookup_tables.specs.declared.change.Change.TheVariants.{Take}
use Rattle.lookup_tables.specs.declared.piece.Piece.{Piece}
use Rattle.lookup_tables.proofs.Cuts.{IsRange, change_tells}
use Rattle.lookup_tables.proofs.Decided.{alike_within, take_elsewhere, take_within}
use Rattle.lookup_tables.proofs.Deciders.{decided_apart, decided_on}
use Rattle.lookup_tables.proofs.Networks.{network_same}
use Rattle.lookup_tables.proofs.Puts.{any_left, each_left, ends_at}
use Rattle.lookup_tables.proofs.Ranges.{network-covers, covers-network, covers-range, range-covers, fewer, size_above}
use Rattle.lookup_tables.proofs.Values.{value_of-listed}

-- with a prefix taken out the entries are in order, and no host bit is set
pub entries_left : (es : AddrEntries) (n : Network) → AreEntries es → IsInOrder network_cmp (without_key network_cmp es n) → AreEntries (without_key network_cmp es n)
entries_left es n h ordered = record { ordered = ordered; networks = each_left network_cmp IsNetwork es n h.networks }

-- a piece begins where an address is decided otherwise than the one before it
begins_at : (pieces : List Piece) (f : ℕ → Option (Network × ℕ)) (a place : ℕ) → Tells f pieces → IsIn pieces a place → a < 2 ^ 32 → (0 < a → f (a - 1) ≡ f a → ⊥) → first_of pieces place ≡ a
begins_at pieces f a place t here low apart =
    let begins = here.begins in
    elim (cases_order (first_of pieces place) a) [
      | inl same ↦ same
      | inr (inl less) ↦
          let before : IsIn pieces (a - 1) place = record { within = here.within; begins = omega arith; ends = λ more. let up = here.ends more in omega arith } in
          absurd (apart (omega arith) (sym (t.each (a - 1) place (omega arith) before) ∙ t.each a place low here))
      | inr (inr more) ↦ absurd (omega arith)
    ]

module _ (es : AddrEntries) (n : Network) (h : AreEntries es) (there : IsSome (value_of network_cmp es n)) where
  listed : (w : ℕ) × (value_of network_cmp es n ≡ Some w)
  listed = elim (value_of network_cmp es n) as (λ o. IsSome o → (w : ℕ) × (o ≡ Some w)) [ None ↦ λ is. cc | Some w ↦ λ is. (w, refl) ] there

  -- a prefix that has an entry has no host bit set
  pub is_network : IsNetwork n
  is_network =
      let (w, is) = listed in
      let (place, within, at) = value_of-listed network_cmp network_same es n w is in
      rw (at (n, w)) at (h.networks place (n, w) within)

  -- an address in the prefix and one outside are decided by different ones
  apart : (a b : ℕ) → Covers n a → (Covers n b → ⊥) → deciding_entry es a ≡ deciding_entry es b → ⊥
  apart a b covers not same =
      let (w, is) = listed in
      let (place, within, at) = value_of-listed network_cmp network_same es n w is in
      let key : (get_or es place (n, w)).0 ≡ n = ap (λ (e : Network × ℕ). e.0) (at (n, w)) in
      decided_apart es h.networks place (n, w) a b within (rw key covers) (λ other. not (rw key at other)) same

  -- both ends of the prefix are where pieces begin
  pub range_of : (pieces : List Piece) (start end : ℕ) → IsDivision pieces → Tells (deciding_entry es) pieces → n.address < 2 ^ 32 → IsIn pieces n.address start
      → (end ≡ length pieces × (2 ^ 32 ≤ n.address + size_of n.bits)) ⊎ ((n.address + size_of n.bits < 2 ^ 32) × IsIn pieces (n.address + size_of n.bits) end)
      → IsRange pieces start end n.address (n.address + size_of n.bits) × (start ≤ end)
  range_of pieces start end division t low here reach =
      let is = is_network in
      let some = size_above n.bits in
      let first = begins_at pieces (deciding_entry es) n.address start t here low (λ above same.
      apart n.address (n.address - 1) (range-covers n n.address is (omega arith) (omega arith)) (λ before. let (from, to) = covers-range n (n.address - 1) is before in absurd (omega arith)) (sym same)) in
      let inside = here.within in
      elim reach [
        | inl (whole, high) ↦ (record { within = inside; begins = first; reaches = omega arith; ends = λ short. absurd (omega arith); whole = λ same. high }, omega arith)
        | inr (high, at_end) ↦
            let last = begins_at pieces (deciding_entry es) (n.address + size_of n.bits) end t at_end high (λ above same.
            apart (n.address + size_of n.bits - 1) (n.address + size_of n.bits) (range-covers n (n.address + size_of n.bits - 1) is (omega arith) (omega arith))
            (λ beyond. let (from, to) = covers-range n (n.address + size_of n.bits) is beyond in absurd (omega arith)) same) in
            let within_end = at_end.within in (
              record { within = inside; begins = first; reaches = omega arith; ends = λ short. last; whole = λ same. absurd (omega arith) },
              elim (cases_order start end) [
                | inl same ↦ omega arith
                | inr (inl less) ↦ omega arith
                | inr (inr more) ↦ let up = division.rising end start more inside in absurd (omega arith)
              ],
            )
      ]

  -- each piece tells what is left
  pub take_tells : (pieces new : List Piece) (start end : ℕ) → IsDivision pieces → Tells (deciding_entry es) pieces → IsRange pieces start end n.address (n.address + size_of n.bits)
      → AreChanged (Take n (decided_within (without_key network_cmp es n) n.address n.bits)) pieces new start end → Tells (deciding_entry (without_key network_cmp es n)) new
  take_tells pieces new start end division t range change =
      let is = is_network in
      let (w, value) = listed in
      change_tells (Take n (decided_within (without_key network_cmp es n) n.address n.bits)) pieces new start end n.address (n.address + size_of n.bits) change division range (deciding_entry es) (deciding_entry (without_key network_cmp es n)) t
      (λ a low from to.
      let covers = range-covers n a is from to in
      take_within es n w value a 32 is.within (network-covers n a is covers)
      ∙ ap (λ (next : Option (Network × ℕ)). decider_after_change (Take n next) (deciding_entry es a)) (alike_within (without_key network_cmp es n) a n.address n.bits (λ bits le. inl (scaled a n.address bits (fewer a n.address bits n.bits le is.within covers)))))
      (λ a low outside. take_elsewhere es n a 32 (λ within same. let (from, to) = covers-range n a is (covers-network n a same) in outside from to))
    where
      scaled : (a b bits : ℕ) → a / size_of bits ≡ b / size_of bits → network a bits ≡ network b bits
      scaled a b bits same = ap (λ (q : ℕ). at bits q) same
        where
          at : ℕ → ℕ → Network
          at bits q = record { address = q * size_of bits; bits = bits }

  -- each piece begins where one may, or at an end of the prefix
  pub ends_left : (pieces : List Piece) → HaveEnds (is_end es) pieces → HaveEnds (λ a. (is_end (without_key network_cmp es n) a || nat_eq a n.address) || nat_eq a (n.address + size_of n.bits)) pieces
  ends_left pieces t = record { each = λ place within. left (first_of pieces place) (t.each place within) }
    where
      regroup : (a b c : Bool) → (a || (b || c)) ≡ true → ((a || b) || c) ≡ true
      regroup true b c is = refl
      regroup false b c is = is

      left : (a : ℕ) → is_end es a ≡ true → ((is_end (without_key network_cmp es n) a || nat_eq a n.address) || nat_eq a (n.address + size_of n.bits)) ≡ true
      left a is =
          elim (nat_eq a 0) as (λ b. (b || list_any (λ e. ends_at a e.0) es) ≡ true → (((b || list_any (λ e. ends_at a e.0) (without_key network_cmp es n)) || nat_eq a n.address) || nat_eq a (n.address + size_of n.bits)) ≡ true) [
            | true ↦ λ zero_is. refl
            | false ↦ λ any. regroup (list_any (λ e. ends_at a e.0) (without_key network_cmp es n)) (nat_eq a n.address) (nat_eq a (n.address + size_of n.bits)) (any_left network_cmp network_same (ends_at a) es n any)
          ] is

-- where a prefix ended, an address is decided as the one before it, or another begins or ended there
pub same_or_end : (es : AddrEntries) → AreEntries es → (a : ℕ) → 0 < a → (deciding_entry es (a - 1) ≡ deciding_entry es a) ⊎ (is_end es a ≡ true)
same_or_end es h a above =
    elim (is_end es a) as (λ b. is_end es a ≡ b → (deciding_entry es (a - 1) ≡ deciding_entry es a) ⊎ (b ≡ true)) [
      | true ↦ λ is. inr refl
      | false ↦ λ not. inl (decided_on es h.networks a above not)
    ] refl

-- what is left of the pieces
pub left_kept : (es : AddrEntries) (pieces : List Piece) → 0 < length es → IsDivision pieces → Tells (deciding_entry es) pieces → HaveEnds (is_end es) pieces → AreKept es pieces
left_kept es pieces some division tells ends = record { none = λ is. absurd (omega arith); division = λ more. division; tells = λ more. tells; ends = ends }

-- where the range ends at the last address, no piece begins behind it
pub ends_low : (e : ℕ → Bool) (address : ℕ) (pieces : List Piece) → IsDivision pieces → 2 ^ 32 ≤ address → HaveEnds (λ a. e a || nat_eq a address) pieces → HaveEnds e pieces
ends_low e address pieces division high t = record {
  each = λ place within.
      let low = division.low place within in
      let other : nat_eq (first_of pieces place) address ≡ false = differ (first_of pieces place) address (omega arith) in
      first_part (e (first_of pieces place)) (nat_eq (first_of pieces place) address) other (t.each place within);
}
  where
    differ : (a b : ℕ) → a < b → nat_eq a b ≡ false
    differ a b less = grind (arith, nat_tests)

    first_part : (b c : Bool) → c ≡ false → (b || c) ≡ true → b ≡ true
    first_part true c clear h = refl
    first_part false c clear h = cc

-- a table with a value has an entry
pub some_entry : (es : AddrEntries) (n : Network) → IsSome (value_of network_cmp es n) → 0 < length es
some_entry [] n some = cc
some_entry (e ∷ es) n some = omega arith
