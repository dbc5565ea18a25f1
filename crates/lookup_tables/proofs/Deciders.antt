-- That the longest prefix decides, and what this says of two addresses.
use Rattle.std.proofs.Common.{◌≡◌, ℕ, zero, suc, ◌+◌, ◌-◌, ◌<◌, ◌≤◌, ◌⊎◌, Bool, true, false, nat_eq, ◌||◌, List, [], ◌∷◌, Option, None, Some, MatchOption, length, get_or, refl, sym, ap, subst, ◌∙◌, inl, inr, arith}
use Rattle.std.specs.List.{list_any}
use Rattle.std.specs.Map.{lookup}
use Rattle.std.specs.Option.{option_map, option_or}
use Rattle.std.proofs.lemmas.Bool.{cases_order}
use Rattle.std.proofs.lemmas.Bool.Decides.{nat_tests}
use Rattle.std.specs.BTreeMap.{is_at}
use Rattle.fw_base.specs.Prefix.{Network, Covers, IsNetwork, network, size_of}
use Rattle.lookup_tables.specs.AddrTable.{AddrEntries, has_prefix, answer_within, network_cmp}
use Rattle.lookup_tables.specs.Entries.{value_of}
use Rattle.lookup_tables.specs.Pieces.{decided_within, deciding_entry, is_end}
use Rattle.lookup_tables.proofs.Decided.{AreNetworks, alike_within}
use Rattle.lookup_tables.proofs.Networks.{network_same}
use Rattle.lookup_tables.proofs.Ranges.{network-covers, covers-network, fewer, step_back}
use Rattle.lookup_tables.proofs.Values.{value_of-listed, value_of-missing}

-- an entry that is the longest with the address among those of at most that many bits
pub record IsDecider (entries : AddrEntries) (a bits : ℕ) (entry : Network × ℕ) : Type 0 where
  pub place : ℕ
  pub within : place < length entries
  pub at : (d : Network × ℕ) → get_or entries place d ≡ entry
  pub covers : Covers entry.0 a
  pub longest : (k : ℕ) (d : Network × ℕ) → k < length entries → (get_or entries k d).0.bits ≤ bits → Covers (get_or entries k d).0 a → (get_or entries k d).0.bits ≤ entry.0.bits

-- no prefix of at most that many bits covers the address
abbrev pub NoneDecides : AddrEntries → ℕ → ℕ → Type 0
NoneDecides entries a bits = (k : ℕ) (d : Network × ℕ) → k < length entries → (get_or entries k d).0.bits ≤ bits → Covers (get_or entries k d).0 a → ⊥

module _ (entries : AddrEntries) (networks : AreNetworks entries) where
  found : (a bits v : ℕ) → value_of network_cmp entries (network a bits) ≡ Some v → IsDecider entries a bits (network a bits, v)
  found a bits v is =
      let (place, within, at) = value_of-listed network_cmp network_same entries (network a bits) v is in
      record { place = place; within = within; at = at; covers = covers-network (network a bits) a refl; longest = λ k d inside short covers. short }

  missing : (a bits : ℕ) → value_of network_cmp entries (network a bits) ≡ None → (k : ℕ) (d : Network × ℕ) → k < length entries → (get_or entries k d).0.bits ≡ bits → Covers (get_or entries k d).0 a → ⊥
  missing a bits none k d inside same covers =
      value_of-missing network_cmp network_same entries (network a bits) none k d inside
      (sym (network-covers (get_or entries k d).0 a (networks k d inside) covers) ∙ ap (λ (n : ℕ). network a n) same)

  -- an address is decided by the longest prefix that covers it, or by none where none covers it
  pub decider_is : (a bits : ℕ) → MatchOption (decided_within entries a bits) (NoneDecides entries a bits) (IsDecider entries a bits)
  unfolding decided_within
  decider_is a zero =
      elim (value_of network_cmp entries (network a 0)) as (λ o. value_of network_cmp entries (network a 0) ≡ o → MatchOption (option_map (λ value. (network a 0, value)) o) (NoneDecides entries a 0) (IsDecider entries a 0)) [
        | None ↦ λ is k d inside short covers. missing a 0 is k d inside (omega arith) covers
        | Some v ↦ λ is. found a 0 v is
      ] refl
  decider_is a (suc bits) =
      let rest = decider_is a bits in
      elim (value_of network_cmp entries (network a (suc bits))) as (λ o. value_of network_cmp entries (network a (suc bits)) ≡ o
      → MatchOption (option_or (option_map (λ value. (network a (suc bits), value)) o) (decided_within entries a bits)) (NoneDecides entries a (suc bits)) (IsDecider entries a (suc bits))) [
        | None ↦ λ is. wider (missing a (suc bits) is) (decided_within entries a bits) rest
        | Some v ↦ λ is. found a (suc bits) v is
      ] refl
    where
      one_of : (n : ℕ) → n ≤ suc bits → (n ≡ suc bits) ⊎ (n ≤ bits)
      one_of n le = elim (cases_order n (suc bits)) [ inl same ↦ inl same | inr (inl less) ↦ inr (omega arith) | inr (inr more) ↦ absurd (omega arith) ]

      wider : ((k : ℕ) (d : Network × ℕ) → k < length entries → (get_or entries k d).0.bits ≡ suc bits → Covers (get_or entries k d).0 a → ⊥)
          → (o : Option (Network × ℕ)) → MatchOption o (NoneDecides entries a bits) (IsDecider entries a bits) → MatchOption o (NoneDecides entries a (suc bits)) (IsDecider entries a (suc bits))
      wider none None h = λ k d inside short covers. elim (one_of (get_or entries k d).0.bits short) [ inl same ↦ none k d inside same covers | inr low ↦ h k d inside low covers ]
      wider none (Some b) h = record {
        place = h.place;
        within = h.within;
        at = h.at;
        covers = h.covers;
        longest = λ k d inside short covers. elim (one_of (get_or entries k d).0.bits short) [ inl same ↦ absurd (none k d inside same covers) | inr low ↦ h.longest k d inside low covers ];
      }

  -- the key by its bits and the address
  tested : (n : Network) (a bits : ℕ) → IsNetwork n → has_prefix a bits n ≡ is_at (network_cmp (network a bits)) n
  tested n a bits is =
      elim (has_prefix a bits n) as (λ b. has_prefix a bits n ≡ b → b ≡ is_at (network_cmp (network a bits)) n) [
        | true ↦ λ yes.
            let length : n.bits ≡ bits = grind (arith, nat_tests) in
            let covers : Covers n a = grind (arith, nat_tests) in
            sym ((network_same (network a bits) n).1 (ap (λ (k : ℕ). network a k) (sym length) ∙ network-covers n a is covers))
        | false ↦ λ no. elim (is_at (network_cmp (network a bits)) n) as (λ b. is_at (network_cmp (network a bits)) n ≡ b → false ≡ b) [
          | true ↦ λ yes.
              let same : network a bits ≡ n = (network_same (network a bits) n).0 yes in
              let length : n.bits ≡ bits = sym (ap (λ (m : Network). m.bits) same) in
              let covers : Covers n a = covers-network n a (ap (λ (k : ℕ). network a k) length ∙ same) in
              let yes_then : has_prefix a bits n ≡ true = grind (arith, nat_tests) in
              cc
          | false ↦ λ never. refl
        ] refl
      ] refl

  same_lookup : (es : AddrEntries) → AreNetworks es → (a bits : ℕ) → lookup (has_prefix a bits) es ≡ value_of network_cmp es (network a bits)
  same_lookup [] nets a bits = refl
  same_lookup (e ∷ es) nets a bits =
      let rest = same_lookup es (λ k d inside. nets (suc k) d (omega arith)) a bits in
      let first = tested e.0 a bits (nets 0 e (omega arith)) in
      rw (first, rest) refl

  -- the value of the one that decides is the table's answer
  pub answer_is : (a bits : ℕ) → option_map (λ (b : Network × ℕ). b.1) (decided_within entries a bits) ≡ answer_within entries a bits
  unfolding decided_within answer_within
  answer_is a zero =
      rw (same_lookup entries networks a 0) (elim (value_of network_cmp entries (network a 0)) as (λ o. option_map (λ (b : Network × ℕ). b.1) (option_map (λ value. (network a 0, value)) o) ≡ o) [ None ↦ refl | Some v ↦ refl ])
  answer_is a (suc bits) =
      let rest = answer_is a bits in
      rw (same_lookup entries networks a (suc bits)) (elim (value_of network_cmp entries (network a (suc bits))) as (λ o. option_map (λ (b : Network × ℕ). b.1) (option_or (option_map (λ value. (network a (suc bits), value)) o) (decided_within entries a bits)) ≡ option_or o (answer_within entries a bits)) [ None ↦ rest | Some v ↦ refl ])

  -- addresses of which a prefix of the table has but one are decided by different ones
  pub decided_apart : (k : ℕ) (d : Network × ℕ) (a b : ℕ) → k < length entries → Covers (get_or entries k d).0 a → (Covers (get_or entries k d).0 b → ⊥) → deciding_entry entries a ≡ deciding_entry entries b → ⊥
  decided_apart k d a b inside covers not same =
      let is = networks k d inside in
      elim (deciding_entry entries a) as (λ o. MatchOption o (NoneDecides entries a 32) (IsDecider entries a 32) → o ≡ deciding_entry entries b → ⊥) [
        | None ↦ λ none other. none k d inside is.within covers
        | Some e ↦ λ best other.
            let there : IsDecider entries b 32 e = subst (λ (o : Option (Network × ℕ)). MatchOption o (NoneDecides entries b 32) (IsDecider entries b 32)) (sym other) (decider_is b 32) in
            let longer = best.longest k d inside is.within covers in
            let low : e.0.bits ≤ 32 = (let bound = networks best.place e best.within in rw (best.at e) at bound.within) in
            not (sym (fewer a b (get_or entries k d).0.bits e.0.bits longer low (best.covers ∙ sym there.covers)) ∙ covers)
      ] (decider_is a 32) same

  -- where no prefix begins and none ended, an address is decided as the one before it
  pub decided_on : (a : ℕ) → 0 < a → is_end entries a ≡ false → deciding_entry entries (a - 1) ≡ deciding_entry entries a
  decided_on a above not =
      sym (alike_within entries a (a - 1) 32 (λ bits le. elim (step_back a bits above) [
        | inl same ↦ inl same
        | inr (begins, ends) ↦ inr (
          no_value (network a bits) (λ k d inside is. begins_none k d inside (ap (λ (n : Network). n.address) is ∙ begins)),
          no_value (network (a - 1) bits) (λ k d inside is. ends_none k d inside (ap (λ (n : Network). n.address + size_of n.bits) is ∙ ends)),
        )
      ]))
    where
      no_value : (n : Network) → ((k : ℕ) (d : Network × ℕ) → k < length entries → (get_or entries k d).0 ≡ n → ⊥) → value_of network_cmp entries n ≡ None
      no_value n none = elim (value_of network_cmp entries n) as (λ o. value_of network_cmp entries n ≡ o → o ≡ None) [
        | None ↦ λ is. refl
        | Some v ↦ λ is. let (place, within, at) = value_of-listed network_cmp network_same entries n v is in absurd (none place (n, v) within (ap (λ (e : Network × ℕ). e.0) (at (n, v))))
      ] refl

      none_ends : (k : ℕ) (d : Network × ℕ) → k < length entries → (nat_eq a (get_or entries k d).0.address || nat_eq a ((get_or entries k d).0.address + size_of (get_or entries k d).0.bits)) ≡ false
      none_ends k d inside = any_none (λ (e : Network × ℕ). nat_eq a e.0.address || nat_eq a (e.0.address + size_of e.0.bits)) entries (behind (nat_eq a 0) _ not) k d inside
        where
          behind : (b c : Bool) → (b || c) ≡ false → c ≡ false
          behind true c is = cc
          behind false c is = is

          any_none : {X : Type 0} (p : X → Bool) (xs : List X) → list_any p xs ≡ false → (k : ℕ) (d : X) → k < length xs → p (get_or xs k d) ≡ false
          any_none p [] none k d inside = absurd (omega arith)
          any_none p (x ∷ xs) none zero d inside = elim (p x) as (λ b. (b || list_any p xs) ≡ false → b ≡ false) [ true ↦ λ is. is | false ↦ λ is. refl ] none
          any_none p (x ∷ xs) none (suc k) d inside = any_none p xs (behind (p x) (list_any p xs) none) k d (omega arith)

      begins_none : (k : ℕ) (d : Network × ℕ) → k < length entries → (get_or entries k d).0.address ≡ a → ⊥
      begins_none k d inside is = let no = none_ends k d inside in grind (arith, nat_tests)

      ends_none : (k : ℕ) (d : Network × ℕ) → k < length entries → (get_or entries k d).0.address + size_of (get_or entries k d).0.bits ≡ a → ⊥
      ends_none k d inside is = let no = none_ends k d inside in grind (arith, nat_tests)
