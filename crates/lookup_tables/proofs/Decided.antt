-- Which prefix decides an address, where a prefix is put in or taken out.
use Rattle.std.proofs.Common.{◌≡◌, ◌≢◌, ℕ, zero, suc, ◌<◌, ◌≤◌, ◌⊎◌, true, false, nat_lt, Option, None, Some, MatchOption, length, get_or, refl, sym, ap, ◌∙◌, inl, inr, arith}
use Rattle.std.specs.Option.{option_map, option_or}
use Rattle.std.proofs.lemmas.Bool.{cases_order}
use Rattle.std.proofs.lemmas.Bool.Decides.{nat_tests}
use Rattle.fw_base.specs.Prefix.{Network, IsNetwork, network}
use Rattle.lookup_tables.specs.AddrTable.{AddrEntries, network_cmp}
use Rattle.lookup_tables.specs.Change.{decider_after_change, is_prefix}
use Rattle.lookup_tables.specs.Entries.{value_of, with_entry, without_key}
use Rattle.lookup_tables.specs.Pieces.{decided_within}
use Rattle.lookup_tables.specs.declared.change.Change.TheVariants.{Put, Take}
use Rattle.lookup_tables.proofs.Networks.{network_same}
use Rattle.lookup_tables.proofs.Values.{value_of-other, value_of-put, value_of-left}

-- each entry's prefix has no host bit set
abbrev pub AreNetworks : AddrEntries → Type 0
AreNetworks entries = (place : ℕ) (d : Network × ℕ) → place < length entries → IsNetwork (get_or entries place d).0

-- the one that decides has at most that many bits
abbrev pub HasAtMost : ℕ → Option (Network × ℕ) → Type 0
HasAtMost n None = Unit {0}
HasAtMost n (Some b) = b.0.bits ≤ n

most_of_key : (a n : ℕ) (o : Option ℕ) → HasAtMost n (option_map (λ value. (network a n, value)) o)
most_of_key a n None = tt
most_of_key a n (Some v) = let e : n ≤ n = omega arith in e

most_wider : (n : ℕ) (o : Option (Network × ℕ)) → HasAtMost n o → HasAtMost (suc n) o
most_wider n None h = tt
most_wider n (Some b) h = omega arith

most_either : (n : ℕ) (o p : Option (Network × ℕ)) → HasAtMost n o → HasAtMost n p → HasAtMost n (option_or o p)
most_either n None p first second = second
most_either n (Some b) p first second = first

-- of the prefixes of at most n bits the one that decides has at most n
pub bits_within : (entries : AddrEntries) (a n : ℕ) → HasAtMost n (decided_within entries a n)
unfolding decided_within
bits_within entries a zero = most_of_key a 0 (value_of network_cmp entries (network a 0))
bits_within entries a (suc n) =
    most_either (suc n) (option_map (λ value. (network a (suc n), value)) (value_of network_cmp entries (network a (suc n)))) (decided_within entries a n)
    (most_of_key a (suc n) (value_of network_cmp entries (network a (suc n)))) (most_wider n (decided_within entries a n) (bits_within entries a n))

-- addresses of the same networks are decided alike
pub alike_within : (entries : AddrEntries) (a b n : ℕ) → ((bits : ℕ) → bits ≤ n → (network a bits ≡ network b bits) ⊎ ((value_of network_cmp entries (network a bits) ≡ None) × (value_of network_cmp entries (network b bits) ≡ None)))
    → decided_within entries a n ≡ decided_within entries b n
unfolding decided_within
alike_within entries a b zero same =
    elim (same 0 (omega arith)) [
      | inl is ↦ ap (λ (m : Network). option_map (λ (value : ℕ). (m, value)) (value_of network_cmp entries m)) is
      | inr (first, second) ↦ rw (first, second) refl
    ]
alike_within entries a b (suc n) same =
    let rest = alike_within entries a b n (λ bits le. same bits (omega arith)) in
    elim (same (suc n) (omega arith)) [
      | inl is ↦ ap (λ (m : Network). option_or (option_map (λ (value : ℕ). (m, value)) (value_of network_cmp entries m)) (decided_within entries a n)) is
          ∙ ap (λ (o : Option (Network × ℕ)). option_or (option_map (λ (value : ℕ). (network b (suc n), value)) (value_of network_cmp entries (network b (suc n)))) o) rest
      | inr (first, second) ↦ rw (first, second) rest
    ]

bits_of : (a b k : ℕ) (n : Network) → network a k ≡ n → n.bits ≡ k
bits_of a b k n is = sym (ap (λ (m : Network). m.bits) is)

-- a prefix is the same as itself
pub is_itself : (n : Network) → is_prefix n n ≡ true
is_itself n = grind (arith, nat_tests)

-- prefixes of two lengths aren't the same
pub is_other : (n m : Network) → n.bits ≢ m.bits → is_prefix n m ≡ false
is_other n m other = grind (arith, nat_tests)

module _ (entries : AddrEntries) (n : Network) (v : ℕ) where
  -- a prefix that doesn't cover the address, or has more bits, changes nothing
  pub put_elsewhere : (a bits : ℕ) → (n.bits ≤ bits → network a n.bits ≢ n) → decided_within (with_entry network_cmp entries n v) a bits ≡ decided_within entries a bits
  unfolding decided_within
  put_elsewhere a zero other =
      let same = value_of-other network_cmp network_same entries n (network a 0) v (λ is. other (omega (arith, ap (λ (m : Network). m.bits) is)) (at_bits 0 is)) in
      rw same refl
    where
      at_bits : (k : ℕ) → network a k ≡ n → network a n.bits ≡ n
      at_bits k is = ap (λ (m : Network). network a m.bits) (sym is) ∙ is
  put_elsewhere a (suc bits) other =
      let same = value_of-other network_cmp network_same entries n (network a (suc bits)) v (λ is. other (omega (arith, ap (λ (m : Network). m.bits) is)) (at_bits (suc bits) is)) in
      let rest = put_elsewhere a bits (λ le. other (omega arith)) in
      rw (same, rest) refl
    where
      at_bits : (k : ℕ) → network a k ≡ n → network a n.bits ≡ n
      at_bits k is = ap (λ (m : Network). network a m.bits) (sym is) ∙ is

  put_over : (o : Option (Network × ℕ)) → MatchOption o (Unit {0}) (λ b. b.0.bits < n.bits) → decider_after_change (Put n v) o ≡ Some (n, v)
  put_over None h = refl
  put_over (Some b) h = let less : nat_lt b.0.bits n.bits ≡ true = grind (arith, nat_tests) in rw less refl

  -- one that covers it decides where no longer one does
  pub put_within : value_of network_cmp entries n ≡ None → (a bits : ℕ) → n.bits ≤ bits → network a n.bits ≡ n
      → decided_within (with_entry network_cmp entries n v) a bits ≡ decider_after_change (Put n v) (decided_within entries a bits)
  unfolding decided_within
  put_within fresh a zero le covers =
      let zero_bits : n.bits ≡ 0 = omega arith in
      let here : network a 0 ≡ n = ap (λ (k : ℕ). network a k) (sym zero_bits) ∙ covers in
      rw (here, value_of-put network_cmp network_same entries n v, fresh) refl
  put_within fresh a (suc bits) le covers =
      elim (cases_order n.bits (suc bits)) [
        | inl last ↦
            let here : network a (suc bits) ≡ n = ap (λ (k : ℕ). network a k) (sym last) ∙ covers in
            rw (here, value_of-put network_cmp network_same entries n v, fresh)
            (sym (put_over (decided_within entries a bits) (shorter last (decided_within entries a bits) (bits_within entries a bits))))
        | inr (inl less) ↦
            let other : network a (suc bits) ≢ n = λ is. let same : suc bits ≡ n.bits = ap (λ (m : Network). m.bits) is in absurd (omega arith) in
            let rest = put_within fresh a bits (omega arith) covers in
            rw (value_of-other network_cmp network_same entries n (network a (suc bits)) v other)
            (elim (value_of network_cmp entries (network a (suc bits))) as (λ o. option_or (option_map (λ value. (network a (suc bits), value)) o) (decided_within (with_entry network_cmp entries n v) a bits)
            ≡ decider_after_change (Put n v) (option_or (option_map (λ value. (network a (suc bits), value)) o) (decided_within entries a bits))) [
              | None ↦ rest
              | Some w ↦ let longer : nat_lt (suc bits) n.bits ≡ false = grind (arith, nat_tests) in rw longer refl
            ])
        | inr (inr more) ↦ absurd (omega arith)
      ]
    where
      shorter : n.bits ≡ suc bits → (o : Option (Network × ℕ)) → HasAtMost bits o → MatchOption o (Unit {0}) (λ b. b.0.bits < n.bits)
      shorter last None h = tt
      shorter last (Some b) h = let e : b.0.bits < n.bits = omega arith in e

module _ (entries : AddrEntries) (n : Network) where
  -- taking out a prefix that doesn't cover the address, or has more bits, changes nothing
  pub take_elsewhere : (a bits : ℕ) → (n.bits ≤ bits → network a n.bits ≢ n) → decided_within (without_key network_cmp entries n) a bits ≡ decided_within entries a bits
  unfolding decided_within
  take_elsewhere a zero other =
      let same = value_of-left network_cmp network_same entries n (network a 0) (λ is. other (omega (arith, ap (λ (m : Network). m.bits) is)) (at_bits 0 is)) in
      rw same refl
    where
      at_bits : (k : ℕ) → network a k ≡ n → network a n.bits ≡ n
      at_bits k is = ap (λ (m : Network). network a m.bits) (sym is) ∙ is
  take_elsewhere a (suc bits) other =
      let same = value_of-left network_cmp network_same entries n (network a (suc bits)) (λ is. other (omega (arith, ap (λ (m : Network). m.bits) is)) (at_bits (suc bits) is)) in
      let rest = take_elsewhere a bits (λ le. other (omega arith)) in
      rw (same, rest) refl
    where
      at_bits : (k : ℕ) → network a k ≡ n → network a n.bits ≡ n
      at_bits k is = ap (λ (m : Network). network a m.bits) (sym is) ∙ is

  -- where the one that is taken out decided, the next shorter one does
  pub take_within : (w : ℕ) → value_of network_cmp entries n ≡ Some w → (a bits : ℕ) → n.bits ≤ bits → network a n.bits ≡ n
      → decided_within (without_key network_cmp entries n) a bits ≡ decider_after_change (Take n (decided_within (without_key network_cmp entries n) a n.bits)) (decided_within entries a bits)
  unfolding decided_within
  take_within w there a zero le covers =
      let zero_bits : n.bits ≡ 0 = omega arith in
      let here : network a 0 ≡ n = ap (λ (k : ℕ). network a k) (sym zero_bits) ∙ covers in
      let was : decided_within entries a 0 ≡ Some (n, w) = rw (here, there) refl in
      rw was (rw (is_itself n) (ap (λ (k : ℕ). decided_within (without_key network_cmp entries n) a k) (sym zero_bits)))
  take_within w there a (suc bits) le covers =
      elim (cases_order n.bits (suc bits)) [
        | inl last ↦
            let here : network a (suc bits) ≡ n = ap (λ (k : ℕ). network a k) (sym last) ∙ covers in
            let was : decided_within entries a (suc bits) ≡ Some (n, w) = rw (here, there) refl in
            rw was (rw (is_itself n) (ap (λ (k : ℕ). decided_within (without_key network_cmp entries n) a k) (sym last)))
        | inr (inl less) ↦
            let other : network a (suc bits) ≢ n = λ is. let same : suc bits ≡ n.bits = ap (λ (m : Network). m.bits) is in absurd (omega arith) in
            let rest = take_within w there a bits (omega arith) covers in
            rw (value_of-left network_cmp network_same entries n (network a (suc bits)) other)
            (elim (value_of network_cmp entries (network a (suc bits))) as (λ o. option_or (option_map (λ value. (network a (suc bits), value)) o) (decided_within (without_key network_cmp entries n) a bits)
            ≡ decider_after_change (Take n (decided_within (without_key network_cmp entries n) a n.bits)) (option_or (option_map (λ value. (network a (suc bits), value)) o) (decided_within entries a bits))) [
              | None ↦ rest
              | Some x ↦ rw (is_other n (network a (suc bits)) (λ is. absurd (omega arith))) refl
            ])
        | inr (inr more) ↦ absurd (omega arith)
      ]
