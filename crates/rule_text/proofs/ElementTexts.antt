-- The texts of prefixes in their two parts.
use Rattle.std.proofs.Common.{◌≡◌, ◌≢◌, ℕ, ◌++◌, ◌∷◌, [], if◌then◌else◌, ◌==◌, refl, ap, sym, ◌∙◌, subst, inl, inr}
use Rattle.std.proofs.lemmas.Bool.Decides.{eqb_tells}
use Rattle.std.proofs.lemmas.List.{append-nil}
use Rattle.std.specs.Fmt.{decimal}
use Rattle.fw_base.specs.Prefix.{Network}
use Rattle.fw_base.specs.Addr.{address_text}
use Rattle.fw_base.specs.Prefix6.{Network6}
use Rattle.rule_text.specs.Canonical.{network_text}
use Rattle.rule_text.specs.Address6Text.{network6_text, address6_text}

-- a prefix's text is its address, and its length where that isn't 32
pub network_text-split : (n : Network) (address : ℕ) → address ≡ n.address → network_text n ≡ address_text address ++ (if n.bits == 32 then [] else 47 ∷ decimal n.bits)
unfolding network_text
network_text-split n address e = ap (λ a. address_text a ++ (if n.bits == 32 then [] else 47 ∷ decimal n.bits)) (sym e)

-- an IPv6 prefix's text is its address, and its length where that isn't 128
pub network6_text-split : (n : Network6) (address : ℕ) → address ≡ n.address → network6_text n ≡ address6_text address ++ (if n.bits == 128 then [] else 47 ∷ decimal n.bits)
unfolding network6_text
network6_text-split n address e = ap (λ a. address6_text a ++ (if n.bits == 128 then [] else 47 ∷ decimal n.bits)) (sym e)

-- a length that isn't the whole one
pub length-written : (whole own bits : ℕ) → bits ≡ own → bits ≢ whole → (if own == whole then [] else 47 ∷ decimal own) ≡ 47 ∷ (decimal bits ++ [])
length-written whole own bits same other =
    subst (λ b. (if b == whole then [] else 47 ∷ decimal b) ≡ 47 ∷ (decimal bits ++ [])) same
    (elim (eqb_tells bits whole) [
      | inl h ↦ absurd (other h.1)
      | inr h ↦ rw h.0 (ap (λ rest. 47 ∷ rest) (sym (append-nil (decimal bits))))
    ])

-- the whole length isn't written
pub length-unwritten : (whole own bits : ℕ) → bits ≡ own → bits ≡ whole → (if own == whole then [] else 47 ∷ decimal own) ≡ []
length-unwritten whole own bits same all = elim (eqb_tells own whole) [
  | inl h ↦ rw h.0 refl
  | inr h ↦ absurd (h.1 (sym same ∙ all))
]
