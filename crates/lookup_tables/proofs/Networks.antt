-- The order of prefixes: by address, then by length.
use Rattle.std.proofs.Common.{◌≡◌, ℕ, true, refl, ap, ◌∙◌, arith}
use Rattle.std.specs.declared.cmp.Ordering.TheVariants.{Less, Equal, Greater}
use Rattle.std.specs.Bool.{Decides}
use Rattle.std.specs.Cmp.{IsTotalOrder}
use Rattle.std.specs.Ordering.{nat_cmp, ordering_then, is_eq}
use Rattle.std.proofs.lemmas.Bool.Decides.{nat_tests}
use Rattle.std.proofs.lemmas.Cmp.{nat_cmp_total, on_total, then_total, tied_itself}
use Rattle.fw_base.specs.Prefix.{Network}
use Rattle.lookup_tables.specs.AddrTable.{network_cmp}

-- the order of prefixes is a total one
pub network_cmp_total : IsTotalOrder network_cmp
network_cmp_total = then_total (on_total (λ (n : Network). n.address) nat_cmp_total) (on_total (λ (n : Network). n.bits) nat_cmp_total)

-- two numbers are the same exactly where they compare as equal
pub number_same : (x y : ℕ) → Decides (is_eq (nat_cmp x y)) (x ≡ y)
number_same x y = (λ equal. grind (arith, nat_tests), λ equal. grind (arith, nat_tests))

network_parts : (x y : Network) → is_eq (network_cmp x y) ≡ true → (x.address ≡ y.address) × (x.bits ≡ y.bits)
network_parts x y equal =
    elim (nat_cmp x.address y.address) as (λ r. nat_cmp x.address y.address ≡ r → is_eq (ordering_then r (nat_cmp x.bits y.bits)) ≡ true → (x.address ≡ y.address) × (x.bits ≡ y.bits)) [
      | Less ↦ λ is h. cc
      | Equal ↦ λ is h. ((number_same x.address y.address).0 (ap is_eq is), (number_same x.bits y.bits).0 h)
      | Greater ↦ λ is h. cc
    ] refl equal

-- two prefixes are the same exactly where they compare as equal
pub network_same : (x y : Network) → Decides (is_eq (network_cmp x y)) (x ≡ y)
network_same x y = (
  λ equal. let (address, bits) = network_parts x y equal in ap (λ (a : ℕ). with_parts a x.bits) address ∙ ap (with_parts y.address) bits,
  λ is. rw is (ap is_eq (tied_itself network_cmp_total y)),
)
  where
    with_parts : ℕ → ℕ → Network
    with_parts address bits = record { address = address; bits = bits }
