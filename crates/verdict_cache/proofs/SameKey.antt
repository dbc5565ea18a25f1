-- The cache takes two keys for one exactly where they are equal.
use Rattle.std.proofs.Common.{◌≡◌, ℕ, Bool, true, false, ◌==◌, Option, Some, None, nat_eq, refl, ap}
use Rattle.std.proofs.lemmas.Bool.{and_parts, and_from, eqb-true, eq-eqb}
use Rattle.std.specs.Bool.{beq}
use Rattle.std.specs.Option.{option_eq}
use Rattle.fw_base.proofs.Logic.{same_by_beq}
use Rattle.verdict_cache.specs.Key.{same_key, same_ports, same_options}
use Rattle.verdict_cache.specs.declared.key.Key.{Key}
use Rattle.verdict_cache.specs.declared.present_options.PresentOptions.{PresentOptions}

beq-itself : (a : Bool) → beq a a ≡ true
beq-itself true = refl
beq-itself false = refl

module _ {X : Type 0} (eq : X → X → Bool) where
  option_eq-true : ((x y : X) → eq x y ≡ true → x ≡ y) → (a b : Option X) → option_eq eq a b ≡ true → a ≡ b
  option_eq-true exact None None h = refl
  option_eq-true exact None (Some y) h = cc
  option_eq-true exact (Some x) None h = cc
  option_eq-true exact (Some x) (Some y) h = ap Some (exact x y h)

  option_eq-itself : ((x : X) → eq x x ≡ true) → (a : Option X) → option_eq eq a a ≡ true
  option_eq-itself itself None = refl
  option_eq-itself itself (Some x) = itself x

same_ports-equal : (a b : ℕ × ℕ) → same_ports a b ≡ true → a ≡ b
same_ports-equal a b h =
    let both = and_parts (a.0 == b.0) (a.1 == b.1) h in
    λ i. (eqb-true a.0 b.0 both.0 i, eqb-true a.1 b.1 both.1 i)

same_ports-itself : (a : ℕ × ℕ) → same_ports a a ≡ true
same_ports-itself a = and_from (a.0 == a.0) (a.1 == a.1) (eq-eqb a.0 a.0 refl) (eq-eqb a.1 a.1 refl)

same_options-equal : (a b : PresentOptions) → same_options a b ≡ true → a ≡ b
same_options-equal a b h =
    let strict = and_parts (beq a.strict_source_route b.strict_source_route) _ h in
    let loose = and_parts (beq a.loose_source_route b.loose_source_route) _ strict.1 in
    let last = and_parts (beq a.record_route b.record_route) (beq a.time_stamp b.time_stamp) loose.1 in
    λ i. record {
      strict_source_route = same_by_beq a.strict_source_route b.strict_source_route strict.0 i;
      loose_source_route = same_by_beq a.loose_source_route b.loose_source_route loose.0 i;
      record_route = same_by_beq a.record_route b.record_route last.0 i;
      time_stamp = same_by_beq a.time_stamp b.time_stamp last.1 i;
    }

same_options-itself : (a : PresentOptions) → same_options a a ≡ true
same_options-itself a =
    and_from _ _ (beq-itself a.strict_source_route) (and_from _ _ (beq-itself a.loose_source_route)
    (and_from _ _ (beq-itself a.record_route) (beq-itself a.time_stamp)))

-- keys that the cache takes for one are equal
pub same_key-equal : (a b : Key) → same_key a b ≡ true → a ≡ b
same_key-equal a b h =
    let source = and_parts (a.source.0 == b.source.0) _ h in
    let destination = and_parts (a.destination.0 == b.destination.0) _ source.1 in
    let protocol = and_parts (a.protocol == b.protocol) _ destination.1 in
    let offset = and_parts (beq a.is_offset_zero b.is_offset_zero) _ protocol.1 in
    let ports = and_parts (option_eq same_ports a.ports b.ports) _ offset.1 in
    let flags = and_parts (option_eq nat_eq a.tcp_flags b.tcp_flags) _ ports.1 in
    let type = and_parts (option_eq nat_eq a.icmp_type b.icmp_type) (same_options a.options b.options) flags.1 in
    λ i. record {
      source = record { 0 = eqb-true a.source.0 b.source.0 source.0 i };
      destination = record { 0 = eqb-true a.destination.0 b.destination.0 destination.0 i };
      protocol = eqb-true a.protocol b.protocol protocol.0 i;
      is_offset_zero = same_by_beq a.is_offset_zero b.is_offset_zero offset.0 i;
      ports = option_eq-true same_ports same_ports-equal a.ports b.ports ports.0 i;
      tcp_flags = option_eq-true nat_eq eqb-true a.tcp_flags b.tcp_flags flags.0 i;
      icmp_type = option_eq-true nat_eq eqb-true a.icmp_type b.icmp_type type.0 i;
      options = same_options-equal a.options b.options type.1 i;
    }

number-itself : (n : ℕ) → nat_eq n n ≡ true
number-itself n = eq-eqb n n refl

-- the cache takes a key for itself
pub same_key-itself : (a : Key) → same_key a a ≡ true
same_key-itself a =
    and_from _ _ (number-itself a.source.0) (and_from _ _ (number-itself a.destination.0)
    (and_from _ _ (number-itself a.protocol) (and_from _ _ (beq-itself a.is_offset_zero)
    (and_from _ _ (option_eq-itself same_ports same_ports-itself a.ports)
    (and_from _ _ (option_eq-itself nat_eq number-itself a.tcp_flags)
    (and_from _ _ (option_eq-itself nat_eq number-itself a.icmp_type) (same_options-itself a.options)))))))
