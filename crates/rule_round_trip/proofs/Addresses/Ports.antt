-- Lists of ports in their canonical text are read again.
use Rattle.std.proofs.Common.{◌≡◌, ℕ, ◌+◌, ◌^◌, ◌<◌, ◌≤◌, true, false, not, ◌==◌, nat_le, if◌then◌else◌, Some, None, Option, Result, Ok, List, ◌∷◌, ◌++◌, length, map, refl, ap, ◌∙◌, arith, inl, inr, option_and_then, slice_get, []}
use Rattle.std.specs.List.{list_all, AllByRecursion, join_with_byte, position_or_len}
use Rattle.std.specs.Fmt.{decimal}
use Rattle.std.proofs.lemmas.Bool.{le-leb, le-ltb, and_parts}
use Rattle.std.proofs.lemmas.Bool.Decides.{eqb_tells}
use Rattle.std.proofs.lemmas.Fmt.{decimal_nonempty}
use Rattle.std.proofs.lemmas.List.{append-nil}
use Rattle.std.proofs.Math.Numerals.{one-add}
use Rattle.rule_round_trip.proofs.Addresses.Four.{free_decimal}
use Rattle.fw_base.specs.PortRange.{Ports}
use Rattle.rule_text.specs.Canonical.{range_text}
use Rattle.fw_rule.specs.WellFormed.{IsRange}
use Rattle.ipfw_parser.specs.Reading.{Word, Fault, fault_at, ◌>>=◌, same}
use Rattle.ipfw_parser.specs.declared.kind.Kind.TheVariants.{BadRange}
use Rattle.ipfw_parser.specs.Numbers.{starts_with_digit, up_to}
use Rattle.ipfw_parser.specs.Names.{place, service, service_names, service_ports}
use Rattle.ipfw_parser.specs.Lists.{each_element}
use Rattle.ipfw_parser.specs.Parts.{part_before, part_behind}
use Rattle.ipfw_parser.specs.Ports.{ranges, range, range_to, port, port_by, found_port}
use Rattle.rule_round_trip.proofs.Numbers.Decimal.{decimal_again, all_digits}
use Rattle.rule_round_trip.proofs.Numbers.Digits.{IsFree, elements_again, free_append, before_free, behind_free, before_there, behind_there, starts_digits, starts_plain, not_same}

no_entry_len : (text : List ℕ) (table : List (List ℕ)) → starts_with_digit text ≡ true → list_all starts_plain table ≡ true → position_or_len (λ name. same text name) table ≡ length table
no_entry_len text [] digit plain = refl
no_entry_len text (name ∷ table) digit plain =
    let both = and_parts (starts_plain name) (list_all starts_plain table) plain in
    ap (λ t. if not t then 1 + position_or_len (λ n. same text n) table else 0) (not_same text name digit both.0) ∙ ap (λ n. 1 + n) (no_entry_len text table digit both.1) ∙ one-add (length table)

no_entry : (text : List ℕ) (table : List (List ℕ)) → starts_with_digit text ≡ true → list_all starts_plain table ≡ true → place table text ≡ None
unfolding place
no_entry text table digit plain =
    ap (λ t. if t then Some (position_or_len (λ name. same text name) table) else None) (le-ltb (position_or_len (λ name. same text name) table) (length table) (omega (arith, no_entry_len text table digit plain)))

plain_services : list_all starts_plain service_names ≡ true
unfolding service_names
plain_services = refl

no_service : (n : ℕ) → n < 2 ^ 32 → service (decimal n) ≡ None
unfolding service
no_service n small =
    ap (λ found. option_and_then (λ (k : ℕ). slice_get service_ports k) found) (no_entry (decimal n) service_names (starts_digits (decimal n) (decimal_nonempty n (omega arith)) (all_digits n small)) plain_services)

port_again : (n column : ℕ) → n ≤ 65535 → port (record { column = column; text = decimal n }) ≡ Ok n
unfolding port
port_again n column small =
    let word : Word = record { column = column; text = decimal n } in
    ap (port_by word) (no_service n (omega arith))
    ∙ ap (λ found. found_port column (up_to 65535 found)) (decimal_again n (omega arith))
    ∙ ap (λ b. found_port column (if b then Some n else None)) (le-leb n 65535 small)

-- reading the range whose parts around the dash these are
range_by : (column : ℕ) (text low : List ℕ) (high : Option (List ℕ)) (n : ℕ) → part_before 45 text ≡ low → part_behind 45 text ≡ high → port (record { column = column; text = low }) ≡ Ok n
    → range (record { column = column; text = text }) ≡ range_to column n high
unfolding range
range_by column text low high n front back ok =
    ap (λ t. port (record { column = column; text = t }) >>= λ p. range_to column p (part_behind 45 text)) front
    ∙ ap (λ h. port (record { column = column; text = low }) >>= λ p. range_to column p h) back
    ∙ ap (λ r. r >>= λ p. range_to column p high) ok

high_again : (r : Ports) (column : ℕ) → IsRange r → range_to column r.low (Some (decimal r.high)) ≡ Ok r
high_again r column good =
    ap (λ p. p >>= λ high. if nat_le r.low high then Ok (record { low = r.low; high = high }) else fault_at column BadRange) (port_again r.high column good.1)
    ∙ ap (λ b. let p : Ports = record { low = r.low; high = r.high } in let a : Result Ports Fault = if b then Ok p else fault_at column BadRange in a) (le-leb r.low r.high good.0)

range_again : (r : Ports) (column : ℕ) → IsRange r → range (record { column = column; text = range_text r }) ≡ Ok r
unfolding range_text
range_again r column good = elim (eqb_tells r.low r.high) [
  | inl h ↦
      ap (λ b. range (record { column = column; text = decimal r.low ++ (if b then [] else 45 ∷ decimal r.high) })) h.0
      ∙ ap (λ t. range (record { column = column; text = t })) (append-nil (decimal r.low))
      ∙ range_by column (decimal r.low) (decimal r.low) None r.low (before_free 45 (decimal r.low) (free_decimal 45 r.low refl (omega arith))) (behind_free 45 (decimal r.low) (free_decimal 45 r.low refl (omega arith))) (port_again r.low column (omega arith))
      ∙ ap (λ n. let p : Ports = record { low = r.low; high = n } in let a : Result Ports Fault = Ok p in a) h.1
  | inr h ↦
      ap (λ b. range (record { column = column; text = decimal r.low ++ (if b then [] else 45 ∷ decimal r.high) })) h.0
      ∙ range_by column (decimal r.low ++ 45 ∷ decimal r.high) (decimal r.low) (Some (decimal r.high)) r.low (before_there 45 (decimal r.low) (decimal r.high) (free_decimal 45 r.low refl (omega arith)))
      (behind_there 45 (decimal r.low) (decimal r.high) (free_decimal 45 r.low refl (omega arith))) (port_again r.low column (omega arith))
      ∙ high_again r column good
]

free_range : (r : Ports) → IsRange r → IsFree 44 (range_text r)
unfolding range_text
free_range r good = elim (r.low == r.high) as (λ b. IsFree 44 (decimal r.low ++ (if b then [] else 45 ∷ decimal r.high))) [
  | true ↦ free_append 44 (decimal r.low) [] (free_decimal 44 r.low refl (omega arith)) tt
  | false ↦ free_append 44 (decimal r.low) (45 ∷ decimal r.high) (free_decimal 44 r.low refl (omega arith)) (refl, free_decimal 44 r.high refl (omega arith))
]

free_ranges : (all : List Ports) → AllByRecursion IsRange all → AllByRecursion (IsFree 44) (map range_text all)
free_ranges [] good = tt
free_ranges (r ∷ all) good = (free_range r good.0, free_ranges all good.1)

each_again : (all : List Ports) (column : ℕ) → AllByRecursion IsRange all → each_element range column (map range_text all) ≡ Ok all
unfolding each_element
each_again [] column good = refl
each_again (r ∷ all) column good =
    ap (λ p. p >>= λ x. each_element range column (map range_text all) >>= λ xs. Ok (x ∷ xs)) (range_again r column good.0)
    ∙ ap (λ p. p >>= λ xs. let a : Result (List Ports) Fault = Ok (r ∷ xs) in a) (each_again all column good.1)

-- a list of port ranges in its canonical text is read as these ranges
pub ranges_again : (first : Ports) (others : List Ports) (column : ℕ) → AllByRecursion IsRange (first ∷ others) → ranges (record { column = column; text = join_with_byte 44 (map range_text (first ∷ others)) }) ≡ Ok (first ∷ others)
unfolding ranges
ranges_again first others column good =
    ap (each_element range column) (elements_again (range_text first) (map range_text others) (free_ranges (first ∷ others) good)) ∙ each_again (first ∷ others) column good
