-- ICMPv6 types in their canonical text are read again.
use Rattle.std.proofs.Common.{◌≡◌, ℕ, ◌+◌, ◌-◌, ◌%◌, ◌^◌, ◌<◌, ◌≤◌, zero, suc, min, Bool, true, false, ◌==◌, if◌then◌else◌, Result, Ok, List, ◌∷◌, ◌++◌, refl, sym, ap, ◌∙◌, arith, inl, inr, []}
use Rattle.std.specs.Prelude.{bit_or}
use Rattle.std.specs.List.{join_with_byte}
use Rattle.std.specs.Fmt.{decimal}
use Rattle.std.proofs.Math.Nat.{mod-eq_of_lt, add-zero}
use Rattle.std.proofs.lemmas.Bool.{lt-ltb, le-ltb}
use Rattle.std.proofs.lemmas.Bool.Decides.{leb_tells}
use Rattle.rule_text.specs.Canonical.{numbers_where, WordTexts}
use Rattle.fw_rule.specs.TypeSet.{has_type, no_types, with_type}
use Rattle.fw_rule.specs.WellFormed.{IsTypeSet}
use Rattle.fw_rule.specs.declared.type_set.TypeSet.{TypeSet}
use Rattle.fw_rule.proofs.Types.{low_has, high_has}
use Rattle.ipfw_parser.specs.Reading.{Fault, ◌>>=◌}
use Rattle.ipfw_parser.specs.Lists.{type_set, types6}
use Rattle.ipfw_parser.specs.Forms.{IsTypesForm}
use Rattle.rule_round_trip.proofs.Masks.Bits.{low_set, low_clear}
use Rattle.rule_round_trip.proofs.Numbers.Digits.{elements_again}
use Rattle.rule_round_trip.proofs.Masks.Signs.{AllOver}
use Rattle.rule_round_trip.proofs.Numbers.Decimal.{number_again}
use Rattle.rule_round_trip.proofs.Masks.Types.{numbers_all, free_number}
use Rattle.rule_round_trip.proofs.Lists.Sums.{further}

abbrev pair : ℕ → ℕ → TypeSet
pair low high = record { low = low; high = high }

-- the types of a set below k
below : TypeSet → ℕ → TypeSet
below set k = pair (set.low % 2 ^ min k 128) (set.high % 2 ^ (k - 128))

-- one type more, where the set has it and where it doesn't
next_has : (set : TypeSet) (k : ℕ) → has_type set k ≡ true → with_type (below set k) k ≡ below set (k + 1)
unfolding below with_type
next_has set k told = elim (leb_tells 128 k) [
  | inl high ↦
      let m : min k 128 ≡ min (k + 1) 128 = omega (arith, high.1) in let n : k - 128 + 1 ≡ k + 1 - 128 = omega (arith, high.1) in
      rw (le-ltb k 128 high.1)
      (ap (λ low. pair (set.low % 2 ^ low) (bit_or (set.high % 2 ^ (k - 128)) (2 ^ (k - 128)))) m
      ∙ ap (pair (set.low % 2 ^ min (k + 1) 128)) (low_set set.high (k - 128) (sym (high_has set k high.1) ∙ told) ∙ ap (λ i. set.high % 2 ^ i) n))
  | inr low ↦
      let m : min k 128 ≡ k = omega (arith, low.1) in let next : k + 1 ≡ min (k + 1) 128 = omega (arith, low.1) in let n : k - 128 ≡ k + 1 - 128 = omega (arith, low.1) in
      rw (lt-ltb k 128 low.1)
      (ap (λ i. pair (bit_or (set.low % 2 ^ i) (2 ^ k)) (set.high % 2 ^ (k - 128))) m
      ∙ ap (λ i. pair (bit_or (set.low % 2 ^ k) (2 ^ k)) (set.high % 2 ^ i)) n
      ∙ ap (λ l. pair l (set.high % 2 ^ (k + 1 - 128))) (low_set set.low k (sym (low_has set k low.1) ∙ told) ∙ ap (λ i. set.low % 2 ^ i) next))
]

next_lacks : (set : TypeSet) (k : ℕ) → has_type set k ≡ false → below set k ≡ below set (k + 1)
unfolding below
next_lacks set k told = elim (leb_tells 128 k) [
  | inl high ↦
      let m : min k 128 ≡ min (k + 1) 128 = omega (arith, high.1) in let n : k - 128 + 1 ≡ k + 1 - 128 = omega (arith, high.1) in
      ap (λ low. pair (set.low % 2 ^ low) (set.high % 2 ^ (k - 128))) m
      ∙ ap (pair (set.low % 2 ^ min (k + 1) 128)) (low_clear set.high (k - 128) (sym (high_has set k high.1) ∙ told) ∙ ap (λ i. set.high % 2 ^ i) n)
  | inr low ↦
      let m : min k 128 ≡ k = omega (arith, low.1) in let next : k + 1 ≡ min (k + 1) 128 = omega (arith, low.1) in let n : k - 128 ≡ k + 1 - 128 = omega (arith, low.1) in
      ap (λ i. pair (set.low % 2 ^ i) (set.high % 2 ^ (k - 128))) m
      ∙ ap (λ i. pair (set.low % 2 ^ k) (set.high % 2 ^ i)) n
      ∙ ap (λ l. pair l (set.high % 2 ^ (k + 1 - 128))) (low_clear set.low k (sym (low_has set k low.1) ∙ told) ∙ ap (λ i. set.low % 2 ^ i) next)
]

type_step : (set : TypeSet) (k column : ℕ) (more : WordTexts) (x : Bool) → has_type set k ≡ x → k ≤ 255
    → type_set (below set k) column ((if x then decimal k ∷ [] else []) ++ more) ≡ type_set (below set (k + 1)) column more
unfolding type_set
type_step set k column more true hx small =
    ap (λ r. r >>= λ n. type_set (with_type (below set k) n) column more) (number_again 0 255 k column (omega arith) small (omega arith))
    ∙ ap (λ s. type_set s column more) (next_has set k hx)
type_step set k column more false hx small = ap (λ s. type_set s column more) (next_lacks set k hx)

set_read : (set : TypeSet) (column n k : ℕ) → k + n ≤ 256 → type_set (below set k) column (numbers_where (has_type set) n k) ≡ Ok (below set (k + n))
unfolding numbers_where type_set
set_read set column zero k within = ap (λ n. let r : Result TypeSet Fault = Ok (below set n) in r) (sym (add-zero k))
set_read set column (suc n) k within =
    type_step set k column (numbers_where (has_type set) n (k + 1)) (has_type set k) refl (omega (arith, within))
    ∙ set_read set column n (k + 1) (omega (arith, within))
    ∙ ap (λ n. let r : Result TypeSet Fault = Ok (below set n) in r) (further k n)

none_below : (set : TypeSet) → no_types ≡ below set 0
unfolding no_types below
none_below set =
    let l : set.low % 1 ≡ 0 = omega arith in let h : set.high % 1 ≡ 0 = omega arith in
    ap (λ low. pair low 0) (sym l) ∙ ap (pair (set.low % 1)) (sym h)

all_below : (set : TypeSet) → IsTypeSet set → below set 256 ≡ set
unfolding below
all_below set form = ap (λ low. pair low (set.high % 2 ^ 128)) (mod-eq_of_lt form.low) ∙ ap (pair set.low) (mod-eq_of_lt form.high)

nothing : (set : TypeSet) → (let r : Result TypeSet Fault = Ok no_types in r) ≡ Ok set → set.low + set.high ≡ 0
unfolding no_types
nothing set e = let same : pair 0 0 ≡ set = cc in ap (λ (s : TypeSet). s.low + s.high) (sym same)

set_joined : (texts : List (List ℕ)) (set : TypeSet) (column : ℕ) → type_set no_types column texts ≡ Ok set → 0 < set.low + set.high → AllOver (λ b. b == 44 ≡ false) texts
    → types6 (record { column = column; text = join_with_byte 44 texts }) ≡ Ok set
unfolding type_set types6
set_joined [] set column ok some free = absurd (omega (arith, some, nothing set ok))
set_joined (text ∷ texts) set column ok some free = ap (type_set no_types column) (elements_again text texts free) ∙ ok

-- ICMPv6 types in their canonical text are read as the same set
pub types6_again : (set : TypeSet) (column : ℕ) → IsTypesForm set → types6 (record { column = column; text = join_with_byte 44 (numbers_where (has_type set) 256 0) }) ≡ Ok set
types6_again set column form =
    set_joined (numbers_where (has_type set) 256 0) set column
    (ap (λ s. type_set s column (numbers_where (has_type set) 256 0)) (none_below set) ∙ set_read set column 256 0 (omega arith) ∙ ap (λ s. let r : Result TypeSet Fault = Ok s in r) (all_below set form.set))
    form.some (numbers_all (λ b. b == 44 ≡ false) (has_type set) 256 0 (λ i less. free_number i (omega (arith, less))))
