-- ICMP and ICMPv6 types: the masks and sets that are read.
use Rattle.std.proofs.Common.{ℕ, ◌+◌, ◌-◌, ◌^◌, ◌<◌, ◌≤◌, ◌==◌, if◌then◌else◌, inl, inr, List, ◌∷◌, take, sym, arith, subst, []}
use Rattle.std.specs.Prelude.{bit_or, IfOk}
use Rattle.std.specs.List.{position_or_len}
use Rattle.std.proofs.lemmas.Bool.{cases_lt, lt-ltb, le-ltb}
use Rattle.std.proofs.lemmas.Nat.{pow_pos, or_lt, le_or_l, le_or_r, pow_below}
use Rattle.fw_rule.specs.WellFormed.{IsFromTo, IsTypeSet}
use Rattle.ipfw_parser.specs.Reading.{Word}
use Rattle.ipfw_parser.specs.Numbers.{number}
use Rattle.ipfw_parser.specs.Lists.{elements_left, type_mask, types, type_set, types6}
use Rattle.ipfw_parser.specs.Forms.{IsTypesForm}
use Rattle.fw_rule.specs.TypeSet.{no_types, with_type}
use Rattle.fw_rule.specs.declared.type_set.TypeSet.{TypeSet}
use Rattle.ipfw_parser.proofs.Steps.Cuts.{elements_first, left_at}
use Rattle.ipfw_parser.proofs.Forms.Numbers.{number_on}
use Rattle.ipfw_parser.proofs.Forms.Following.{on_bind, weaker}

-- the mask that was read has bits below 32 alone, and those that were there
record IsGrown (mask out : ℕ) : Type 0 where
  below : out < 2 ^ 32
  more : mask ≤ out

type_grows : (mask column : ℕ) (texts : List (List ℕ)) → mask < 2 ^ 32 → IfOk (type_mask mask column texts) (λ out. IsGrown mask out)
unfolding type_mask
type_grows mask column [] below = record { below = below; more = omega arith }
type_grows mask column (text ∷ texts) below =
    on_bind (number 0 31 (record { column = column; text = text })) (λ n. type_mask (bit_or mask (2 ^ n)) column texts) (λ n. IsFromTo 0 31 n) (λ out. IsGrown mask out)
    (number_on 0 31 (record { column = column; text = text }))
    (λ n small. weaker (type_mask (bit_or mask (2 ^ n)) column texts) (λ out. IsGrown (bit_or mask (2 ^ n)) out) (λ out. IsGrown mask out)
    (type_grows (bit_or mask (2 ^ n)) column texts (or_lt 32 mask (2 ^ n) below (pow_below n 32 (omega (arith, small.most_ge)))))
    (λ out g. record { below = g.below; more = omega (arith, g.more, le_or_l mask (2 ^ n)) }))

some_types : (column : ℕ) (text : List ℕ) (texts : List (List ℕ)) → IfOk (type_mask 0 column (text ∷ texts)) (λ out. (0 < out) × (out < 2 ^ 32))
unfolding type_mask
some_types column text texts =
    on_bind (number 0 31 (record { column = column; text = text })) (λ n. type_mask (bit_or 0 (2 ^ n)) column texts) (λ n. IsFromTo 0 31 n) (λ out. (0 < out) × (out < 2 ^ 32))
    (number_on 0 31 (record { column = column; text = text }))
    (λ n small. weaker (type_mask (bit_or 0 (2 ^ n)) column texts) (λ out. IsGrown (bit_or 0 (2 ^ n)) out) (λ out. (0 < out) × (out < 2 ^ 32))
    (type_grows (bit_or 0 (2 ^ n)) column texts (or_lt 32 0 (2 ^ n) (pow_pos 32) (pow_below n 32 (omega (arith, small.most_ge)))))
    (λ out g. (omega (arith, g.more, le_or_r 0 (2 ^ n), pow_pos n), g.below)))

-- ICMP types that are read are a mask of 32 bits with some bit
pub types_on : (word : Word) → IfOk (types word) (λ out. (0 < out) × (out < 2 ^ 32))
unfolding types
types_on word =
    subst (λ texts. IfOk (type_mask 0 word.column texts) (λ out. (0 < out) × (out < 2 ^ 32))) (sym (elements_first word.text))
    (some_types word.column (take (position_or_len (λ b. b == 44) word.text) word.text) (elements_left (left_at (position_or_len (λ b. b == 44) word.text) word.text)))

-- the set that was read has types to 255 alone, and those that were there
record IsSetGrown (set out : TypeSet) : Type 0 where
  valid : IsTypeSet out
  more : set.low + set.high ≤ out.low + out.high

-- a set with one type more has 256 types at most, and some
record IsSetWith (set out : TypeSet) : Type 0 where
  valid : IsTypeSet out
  more : set.low + set.high ≤ out.low + out.high
  some : 0 < out.low + out.high

with_low : (set : TypeSet) (n : ℕ) → n < 128 → IsTypeSet set → IsSetWith set (record set { low = bit_or set.low (2 ^ n) })
with_low set n small valid = record {
  valid = record { low = or_lt 128 set.low (2 ^ n) valid.low (pow_below n 128 small); high = valid.high };
  more = omega (arith, le_or_l set.low (2 ^ n));
  some = omega (arith, le_or_r set.low (2 ^ n), pow_pos n);
}

with_high : (set : TypeSet) (n : ℕ) → n < 128 → IsTypeSet set → IsSetWith set (record set { high = bit_or set.high (2 ^ n) })
with_high set n small valid = record {
  valid = record { low = valid.low; high = or_lt 128 set.high (2 ^ n) valid.high (pow_below n 128 small) };
  more = omega (arith, le_or_l set.high (2 ^ n));
  some = omega (arith, le_or_r set.high (2 ^ n), pow_pos n);
}

with_one : (set : TypeSet) (n : ℕ) → n ≤ 255 → IsTypeSet set → IsSetWith set (with_type set n)
unfolding with_type
with_one set n small valid = elim (cases_lt n 128) [
  | inl h ↦ subst (λ b. IsSetWith set (if b then record set { low = bit_or set.low (2 ^ n) } else record set { high = bit_or set.high (2 ^ (n - 128)) })) (sym (lt-ltb n 128 h)) (with_low set n h valid)
  | inr h ↦ subst (λ b. IsSetWith set (if b then record set { low = bit_or set.low (2 ^ n) } else record set { high = bit_or set.high (2 ^ (n - 128)) })) (sym (le-ltb n 128 h)) (with_high set (n - 128) (omega (arith, small, h)) valid)
]

set_grows : (set : TypeSet) (column : ℕ) (texts : List (List ℕ)) → IsTypeSet set → IfOk (type_set set column texts) (λ out. IsSetGrown set out)
unfolding type_set
set_grows set column [] valid = record { valid = valid; more = omega arith }
set_grows set column (text ∷ texts) valid =
    on_bind (number 0 255 (record { column = column; text = text })) (λ n. type_set (with_type set n) column texts) (λ n. IsFromTo 0 255 n) (λ out. IsSetGrown set out)
    (number_on 0 255 (record { column = column; text = text }))
    (λ n small. weaker (type_set (with_type set n) column texts) (λ out. IsSetGrown (with_type set n) out) (λ out. IsSetGrown set out)
    (set_grows (with_type set n) column texts (with_one set n small.most_ge valid).valid)
    (λ out g. record { valid = g.valid; more = omega (arith, g.more, (with_one set n small.most_ge valid).more) }))

none_valid : IsTypeSet no_types
unfolding no_types
none_valid = record { low = omega arith; high = omega arith }

some_set : (column : ℕ) (text : List ℕ) (texts : List (List ℕ)) → IfOk (type_set no_types column (text ∷ texts)) IsTypesForm
unfolding type_set
some_set column text texts =
    on_bind (number 0 255 (record { column = column; text = text })) (λ n. type_set (with_type no_types n) column texts) (λ n. IsFromTo 0 255 n) IsTypesForm
    (number_on 0 255 (record { column = column; text = text }))
    (λ n small. weaker (type_set (with_type no_types n) column texts) (λ out. IsSetGrown (with_type no_types n) out) IsTypesForm
    (set_grows (with_type no_types n) column texts (with_one no_types n small.most_ge none_valid).valid)
    (λ out g. record { set = g.valid; some = omega (arith, g.more, (with_one no_types n small.most_ge none_valid).some) }))

-- some type is read
pub types6_on : (word : Word) → IfOk (types6 word) IsTypesForm
unfolding types6
types6_on word =
    subst (λ texts. IfOk (type_set no_types word.column texts) IsTypesForm) (sym (elements_first word.text))
    (some_set word.column (take (position_or_len (λ b. b == 44) word.text) word.text) (elements_left (left_at (position_or_len (λ b. b == 44) word.text) word.text)))
