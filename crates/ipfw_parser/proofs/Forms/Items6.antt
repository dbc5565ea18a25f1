-- The IPv6 prefixes that are read.
use Rattle.std.proofs.Common.{◌≡◌, ℕ, ◌+◌, ◌-◌, ◌*◌, ◌^◌, ◌<◌, ◌≤◌, zero, suc, Bool, true, false, ◌&&◌, nat_le, nat_eq, if◌then◌else◌, Some, None, Option, Ok, List, [], ◌∷◌, ◌++◌, length, take, drop, replicate, refl, arith, subst, length-append}
use Rattle.std.specs.Prelude.{IfOk, IfSome}
use Rattle.std.specs.List.{AllByRecursion, list_all}
use Rattle.std.specs.Option.{option_map}
use Rattle.std.proofs.Math.Nat.{div-mul-le_self, pow-le-pow_right}
use Rattle.std.proofs.lemmas.Bool.{eqb-true, leb-true, and_parts}
use Rattle.std.proofs.lemmas.Bool.Decides.{nat_tests}
use Rattle.std.proofs.lemmas.List.{length-replicate}
use Rattle.fw_base.specs.Prefix6.{network6, size_of, IsNetwork6}
use Rattle.fw_base.proofs.Networks6.{IsNetwork6-network6}
use Rattle.ipfw_parser.specs.declared.kind.Kind.{Kind}
use Rattle.ipfw_parser.specs.declared.kind.Kind.TheVariants.{BadAddress, BadPrefix}
use Rattle.ipfw_parser.specs.Reading.{Word}
use Rattle.ipfw_parser.specs.Numbers.{up_to, decimal}
use Rattle.ipfw_parser.specs.Parts.{part_before, part_behind, found_or}
use Rattle.ipfw_parser.specs.Addresses6.{is_hex, hex_value, hex_after, hex_number, group, each_group, colon_parts, side, gap_in, whole_groups, filled_groups, groups_by, eight_groups, address6_after, address6_in, address6, prefix6_length, prefix6}
use Rattle.ipfw_parser.proofs.Steps.Hex.{grows}
use Rattle.ipfw_parser.proofs.Steps.Sides.{grown}
use Rattle.ipfw_parser.proofs.Forms.Numbers.{up_to_on}
use Rattle.ipfw_parser.proofs.Forms.Following.{on_bind, some_bind}

hex_small : (digit : ℕ) → is_hex digit ≡ true → hex_value digit < 16
hex_small digit told = grind (arith, nat_tests)

hex_below : (text : List ℕ) (n i : ℕ) → list_all is_hex text ≡ true → n < 16 ^ i → hex_after n text < 16 ^ (i + length text)
hex_below [] n i told less = let e : i ≡ i + 0 = omega arith in subst (λ k. n < 16 ^ k) e less
hex_below (digit ∷ digits) n i told less =
    let p = and_parts (is_hex digit) (list_all is_hex digits) told in
    let e : i + 1 + length digits ≡ i + length (digit ∷ digits) = omega arith in
    subst (λ k. hex_after (16 * n + hex_value digit) digits < 16 ^ k) e (hex_below digits (16 * n + hex_value digit) (i + 1) p.1 (grows i n (hex_value digit) (hex_small digit p.0) less))

some_when : {X : Type 0} (P : X → Type 0) (b : Bool) (o : Option X) → (b ≡ true → IfSome o P) → IfSome (if b then o else None) P
some_when P true o p = p refl
some_when P false o p = tt

number_small : (text : List ℕ) → length text ≤ 4 → IfSome (hex_number text) (λ g. g < 65536)
unfolding hex_number
number_small text few =
    some_when (λ g. g < 65536) (list_all is_hex text) (Some (hex_after 0 text))
    (λ told. let e : 16 ^ (0 + length text) ≤ 16 ^ 4 = pow-le-pow_right {n = 16} (omega arith) {i = 0 + length text} {j = 4} (omega (arith, few)) in omega (arith, e, hex_below text 0 0 told (omega arith)))

group_small : (text : List ℕ) → IfSome (group text) (λ g. g < 65536)
unfolding group
group_small text =
    some_when (λ g. g < 65536) (nat_le 1 (length text) && nat_le (length text) 4) (hex_number text)
    (λ told. number_small text (leb-true (length text) 4 (and_parts (nat_le 1 (length text)) (nat_le (length text) 4) told).1))

abbrev AreGroups : List ℕ → Type 0
AreGroups groups = AllByRecursion (λ g. g < 65536) groups

each_small : (texts : List (List ℕ)) → IfSome (each_group texts) AreGroups
unfolding each_group
each_small [] = tt
each_small (text ∷ texts) =
    some_bind (group text) _ (λ g. g < 65536) AreGroups (group_small text) (λ g small.
    some_bind (each_group texts) _ AreGroups AreGroups (each_small texts) (λ gs all. (small, all)))

side_small : (text : List ℕ) → IfSome (side text) AreGroups
unfolding side
side_small [] = tt
side_small (byte ∷ bytes) = each_small (colon_parts (byte ∷ bytes))

-- eight groups of sixteen bits
abbrev AreEight : List ℕ → Type 0
AreEight groups = AreGroups groups × (length groups ≡ 8)

whole_eight : (groups : List ℕ) → AreGroups groups → IfSome (whole_groups groups) AreEight
unfolding whole_groups
whole_eight groups all = some_when AreEight (nat_eq (length groups) 8) (Some groups) (λ told. (all, eqb-true (length groups) 8 told))

all_joined : (front back : List ℕ) → AreGroups front → AreGroups back → AreGroups (front ++ back)
all_joined [] back p q = q
all_joined (g ∷ front) back p q = (p.0, all_joined front back p.1 q)

all_zero : (k : ℕ) → AreGroups (replicate k 0)
all_zero zero = tt
all_zero (suc k) = (omega arith, all_zero k)

filled_length : (front back : List ℕ) → length front + length back ≤ 7 → length (front ++ (replicate (8 - (length front + length back)) 0 ++ back)) ≡ 8
filled_length front back few =
    let k = 8 - (length front + length back) in
    let whole_is : k + (length front + length back) ≡ 8 = omega (arith, few) in
    omega (arith, length-append front (replicate k 0 ++ back), length-append (replicate {A = ℕ} k 0) back, length-replicate {A = ℕ} k 0, whole_is)

filled_eight : (front back : List ℕ) → AreGroups front → AreGroups back → IfSome (filled_groups front back) AreEight
unfolding filled_groups
filled_eight front back p q =
    some_when AreEight (nat_le (length front + length back) 7) (Some (front ++ (replicate (8 - (length front + length back)) 0 ++ back)))
    (λ told. (
      all_joined front (replicate (8 - (length front + length back)) 0 ++ back) p (all_joined (replicate (8 - (length front + length back)) 0) back (all_zero (8 - (length front + length back))) q),
      filled_length front back (leb-true (length front + length back) 7 told),
    ))

by_eight : (text : List ℕ) (gap : Option ℕ) → IfSome (groups_by text gap) AreEight
by_eight text None = some_bind (side text) whole_groups AreGroups AreEight (side_small text) whole_eight
by_eight text (Some at) =
    some_bind (side (take at text)) _ AreGroups AreEight (side_small (take at text)) (λ front p.
    some_bind (side (drop (at + 2) text)) _ AreGroups AreEight (side_small (drop (at + 2) text)) (λ back q.
    filled_eight front back p q))

after_below : (groups : List ℕ) (n k : ℕ) → AreGroups groups → n < 2 ^ (16 * k) → address6_after n groups < 2 ^ (16 * (k + length groups))
after_below [] n k all less = let e : k ≡ k + 0 = omega arith in subst (λ m. n < 2 ^ (16 * m)) e less
after_below (one ∷ groups) n k all less =
    let e : k + 1 + length groups ≡ k + length (one ∷ groups) = omega arith in
    subst (λ m. address6_after (65536 * n + one) groups < 2 ^ (16 * m)) e (after_below groups (65536 * n + one) (k + 1) all.1 (grown n k one less all.0))

map_on : (o : Option (List ℕ)) → IfSome o AreEight → IfSome (option_map (address6_after 0) o) (λ a. a < 2 ^ 128)
map_on None p = tt
map_on (Some groups) p =
    let e : 16 * (0 + length groups) ≡ 128 = omega (arith, p.1) in
    subst (λ m. address6_after 0 groups < 2 ^ m) e (after_below groups 0 0 p.0 (omega arith))

address6_in_on : (text : List ℕ) → IfSome (address6_in text) (λ a. a < 2 ^ 128)
unfolding address6_in eight_groups
address6_in_on text = map_on (groups_by text (gap_in text)) (by_eight text (gap_in text))

or_on : {X : Type 0} (kind : Kind) (column : ℕ) (o : Option X) (P : X → Type 0) → IfSome o P → IfOk (found_or kind column o) P
or_on kind column None P p = tt
or_on kind column (Some x) P p = p

address6_on : (word : Word) → IfOk (address6 word) (λ a. a < 2 ^ 128)
unfolding address6
address6_on word = or_on BadAddress word.column (address6_in word.text) (λ a. a < 2 ^ 128) (address6_in_on word.text)

length6_on : (column : ℕ) (rest : Option (List ℕ)) → IfOk (prefix6_length column rest) (λ n. n ≤ 128)
length6_on column None = omega arith
length6_on column (Some text) = or_on BadPrefix column (up_to 128 (decimal 10 text)) (λ n. n ≤ 128) (up_to_on 128 (decimal 10 text))

-- a prefix that is read has no host bits
pub prefix6_on : (word : Word) → IfOk (prefix6 word) (λ n. IsNetwork6 n × (n.address < 2 ^ 128))
unfolding prefix6
prefix6_on word =
    on_bind (address6 (record { column = word.column; text = part_before 47 word.text })) _ (λ a. a < 2 ^ 128) (λ n. IsNetwork6 n × (n.address < 2 ^ 128)) (address6_on (record { column = word.column; text = part_before 47 word.text })) (λ a small.
    on_bind (prefix6_length word.column (part_behind 47 word.text)) (λ bits. Ok (network6 a bits)) (λ n. n ≤ 128) (λ n. IsNetwork6 n × (n.address < 2 ^ 128)) (length6_on word.column (part_behind 47 word.text)) (λ bits within.
    (IsNetwork6-network6 a bits within, omega (arith, small, div-mul-le_self a (size_of bits)))))
